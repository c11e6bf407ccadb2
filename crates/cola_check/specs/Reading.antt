-- What a pass over runs needs to be told, what it spends, and why it is refused.
use Rattle.std.specs.Prelude.{◌⊎◌, ℕ, ◌+◌, ◌-◌, ◌<◌, ◌≤◌, List, [], ◌∷◌, Result, IfErr}
use Rattle.cola_outside.specs.Faults.{Rose}
use Rattle.cola_cell.specs.declared.cell.Run.{Run}
use Rattle.cola_cell.specs.declared.fault.ReadFault.{ReadFault}
use Rattle.cola_cell.specs.declared.fault.ReadFault.TheVariants.{Device, BadCell}
use Rattle.cola_cell.specs.Costs.{Costs}
use Rattle.cola_cell.specs.Held.{Held}
use Rattle.cola_cell.specs.Spent.{IsBad}
use Rattle.cola_cell.specs.State.{State}
use Rattle.cola_cell.specs.ToldCells.{AreTold}

-- a cell is told of each place of the run
abbrev pub IsRunTold : Held → Run → Type 0
IsRunTold held run = AreTold (held.spots run.level run.slot) run.len

-- a cell of a run whose bytes spell none, and its number
pub record HasBadIn (held : Held) (run : Run) (number : ℕ) : Type 0 where
  pub index : ℕ
  pub within : index < run.len
  pub bad : IsBad held run.level run.slot index number

-- the same of one of the runs
abbrev pub HasBadRun : Held → ℕ → List Run → Type 0
HasBadRun held number [] = ⊥
HasBadRun held number (run ∷ runs) = HasBadIn held run number ⊎ HasBadRun held number runs

-- the cause of a refused pass over runs: the count of faults rose, or a cell of one of the runs is bad
abbrev pub PassCause : Held → List Run → ℕ → ℕ → ReadFault → Type 0
PassCause held runs before now Device = Rose before now
PassCause held runs before now (BadCell number) = HasBadRun held number runs

module _ {A : Type 0} (old new : State) (from to : ℕ) where
  -- a call that reads at most so many cells of these runs: each in at most a tick, by turning to at most one block; and why it
  -- is refused
  pub record ReadsRuns (runs : List Run) (cells : ℕ) (result : Result A ReadFault) : Type 0 where
    pub cause : IfErr result (PassCause old.held runs old.spent.faults new.spent.faults)
    pub cost : Costs old.spent new.spent from to cells cells

  -- a call on walks over these runs, of whose cells so many were unread before it and so many are left unread after it: each
  -- tick turns to at most one block; and why it is refused
  pub record ReadsAhead (runs : List Run) (before left : ℕ) (result : Result A ReadFault) : Type 0 where
    pub cause : IfErr result (PassCause old.held runs old.spent.faults new.spent.faults)
    pub unread : to + left ≤ from + before
    pub turns : Costs old.spent new.spent from to (to - from) (to - from)
