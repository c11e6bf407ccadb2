-- The search of a list of runs, over what an object tells of its places.
use Rattle.std.specs.Prelude.{ℕ, ◌<◌, List, [], ◌∷◌, Option, None, Some, Contains}
use Rattle.cola_outside.specs.Faults.{Rose}
use Rattle.cola_runs.specs.Cells.{Item}
use Rattle.cola_cell.specs.declared.cell.Run.{Run}
use Rattle.cola_cell.specs.declared.fault.ReadFault.{ReadFault}
use Rattle.cola_cell.specs.declared.fault.ReadFault.TheVariants.{Device, BadCell}
use Rattle.cola_cell.specs.Held.{Held, Stamped}
use Rattle.cola_cell.specs.Spent.{IsBad}
use Rattle.cola_look.specs.Outcome.{Outcome, Found, and_then}
use Rattle.cola_look.specs.Seek.{found_in}

-- the length of the first run, and 0 where there is none
abbrev pub length_of_first : List Run → ℕ
length_of_first [] = 0
length_of_first (run ∷ runs) = run.len

-- the item of a run, or else what the runs below have
abbrev pub item_or : Option (Item Stamped) → Outcome (Option (Item Stamped)) → Outcome (Option (Item Stamped))
item_or None below = below
item_or (Some item) below = Found (Some item)

-- the search of a list of runs: the item of the first run in which it is found, each run
-- searched from the link of the one above
abbrev pub found_in_runs : Held → List ℕ → ℕ → List Run → Outcome (Option (Item Stamped))
found_in_runs held key start [] = Found None
found_in_runs held key start (run ∷ runs) =
    and_then (found_in held run (length_of_first runs) start key) (λ seat. item_or seat.hit (found_in_runs held key seat.link runs))

-- a cell of one of the runs whose bytes spell none, and its number
pub record HasBadRun (held : Held) (runs : List Run) (number : ℕ) : Type 0 where
  pub run : Run
  pub listed : Contains runs run
  pub index : ℕ
  pub within : index < run.len
  pub bad : IsBad held run.level run.slot index number

-- the cause of a refused search: the count of faults rose, or a cell of one of the runs is bad
abbrev pub FindCause : Held → List Run → ℕ → ℕ → ReadFault → Type 0
FindCause held runs before now Device = Rose before now
FindCause held runs before now (BadCell number) = HasBadRun held runs number
