-- What contracts see of a chain, and what a chain is between two steps.
use Rattle.std.specs.Prelude.{ℕ, Bool, List, Option, Result}
use Rattle.cola_cell.specs.declared.cell.Cell.{Cell}
use Rattle.cola_cell.specs.declared.fault.ReadFault.{ReadFault}
use Rattle.cola_cell.specs.Held.{Held}
use Rattle.cola_cell.specs.Reads.{Reads}
use Rattle.cola_cell.specs.Spent.{Spent, Buffer}
use Rattle.cola_cell.specs.State.{State}
use Rattle.cola_device.specs.declared.counts.Counts.{Counts}
use Rattle.cola_device.specs.declared.device.Device as device
use Rattle.cola_level.specs.declared.level.Level.{Level}
use Rattle.cola_run.specs.Store as run
use Rattle.cola_run.specs.Store.{Store}

-- the store of its cells; its levels and its clock; how many steps it accepted; the reads and the writes of the device in
-- these; and whether they are counted still, as they are until a step is refused or a reader's block is moved from outside
pub record Contents (D : Type 0) : Type 0 where
  pub store : Store D
  pub levels : List Level
  pub clock : ℕ
  pub accepted : ℕ
  pub reads : ℕ
  pub writes : ℕ
  pub counted : Bool

-- what it holds: what its store does
abbrev pub held_of : {D : Type 0} → (D → Option (List ℕ)) → Contents D → Held
held_of bytes chain = run.held_of bytes chain.store

-- what it spends: what its store does
abbrev pub spent_of : {D : Type 0} → (D → Counts) → Contents D → Spent
spent_of counts chain = run.spent_of counts chain.store

-- its state: that of its store
abbrev pub state_of : {D : Type 0} → (D → Option (List ℕ)) → (D → Counts) → Contents D → State
state_of bytes counts chain = run.state_of bytes counts chain.store

-- a read of a chain by way of a buffer
abbrev pub ReadsCell : {D : Type 0} → device.Ghosts D → (old new : Contents D) → Buffer → (level slot index : ℕ) → Result Cell ReadFault → Type 0
ReadsCell d old new buffer level slot index result =
    Reads (state_of d.bytes d.counts old) (state_of d.bytes d.counts new) buffer level slot index result

-- what a chain has beside its cells and counts: what its store has, its levels, its clock, and
-- the numbers of its accepted steps and of the reads and writes in these
pub record Kept (K : Type 0) : Type 0 where
  pub store : run.Kept K
  pub levels : List Level
  pub clock : ℕ
  pub accepted : ℕ
  pub reads : ℕ
  pub writes : ℕ

-- what no read of a chain changes
abbrev pub kept_of : {D K : Type 0} → (D → Option (List ℕ)) → (D → Counts) → (D → K) → Contents D → Kept K
kept_of bytes counts kept chain =
    record {
      store = run.kept_of bytes counts kept chain.store;
      levels = chain.levels;
      clock = chain.clock;
      accepted = chain.accepted;
      reads = chain.reads;
      writes = chain.writes;
    }
