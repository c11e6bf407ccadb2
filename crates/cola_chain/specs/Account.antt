-- The account of a chain: what the steps that it accepted read and wrote.
use Rattle.std.specs.Prelude.{◌≡◌, ℕ, ◌+◌, ◌-◌, ◌*◌, ◌/◌, ◌^◌, ◌≤◌, ◌<◌, min, true, false, List, [], ◌∷◌, Option, Result, Ok, Err, ⊤}
use Rattle.cola_cell.specs.declared.fault.StepFault.{StepFault}
use Rattle.cola_cell.specs.Held.{Held}
use Rattle.cola_cell.specs.Spent.{Spent}
use Rattle.cola_device.specs.declared.counts.Counts.{Counts}
use Rattle.cola_layout.specs.declared.geometry.Geometry.{Geometry}
use Rattle.cola_level.specs.declared.level.Level.{Level}
use Rattle.cola_level.specs.Marks.{all_marks_of}
use Rattle.cola_level.specs.Standing.{transfers_of}
use Rattle.cola_transfers.specs.Credit.{parts, last_value}
use Rattle.cola_transfers.specs.Chain.{Transfers, IsPaidCounting}
use Rattle.cola_mutation.specs.Levels.{IsChain}
use Rattle.cola_run.specs.Cells.{block_cells}
use Rattle.cola_chain.specs.Contents.{Contents, held_of, spent_of}

-- the account of levels at a clock, after so many steps: it is paid as long as no number stands at the last value of 64 bits
abbrev pub ArePaid : (doublings steps t : ℕ) → List Level → Transfers → Type 0
ArePaid doublings steps t [] sums = ⊤
ArePaid doublings steps t (top ∷ below) sums = IsPaidCounting doublings steps t top.visible (all_marks_of below) sums

-- these reads and writes, with what the readers of an object hold and which of its shadows are kept
abbrev pub sums_of : Held → Spent → (reads writes : ℕ) → Transfers
sums_of held spent reads writes =
    record {
      reads = reads;
      writes = writes;
      readers = (transfers_of held spent).readers;
      kept = (transfers_of held spent).kept;
    }

-- the account of a chain is paid: by the steps that it accepted, for what these read and wrote
pub record IsPaid {D : Type 0} (bytes : D → Option (List ℕ)) (counts : D → Counts) (chain : Contents D) : Type 0 where
  pub paid : ArePaid (held_of bytes chain).fixed.doublings chain.accepted chain.clock chain.levels
      (sums_of (held_of bytes chain) (spent_of counts chain) chain.reads chain.writes)

-- what a chain is: its levels stand on its store at its clock, and as long as its steps are counted its account is paid
pub record IsContents {D : Type 0} (bytes : D → Option (List ℕ)) (counts : D → Counts) (chain : Contents D) : Type 0 where
  pub stands : IsChain (held_of bytes chain) chain.clock chain.levels
  pub paid : chain.counted ≡ true → IsPaid bytes counts chain

-- the bounds on reads and writes of so many steps, where none of the three stands at the last value of 64 bits: 14 cells read
-- and 4 written for each step and level, in whole blocks, and the blocks of the file once written and four times read
pub record AreBounded (geometry : Geometry) (steps reads writes : ℕ) : Type 0 where
  pub reads_most : reads ≤
      parts (14 * (steps * (geometry.bottom + 1))) (block_cells geometry) + 4 * (2 ^ (geometry.bottom + 4) / block_cells geometry)
  pub writes_most : writes ≤
      parts (4 * (steps * (geometry.bottom + 1))) (block_cells geometry) + 2 ^ (geometry.bottom + 4) / block_cells geometry

-- the same of a chain whose numbers do not stand at the last value of 64 bits
abbrev pub IsBounded : {D : Type 0} → Contents D → Type 0
IsBounded chain = chain.accepted < last_value → chain.reads < last_value → chain.writes < last_value →
    AreBounded chain.store.geometry chain.accepted chain.reads chain.writes

-- a number and what comes to it, at most the last value of 64 bits
abbrev pub added : ℕ → ℕ → ℕ
added number more = min (number + more) last_value

-- how a step is counted: one more step with what it read and wrote where it was accepted; no number changes where it was
-- refused, and no step is counted any more
abbrev pub CountsStep : {D A : Type 0} → (D → Counts) → Contents D → Contents D → Result A StepFault → Type 0
CountsStep counts old new (Ok a) =
    (new.accepted ≡ added old.accepted 1)
    × (new.reads ≡ added old.reads ((spent_of counts new).turned - (spent_of counts old).turned))
    × (new.writes ≡ added old.writes ((spent_of counts new).written - (spent_of counts old).written))
    × (new.counted ≡ old.counted)
CountsStep counts old new (Err fault) =
    (new.accepted ≡ old.accepted) × (new.reads ≡ old.reads) × (new.writes ≡ old.writes) × (new.counted ≡ false)
