-- What a read does to an object: its answer, and what it spends.
use Rattle.std.specs.Prelude.{◌≡◌, ◌≢◌, ◌⊎◌, ℕ, ◌+◌, ◌≤◌, ◌<◌, Option, Some, None, Result, Ok, Err, OnOk}
use Rattle.cola_cell.specs.declared.cell.Cell.{Cell}
use Rattle.cola_cell.specs.declared.fault.ReadFault.{ReadFault}
use Rattle.cola_cell.specs.Places.{slot_size, block_of}
use Rattle.cola_cell.specs.Held.{span}
use Rattle.cola_cell.specs.Packed.{given}
use Rattle.cola_cell.specs.Spent.{Buffer, Ticks, StaysAt, ReadAnswers, ReadCalm}
use Rattle.cola_cell.specs.State.{State}

-- a read by way of a buffer: no cell changes; what it answers, its one tick, and the at most one block that it turns to
pub record Reads (old new : State) (buffer : Buffer) (level slot index : ℕ) (result : Result Cell ReadFault) : Type 0 where
  pub cells_stay : new.held ≡ old.held
  pub answer : ReadAnswers old.held old.spent.faults new.spent.faults level slot index result
  pub faults_stay : old.spent.faults ≤ new.spent.faults
  pub calm : ReadCalm old.spent.faults new.spent.faults result
  pub one_tick : Ticks old.spent.ticked new.spent.ticked 1
  pub written_is : new.spent.written ≡ old.spent.written
  pub turned_stays : old.spent.turned ≤ new.spent.turned
  pub turned_rises : new.spent.turned ≤ old.spent.turned + 1
  pub in_last : old.spent.lasts buffer ≡ Some (block_of (span old.held) level slot index) → StaysAt old.spent new.spent buffer
  pub in_small : slot_size level < span old.held → StaysAt old.spent new.spent buffer
  pub moves : OnOk result (old.spent.turned < new.spent.turned → new.spent.lasts buffer ≡ Some (block_of (span old.held) level slot index))
  pub keeps : OnOk result (new.spent.turned ≡ old.spent.turned →
      (new.spent.lasts buffer ≡ old.spent.lasts buffer) ⊎ (new.spent.lasts buffer ≡ Some (block_of (span old.held) level slot index)))
  pub others_stay : (other : Buffer) → other ≢ buffer → new.spent.lasts other ≡ old.spent.lasts other

-- the cell that a room for one has behind a read, where that answered this one: none after a refusal
abbrev pub room_with : {E : Type 0} → Cell → Result (Unit {0}) E → Option Cell
room_with cell (Ok done) = Some cell
room_with cell (Err fault) = None

-- a read into a room for a cell: as any read, and the room has the cell that it answers
pub record ReadsIn (old new : State) (buffer : Buffer) (level slot index : ℕ) (room : Option Cell) (result : Result (Unit {0}) ReadFault) : Type 0 where
  pub cell : Cell
  pub reads : Reads old new buffer level slot index (given cell result)
  pub has : room ≡ room_with cell result
