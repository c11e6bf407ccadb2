-- How the rows before a cursor are read: one falling range of the store and the calls on its walk, and nothing else.
use Rattle.std.specs.Prelude.{◌≡◌, ℕ, ◌⊎◌, true, List, length, take, map, Option, None, Result, Ok, Err}
use Rattle.std.specs.declared.ops.Bound.{Bound}
use Rattle.cola_cell.specs.declared.fault.ReadFault.{ReadFault}
use Rattle.cola_cell.specs.declared.fault.ReadFault.TheVariants as fault
use Rattle.cola_device.specs.declared.device.Device as device
use Rattle.cola_store.specs.Backward.{BeginsBack}
use Rattle.cola_store.specs.Store.{Stored}
use Rattle.cola_store.specs.Walks.{Begins, Goes}
use Rattle.cola_cursor.specs.declared.cursor.Cursor as ranges
use Rattle.cola_table.specs.Answers.{OnlyDeviceRead}
use Rattle.cola_kv.specs.declared.error.Error.{Error}
use Rattle.cola_kv.specs.declared.error.Error.TheVariants.{KeyLength, BadCell}
use Rattle.cola_handle.specs.declared.cursor.Cursor.{Cursor}
use Rattle.cola_handle.specs.declared.cursor.Row.{Row}
use Rattle.cola_handle.specs.declared.session.Session.{Session}
use Rattle.cola_handle.specs.Behind.{bound_of, is_first}
use Rattle.cola_handle.specs.Cursors.{Pair, row_pair, HaveFirst}
use Rattle.cola_handle.specs.Open.{lent_device}
use Rattle.cola_handle.specs.Walking.{GoesOn}

-- of a table that holds a map, with these pairs ahead of the walk: the rows have the first of them, and the map stays; only the device refuses
abbrev pub TakeSays : List Pair → List Row → Type 0 → Result ℕ ReadFault → Type 0
TakeSays pairs rows Holds (Ok given) = HaveFirst pairs rows given × Holds
TakeSays pairs rows Holds (Err fault) = OnlyDeviceRead fault

module _ {T W : Type 0} (begins : T → List ℕ → Option (List ℕ) → Result W ReadFault → T → Type 0) (goes : T → W → Result (Option Pair) ReadFault → T → W → Type 0) (old : T) (walk : W) (rows : List Row) where
  -- calls on a walk gave the pairs that so many rows have, and the next call on it answered this
  pub record Ended (given : ℕ) (answer : Result (Option Pair) ReadFault) (new : T) : Type 0 where
    pub far : T
    pub last : W
    pub after : W
    pub gone : GoesOn begins goes old walk (map row_pair (take given rows)) far last
    pub ends : goes far last answer new after

  -- the rows have the pairs that calls on a walk gave: every row was given, or the walk has no pair more, or it was refused for this reason
  abbrev pub Takes : Result ℕ ReadFault → T → Type 0
  Takes (Ok given) new =
      ((given ≡ length rows) × ((last : W) × GoesOn begins goes old walk (map row_pair (take given rows)) new last)) ⊎ Ended given (Ok None) new
  Takes (Err fault) new = (given : ℕ) × Ended given (Err fault) new

module _ {D : Type 0} (d : device.Ghosts D) (high : Bound (List ℕ)) (old new : Stored D) (rows : List Row) where
  -- a falling range up to a bound was begun, and the rows have what calls on its walk gave
  pub record Taken (result : Result ℕ ReadFault) : Type 0 where
    pub mid : Stored D
    pub walk : ranges.Cursor
    pub begun : BeginsBack d.bytes d.counts old None high (Ok walk) mid
    pub takes : Takes (Begins d.bytes d.counts) (Goes d.bytes d.counts) mid walk rows result new

  -- the range was refused for this reason, or a call on its walk
  abbrev pub FillsBack : Result ℕ ReadFault → Type 0
  FillsBack (Ok given) = Taken (Ok given)
  FillsBack (Err fault) = BeginsBack d.bytes d.counts old None high (Err fault) new ⊎ Taken (Err fault)

module _ (old new : Session) (cursor : Cursor) (rows : List Row) where
  -- no row was wanted, or nothing is behind: none is given, and nothing changed
  pub record GivesNoneBack (given : ℕ) : Type 0 where
    pub why : (length rows ≡ 0) ⊎ (is_first cursor ≡ true)
    pub none : given ≡ 0
    pub same : new ≡ old

  -- on every store: the rows have what a falling range of the store gave, and a refusal is the range's, by a cell that is bad; by lengths none is begun
  abbrev pub RangeBackSays : Result ℕ Error → Type 0
  RangeBackSays (Ok given) = GivesNoneBack given ⊎ FillsBack lent_device (bound_of cursor) old.kv.store new.kv.store rows (Ok given)
  RangeBackSays (Err KeyLength) = new ≡ old
  RangeBackSays (Err (BadCell cell)) = FillsBack lent_device (bound_of cursor) old.kv.store new.kv.store rows (Err (fault.BadCell cell))
  RangeBackSays (Err _) = ⊥
