-- How rows are read: one range of the table and the calls on its walk, and nothing else.
use Rattle.std.specs.Prelude.{◌≡◌, ℕ, ◌⊎◌, true, List, [], ◌∷◌, ◌++◌, length, take, map, Option, Some, None, Result, Ok, Err}
use Rattle.cola_cell.specs.declared.fault.ReadFault.{ReadFault}
use Rattle.cola_cell.specs.declared.fault.ReadFault.TheVariants as fault
use Rattle.cola_spec.specs.Bounds.{range_bound}
use Rattle.cola_spec.specs.Map.{Map, pairs_between}
use Rattle.cola_store.specs.Calls.{ReadsWithin}
use Rattle.cola_store.specs.Store.{spent_of}
use Rattle.cola_store.specs.Walks.{Begins, Goes}
use Rattle.cola_table.specs.Answers.{OnlyDeviceRead}
use Rattle.cola_table.specs.Terms.{Terms, Call}
use Rattle.cola_kv.specs.declared.error.Error.{Error}
use Rattle.cola_kv.specs.declared.error.Error.TheVariants.{KeyLength, BadCell}
use Rattle.cola_handle.specs.declared.cursor.Cursor.{Cursor}
use Rattle.cola_handle.specs.declared.cursor.Row.{Row}
use Rattle.cola_handle.specs.declared.session.Session.{Session}
use Rattle.cola_handle.specs.Cursors.{Pair, row_pair, not_given, HaveFirst, is_void, first_key, from_of, end_of}
use Rattle.cola_handle.specs.Open.{bytes_of, counts_of}

-- of a table that holds a map: the rows have the first of its pairs from `low` on and below `high` that the cursor has not given,
-- and the map stays; only the device refuses
abbrev pub FillSays : Map → Cursor → (low : List ℕ) → (high : Option (List ℕ)) → List Row → (Map → Type 0) → Result ℕ ReadFault → Type 0
FillSays m cursor low high rows Holds (Ok given) = HaveFirst (not_given cursor (pairs_between m low high)) rows given × Holds m
FillSays m cursor low high rows Holds (Err fault) = OnlyDeviceRead fault

-- a call on a table that makes at most the ticks of a range: its terms stay, and no fault is forgotten
abbrev pub RangeCall : {T : Type 0} → (T → Terms) → (T → ℕ) → (old new : T) → (before after : ℕ) → Type 0
RangeCall terms faults old new before after =
    Call (terms old) (terms new) (faults old) (faults new) before after (range_bound (terms old).depth)

-- a range of a table begins so, and a call on its walk goes so
module _ {T W : Type 0} (begins : T → List ℕ → Option (List ℕ) → Result W ReadFault → T → Type 0) (goes : T → W → Result (Option Pair) ReadFault → T → W → Type 0) where
  -- calls on a walk, one after another, which gave these pairs
  pub data GoesOn : T → W → List Pair → T → W → Type 0 where
    Stays : {table : T} {walk : W} → GoesOn table walk [] table walk
    Then : {old mid new : T} {walk after last : W} {pairs : List Pair} (pair : Pair) →
        GoesOn old walk pairs mid after → goes mid after (Ok (Some pair)) new last → GoesOn old walk (pairs ++ pair ∷ []) new last

  module _ (cursor : Cursor) (low : List ℕ) (high : Option (List ℕ)) (old : T) (rows : List Row) where
    -- a range was begun and gone on with so far, and so many rows have the pairs that it gave and the cursor had not given
    pub record Came (given : ℕ) (new : T) (last : W) : Type 0 where
      pub mid : T
      pub walk : W
      pub pairs : List Pair
      pub begun : begins old low high (Ok walk) mid
      pub gone : GoesOn mid walk pairs new last
      pub rows_have : map row_pair (take given rows) ≡ not_given cursor pairs

    -- it came so far, and the next call on the walk answered this
    pub record Ended (given : ℕ) (answer : Result (Option Pair) ReadFault) (new : T) : Type 0 where
      pub far : T
      pub walk : W
      pub last : W
      pub came : Came given far walk
      pub ends : goes far walk answer new last

    -- every row was given, or the walk has no pair more
    abbrev pub FillsRows : ℕ → T → Type 0
    FillsRows given new = ((given ≡ length rows) × ((last : W) × Came given new last)) ⊎ Ended given (Ok None) new

    -- the range was refused for this reason, or a call on its walk, when so many rows were given
    abbrev pub Breaks : ReadFault → T → Type 0
    Breaks fault new = begins old low high (Err fault) new ⊎ ((given : ℕ) × Ended given (Err fault) new)

    -- how filling the rows ended
    abbrev pub Fills : Result ℕ ReadFault → T → Type 0
    Fills (Ok given) new = FillsRows given new
    Fills (Err fault) new = Breaks fault new

-- at most so many blocks are read, and none is written
abbrev pub Reads : (old new : Session) → ℕ → Type 0
Reads old new blocks = ReadsWithin (spent_of counts_of old.kv.store) (spent_of counts_of new.kv.store) blocks

module _ (old new : Session) (cursor : Cursor) (rows : List Row) where
  -- the rows were filled by one range of the store, from the cursor's key on and below its upper end
  abbrev pub FillsFrom : Result ℕ ReadFault → Type 0
  FillsFrom result =
      Fills (Begins bytes_of counts_of) (Goes bytes_of counts_of) cursor (first_key (from_of cursor)) (end_of cursor) old.kv.store rows result new.kv.store

  -- no row was wanted, or no key is below the upper end: none is given, and nothing changed
  pub record GivesNone (given : ℕ) : Type 0 where
    pub why : (length rows ≡ 0) ⊎ (is_void cursor ≡ true)
    pub none : given ≡ 0
    pub same : new ≡ old

  -- on every store: the rows have what a range of the store gave, and a refusal is the range's, by a cell that is bad; by lengths none is begun
  abbrev pub RangeSays : Result ℕ Error → Type 0
  RangeSays (Ok given) = GivesNone given ⊎ FillsFrom (Ok given)
  RangeSays (Err KeyLength) = new ≡ old
  RangeSays (Err (BadCell cell)) = FillsFrom (Err (fault.BadCell cell))
  RangeSays (Err _) = ⊥
