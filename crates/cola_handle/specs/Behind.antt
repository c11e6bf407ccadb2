-- A cursor from its other side: the pairs that are behind it, by falling keys, what is said where one is set behind the last key, and of the rows before it. Its place divides the pairs below its upper end into those ahead and those behind.
use Rattle.std.specs.Prelude.{◌≡◌, ℕ, ◌-◌, ◌<◌, ◌≤◌, Bool, true, false, nat_le, nat_eq, if◌then◌else◌, ◌&&◌, ◌||◌, List, ◌++◌, length, take, drop, reverse, replicate, filter, All, HoldsAt, Option, Some, None, Result, Ok, Err}
use Rattle.std.specs.declared.ops.Bound.{Bound}
use Rattle.std.specs.declared.ops.Bound.TheVariants.{Included, Excluded}
use Rattle.std.specs.Ordering.{is_le}
use Rattle.cola_spec.specs.Map.{Map, key_cmp, pairs, is_from, is_before}
use Rattle.cola_handle.specs.declared.cursor.Cursor.{Cursor}
use Rattle.cola_handle.specs.declared.cursor.Row.{Row}
use Rattle.cola_kv.specs.declared.error.Error.{Error}
use Rattle.cola_kv.specs.declared.error.Error.TheVariants.{KeyLength}
use Rattle.cola_handle.specs.Cursors.{Pair, row_pair, from_of, end_at, end_of, is_good, is_void, ahead, HaveFirst, Refused}

-- the key is behind: it lies below the cursor's key, or is that one, where it was given; and below the upper end
abbrev pub is_behind : Cursor → List ℕ → Bool
is_behind cursor key =
    (if cursor.behind then is_from key (from_of cursor) else is_before (Some (from_of cursor)) key) && is_before (end_of cursor) key

-- the pairs of a map that are behind a cursor, by falling keys, down to the least
abbrev pub behind : Map → Cursor → List Pair
behind m cursor = reverse (filter (λ pair. is_behind cursor pair.0) (pairs m))

-- the pairs whose keys lie below an end, where there is one, by rising keys
abbrev pub pairs_below : Map → Option (List ℕ) → List Pair
pairs_below m end = filter (λ pair. is_before end pair.0) (pairs m)

-- Setting a cursor behind the last key

-- the greatest of the keys that have at most 40 bytes
abbrev pub greatest : List ℕ
greatest = replicate 40 255

-- a cursor was set behind the last key below `high`, where it is bounded, else behind the greatest of all
pub record IsSetLast (high : List ℕ) (bounded : Bool) (cursor : Cursor) : Type 0 where
  pub good : is_good cursor ≡ true
  pub from_is : from_of cursor ≡ (if bounded then high else greatest)
  pub end_is : end_of cursor ≡ end_at bounded high
  pub bounded_is : cursor.bounded ≡ bounded
  pub behind_is : cursor.behind ≡ (if bounded then false else true)

-- a cursor is set so, or is refused exactly where the end is too long
abbrev pub SeekLastSays : (high : List ℕ) → Bool → Result Cursor Error → Type 0
SeekLastSays high bounded (Ok cursor) = (nat_le (length high) 40 ≡ true) × IsSetLast high bounded cursor
SeekLastSays high bounded (Err why) = (why ≡ KeyLength) × (nat_le (length high) 40 ≡ false)

-- each key of a map is one of bytes, at most 40 of them
abbrev pub HasBytes : Map → Type 0
HasBytes m = All (λ pair. (length pair.0 ≤ 40) × All (λ byte. byte < 256) pair.0) (pairs m)

-- The rows before a cursor

-- a cursor stands before the key of a row, with the upper end that it had
pub record IsAtRow (old new : Cursor) (row : Row) : Type 0 where
  pub from_is : from_of new ≡ (row_pair row).0
  pub not_behind : new.behind ≡ false
  pub end_is : end_of new ≡ end_of old

-- it stands before the last row that was given; where none was, it stays
pub record Turns (old new : Cursor) (rows : List Row) (given : ℕ) : Type 0 where
  pub none : given ≡ 0 → new ≡ old
  pub last : 0 < given → HoldsAt (IsAtRow old new) rows (given - 1)

-- on a store that holds a map the rows have the first of the pairs that are behind, the rest of them is behind then, those that were given are ahead, in front of what was, and the map stays
pub record HaveBehind (m : Map) (old new : Cursor) (rows : List Row) (given : ℕ) : Type 0 where
  pub first : HaveFirst (behind m old) rows given
  pub left : behind m new ≡ drop given (behind m old)
  pub back : ahead m new ≡ reverse (take given (behind m old)) ++ ahead m old

abbrev pub PrevSays : Map → (old new : Cursor) → List Row → (Map → Type 0) → Result ℕ Error → Type 0
PrevSays m old new rows Holds (Ok given) = HaveBehind m old new rows given × Holds m
PrevSays m old new rows Holds (Err refusal) = Refused m Holds refusal

-- How rows are found

-- nothing is behind: it stands before all keys, or no key is below its upper end
abbrev pub is_first : Cursor → Bool
is_first cursor = nat_eq cursor.from_len 0 || is_void cursor

-- the bound of what is behind: the upper end, where that is the lesser, else the cursor's key, itself within it where it was given
abbrev pub bound_at : Bool → List ℕ → Option (List ℕ) → Bound (List ℕ)
bound_at given from None = if given then Included from else Excluded from
bound_at given from (Some until) =
    if is_le (key_cmp until from) then Excluded until else if given then Included from else Excluded from

abbrev pub bound_of : Cursor → Bound (List ℕ)
bound_of cursor = bound_at cursor.behind (from_of cursor) (end_of cursor)

-- Laws

-- the place of a cursor divides the pairs below its upper end: those behind it, from the last on, and those ahead
abbrev pub PlacesDivide : Type 0
PlacesDivide = (m : Map) (cursor : Cursor) → reverse (behind m cursor) ++ ahead m cursor ≡ pairs_below m (end_of cursor)

-- what a cursor gave as it rose is behind it then, the last first, in front of what was
abbrev pub GivenIsBehind : Type 0
GivenIsBehind = (m : Map) (old new : Cursor) (given : ℕ) → end_of new ≡ end_of old → ahead m new ≡ drop given (ahead m old) →
    behind m new ≡ reverse (take given (ahead m old)) ++ behind m old
