-- Cursors and rows: the pairs that are ahead of a cursor, what is said where one is set, and of the next rows.
use Rattle.std.specs.Prelude.{◌≡◌, ℕ, ◌-◌, ◌<◌, ◌≤◌, min, Bool, true, false, nat_le, nat_lt, nat_eq, not, if◌then◌else◌, ◌&&◌, List, [], ◌∷◌, length, take, drop, map, filter, All, HoldsAt, Option, Some, None, Result, Ok, Err}
use Rattle.std.specs.Ordering.{is_eq}
use Rattle.cola_spec.specs.Map.{Map, key_cmp, pairs, is_from, is_before}
use Rattle.cola_handle.specs.declared.cursor.Cursor.{Cursor}
use Rattle.cola_handle.specs.declared.cursor.Row.{Row}
use Rattle.cola_handle.specs.declared.answer.Answer.{Answer}
use Rattle.cola_handle.specs.declared.answer.Answer.TheVariants.{Done, Absent}
use Rattle.cola_kv.specs.declared.error.Error.{Error}
use Rattle.cola_kv.specs.declared.error.Error.TheVariants.{KeyLength}
use Rattle.cola_handle.specs.Numbers.{refused}

-- a key with its value
abbrev pub Pair : Type 0
Pair = List ℕ × List ℕ

-- the pair of a row: the first bytes of its lists, as many as its lengths say
abbrev pub row_pair : Row → Pair
row_pair row = (take row.key_len row.key, take row.value_len row.value)

-- the lengths of a row are within its lists
abbrev pub IsGoodRow : Row → Type 0
IsGoodRow row = (row.key_len ≤ 40) × (row.value_len ≤ 72)

-- the key at which a cursor stands
abbrev pub from_of : Cursor → List ℕ
from_of cursor = take cursor.from_len cursor.from

-- the bytes of its upper end
abbrev pub until_of : Cursor → List ℕ
until_of cursor = take cursor.until_len cursor.until

-- an upper end, where there is one
abbrev pub end_at : Bool → List ℕ → Option (List ℕ)
end_at bounded high = if bounded then Some high else None

-- the upper end of a cursor
abbrev pub end_of : Cursor → Option (List ℕ)
end_of cursor = end_at cursor.bounded (until_of cursor)

-- the lengths of a cursor are within its lists
abbrev pub is_good : Cursor → Bool
is_good cursor = nat_le cursor.from_len 40 && nat_le cursor.until_len 40

-- the key is ahead: it lies from the cursor's key on, or above it where that was given, and below the upper end
abbrev pub is_ahead : Cursor → List ℕ → Bool
is_ahead cursor key =
    (if cursor.behind then is_before (Some key) (from_of cursor) else is_from (from_of cursor) key) && is_before (end_of cursor) key

-- the pairs of a map that are ahead of a cursor, by rising keys
abbrev pub ahead : Map → Cursor → List Pair
ahead m cursor = filter (λ pair. is_ahead cursor pair.0) (pairs m)

-- Setting a cursor

-- two ends that a cursor has room for
abbrev pub are_short : (low high : List ℕ) → Bool
are_short low high = nat_le (length low) 40 && nat_le (length high) 40

-- a cursor was set before the first key from `low` on, with the upper end `high` where it is bounded
pub record IsSet (low high : List ℕ) (bounded : Bool) (cursor : Cursor) : Type 0 where
  pub good : is_good cursor ≡ true
  pub from_is : from_of cursor ≡ low
  pub until_is : until_of cursor ≡ high
  pub bounded_is : cursor.bounded ≡ bounded
  pub not_behind : cursor.behind ≡ false

-- a cursor is set, or is refused exactly where an end is too long
abbrev pub SeekSays : (low high : List ℕ) → Bool → Result Cursor Error → Type 0
SeekSays low high bounded (Ok cursor) = (are_short low high ≡ true) × IsSet low high bounded cursor
SeekSays low high bounded (Err why) = (why ≡ KeyLength) × (are_short low high ≡ false)

-- The next rows

-- so many rows have the first of these pairs: as many as there are of both
pub record HaveFirst (ahead : List Pair) (rows : List Row) (given : ℕ) : Type 0 where
  pub number : given ≡ min (length rows) (length ahead)
  pub pairs_are : map row_pair (take given rows) ≡ take given ahead

-- the first rows were written, so many, and no row behind them
pub record Writes (old new : List Row) (given : ℕ) : Type 0 where
  pub few : given ≤ length old
  pub good : All IsGoodRow (take given new)
  pub others : drop given new ≡ drop given old

-- what a refused call leaves of the rows: all of them where a length is the reason, else those behind the ones that it gave
abbrev pub GaveSome : (old new : List Row) → Error → Type 0
GaveSome old new KeyLength = new ≡ old
GaveSome old new _ = (given : ℕ) × Writes old new given

-- a cursor stands behind the key of a row, with the upper end that it had
pub record IsBehind (old new : Cursor) (row : Row) : Type 0 where
  pub from_is : from_of new ≡ (row_pair row).0
  pub is_behind : new.behind ≡ true
  pub end_is : end_of new ≡ end_of old

-- it stands behind the last row that was given; where none was, it stays
pub record Moves (old new : Cursor) (rows : List Row) (given : ℕ) : Type 0 where
  pub none : given ≡ 0 → new ≡ old
  pub last : 0 < given → HoldsAt (IsBehind old new) rows (given - 1)

-- lengths of the cursor are the reason of a refusal exactly where they are more than its lists have, and then nothing changed
abbrev pub ByLength : {A : Type 0} → Bool → Type 0 → Result A Error → Type 0
ByLength good same (Ok answer) = good ≡ true
ByLength good same (Err KeyLength) = (good ≡ false) × same
ByLength good same (Err _) = good ≡ true

-- on a store that holds a map a call is refused for its cursor's lengths alone, and the map stays
abbrev pub Refused : Map → (Map → Type 0) → Error → Type 0
Refused m Holds KeyLength = Holds m
Refused m Holds _ = ⊥

-- on a store that holds a map the rows have the first of the pairs that are ahead, the rest of them is ahead then, and the map stays
abbrev pub NextSays : Map → (old new : Cursor) → List Row → (Map → Type 0) → Result ℕ Error → Type 0
NextSays m old new rows Holds (Ok given) = HaveFirst (ahead m old) rows given × (ahead m new ≡ drop given (ahead m old)) × Holds m
NextSays m old new rows Holds (Err refusal) = Refused m Holds refusal

-- the answer of a call for so many rows: absent where some were wanted and none was given
abbrev pub gave : ℕ → Result ℕ Error → Answer
gave wanted (Ok given) = if nat_lt 0 wanted && nat_eq given 0 then Absent else Done
gave wanted (Err why) = refused why

-- How rows are found

-- no key is below its upper end, the empty one
abbrev pub is_void : Cursor → Bool
is_void cursor = cursor.bounded && nat_eq cursor.until_len 0

-- the key is the one at which it stands, and was given already
abbrev pub was_given : Cursor → List ℕ → Bool
was_given cursor key = cursor.behind && is_eq (key_cmp (from_of cursor) key)

-- the pairs that it has not given
abbrev pub not_given : Cursor → List Pair → List Pair
not_given cursor pairs = filter (λ pair. not (was_given cursor pair.0)) pairs

-- the least key from these bytes on: themselves, and a zero byte where they are none
abbrev pub first_key : List ℕ → List ℕ
first_key [] = 0 ∷ []
first_key (byte ∷ bytes) = byte ∷ bytes
