-- The ordered map of the product: keys in rising order, each with a value and a stamp, and the last stamp given.
use Rattle.std.specs.Prelude.{ℕ, ◌+◌, ◌^◌, ◌≤◌, ◌≡◌, Bool, true, nat_eq, nat_le, if◌then◌else◌, ◌&&◌, List, map, filter, take, length, All, Option, Some, None, option_map, unwrap_or, refl}
use Rattle.std.specs.Bool.{OnFalse}
use Rattle.std.specs.declared.cmp.Ordering.{Ordering}
use Rattle.std.specs.Ordering.{nat_cmp, is_lt, is_le}
use Rattle.std.specs.Cmp.Lexicographic.{slice_cmp}
use Rattle.std.specs.FinMap as finite
use Rattle.std.specs.FinMap.{FinMap}
use Rattle.std.specs.Coded.{Coded, code_by, coded×, coded_list, coded_ℕ}

-- what the maps of one store may hold: at most `limit` keys, each of 1 to `key_limit` bytes,
-- with values of at most `value_limit` bytes; and whether an accepted put takes a stamp
pub record Shape : Type 0 where
  pub limit : ℕ
  pub key_limit : ℕ
  pub value_limit : ℕ
  pub stamped : Bool

-- what a key has: its value, and the number of the put that gave it
pub record Stored : Type 0 where
  pub value : List ℕ
  pub stamp : ℕ

-- the order of keys: as byte strings
abbrev pub key_cmp : List ℕ → List ℕ → Ordering
key_cmp = slice_cmp nat_cmp

-- the entries by rising keys, and the last stamp that was given
pub record Map : Type 0 where
  pub entries : FinMap key_cmp Stored
  pub last : ℕ

-- an entry is coded as the pair of its fields
abbrev pub stored_code : Coded Stored
stored_code =
    code_by (List ℕ × ℕ) (coded× (coded_list coded_ℕ) coded_ℕ) (λ s. (s.value, s.stamp)) (λ p. record { value = p.0; stamp = p.1 }) (λ _. refl)

-- a map is coded as its entries and its last stamp
abbrev pub map_code : Coded Map
map_code =
    code_by (FinMap key_cmp Stored × ℕ) (coded× (finite.code (coded_list coded_ℕ) stored_code) coded_ℕ) (λ m. (m.entries, m.last))
    (λ p. record { entries = p.0; last = p.1 }) (λ _. refl)

-- the largest stamp: no put is accepted after it
abbrev pub last_stamp : ℕ
last_stamp = 2 ^ 63

-- a key that maps of this shape may have
abbrev pub is_key : Shape → List ℕ → Bool
is_key shape key = nat_le 1 (length key) && nat_le (length key) shape.key_limit

-- a value that maps of this shape may have
abbrev pub is_value : Shape → List ℕ → Bool
is_value shape value = nat_le (length value) shape.value_limit

-- an entry fits the shape, and has a stamp that was given; where nothing is stamped, 0
pub record EntryFits (shape : Shape) (last : ℕ) (entry : List ℕ × Stored) : Type 0 where
  pub key_fits : is_key shape entry.0 ≡ true
  pub value_fits : is_value shape entry.1.value ≡ true
  pub given : entry.1.stamp ≤ last

-- a map of the shape
pub record IsMap (shape : Shape) (m : Map) : Type 0 where
  pub within : finite.len m.entries ≤ shape.limit
  pub fitting : All (EntryFits shape m.last) (finite.entries m.entries)
  pub last_given : m.last ≤ last_stamp
  pub unstamped : OnFalse shape.stamped (m.last ≡ 0)

-- the map with no key
unfoldable pub empty_map : Map
empty_map = record { entries = finite.empty; last = 0 }

-- Reading

-- the value of a key
abbrev pub value_of : Map → List ℕ → Option (List ℕ)
value_of m key = option_map (λ s. s.value) (finite.get m.entries key)

-- the stamp of a key
abbrev pub stamp_of : Map → List ℕ → Option ℕ
stamp_of m key = option_map (λ s. s.stamp) (finite.get m.entries key)

-- the stamp of a key, and 0 where it is absent
abbrev pub stamp_or_zero : Map → List ℕ → ℕ
stamp_or_zero m key = unwrap_or (stamp_of m key) 0

-- how many keys there are
abbrev pub count : Map → ℕ
count m = finite.len m.entries

-- a key with its value
abbrev pub pair_of : List ℕ × Stored → List ℕ × List ℕ
pair_of entry = (entry.0, entry.1.value)

-- all keys with their values, by rising keys
abbrev pub pairs : Map → List (List ℕ × List ℕ)
pairs m = map pair_of (finite.entries m.entries)

-- `key` is not below `low`
abbrev pub is_from : List ℕ → List ℕ → Bool
is_from low key = is_le (key_cmp low key)

-- `key` is below the upper end, where there is one
abbrev pub is_before : Option (List ℕ) → List ℕ → Bool
is_before None key = true
is_before (Some high) key = is_lt (key_cmp key high)

-- the pairs whose keys lie from `low` on and below `high`, by rising keys
abbrev pub pairs_between : Map → List ℕ → Option (List ℕ) → List (List ℕ × List ℕ)
pairs_between m low high = filter (λ pair. is_from low pair.0 && is_before high pair.0) (pairs m)

-- the pairs of an interval without its upper end
abbrev pub range : Map → List ℕ → List ℕ → List (List ℕ × List ℕ)
range m low high = pairs_between m low (Some high)

-- the first `most` pairs from `low` on
abbrev pub scan : Map → List ℕ → ℕ → List (List ℕ × List ℕ)
scan m low most = take most (pairs_between m low None)

-- Writing

-- what a put answers
pub data PutOutcome : Type 0 where
  New : PutOutcome
  Old : List ℕ → PutOutcome
  Full : PutOutcome
  Worn : PutOutcome
  Other : ℕ → PutOutcome

-- no stamp is left to give
abbrev pub is_worn : Shape → Map → Bool
is_worn shape m = shape.stamped && nat_le last_stamp m.last

-- what a put answers where the key has this, or nothing
abbrev pub outcome_at : Shape → Map → Option Stored → PutOutcome
outcome_at shape m None = if nat_le shape.limit (count m) then Full else if is_worn shape m then Worn else New
outcome_at shape m (Some s) = if is_worn shape m then Worn else Old s.value

-- full only where a new key meets the limit, then worn where no stamp is left, else the value replaced
abbrev pub put_outcome : Shape → Map → List ℕ → PutOutcome
put_outcome shape m key = outcome_at shape m (finite.get m.entries key)

-- a put that depends on the stamp seen: refused where the key has another one, else a put
abbrev pub put_if_outcome : Shape → Map → List ℕ → ℕ → PutOutcome
put_if_outcome shape m key seen =
    if nat_eq (stamp_or_zero m key) seen then put_outcome shape m key else Other (stamp_or_zero m key)

-- the number that the next accepted put takes
abbrev pub next_stamp : Shape → Map → ℕ
next_stamp shape m = if shape.stamped then m.last + 1 else 0

-- the map in which the key has the value, and the next stamp
abbrev pub with_value : Shape → Map → List ℕ → List ℕ → Map
with_value shape m key value =
    record { entries = finite.insert m.entries key (record { value = value; stamp = next_stamp shape m }); last = if shape.stamped then m.last + 1 else m.last }

-- the new map where a put was accepted, else the old one
abbrev pub settled : PutOutcome → Map → Map → Map
settled New old new = new
settled (Old _) old new = new
settled Full old new = old
settled Worn old new = old
settled (Other _) old new = old

-- the map after a put
abbrev pub after_put : Shape → Map → List ℕ → List ℕ → Map
after_put shape m key value = settled (put_outcome shape m key) m (with_value shape m key value)

-- the map after a put that depends on the stamp seen
abbrev pub after_put_if : Shape → Map → List ℕ → ℕ → List ℕ → Map
after_put_if shape m key seen value = settled (put_if_outcome shape m key seen) m (with_value shape m key value)

-- the map after a delete: without the key, and with the same last stamp
abbrev pub after_delete : Map → List ℕ → Map
after_delete m key = record m { entries = finite.remove m.entries key }
