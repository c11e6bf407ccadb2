-- What the maps of this crate stand for.
use Rattle.std.specs.Prelude.{ℕ, suc, ◌≡◌, ◌<◌, ◌≤◌, List, ◌∷◌, ◌++◌, map, length, take, drop}
use Rattle.std.specs.FinMap as finite
use Rattle.std.specs.FinMap.Entries.{put}
use Rattle.cola_plain.specs.declared.map.Entry.{Entry}
use Rattle.cola_plain.specs.declared.map.Map.{Map}
use Rattle.cola_plain.specs.declared.map.Row.{Row}
use Rattle.cola_plain.specs.declared.map.PutOutcome.{PutOutcome}
use Rattle.cola_plain.specs.declared.map.PutOutcome.TheVariants.{New, Old, Full, Worn, Other}
use Rattle.cola_spec.specs.Map as spec

-- what the key of an entry has
abbrev pub kept_in : Entry → spec.Stored
kept_in entry = record { value = entry.value.items; stamp = entry.stamp }

-- an entry by its bytes
abbrev pub stored_with : Entry → List ℕ × spec.Stored
stored_with entry = (entry.key.items, kept_in entry)

-- entries by their bytes
abbrev pub listed : List Entry → List (List ℕ × spec.Stored)
listed entries = map stored_with entries

-- the list of entries is that of the map, with the same last stamp
pub record Stands (plain : Map) (m : spec.Map) : Type 0 where
  pub same_entries : finite.entries m.entries ≡ listed plain.entries.items
  pub same_last : m.last ≡ plain.last

-- a row by its bytes
abbrev pub pair_with : Row → List ℕ × List ℕ
pair_with row = (row.key.items, row.value.items)

-- what a put answers, by its bytes
abbrev pub outcome_with : PutOutcome → spec.PutOutcome
outcome_with New = spec.New
outcome_with (Old value) = spec.Old value.items
outcome_with Full = spec.Full
outcome_with Worn = spec.Worn
outcome_with (Other stamp) = spec.Other stamp

-- the key has the entry at a place: a put replaces that one
pub record IsAt (key : List ℕ) (new : spec.Stored) (entries : List Entry) (place : ℕ) : Type 0 where
  pub within : place < length entries
  pub replaced : put spec.key_cmp key new (listed entries) ≡ listed (take place entries) ++ (key, new) ∷ listed (drop (suc place) entries)

-- the key has no entry, and one would go to a place
pub record GoesAt (key : List ℕ) (new : spec.Stored) (entries : List Entry) (place : ℕ) : Type 0 where
  pub within : place ≤ length entries
  pub inserted : put spec.key_cmp key new (listed entries) ≡ listed (take place entries) ++ (key, new) ∷ listed (drop place entries)
