-- A table in memory: what contracts see of it, and of a walk over it.
use Rattle.std.specs.Prelude.{ℕ, suc, ◌≡◌, ◌≤◌, ◌<◌, List, [], ◌∷◌, length, All, filter, drop, map, Option, None, if◌then◌else◌, IsTrue, slice_index_or, refl}
use Rattle.std.specs.declared.cmp.Ordering.{Ordering}
use Rattle.std.specs.Ordering.{is_lt}
use Rattle.std.specs.FinMap as finite
use Rattle.std.specs.Coded.{Coded, code_by, coded×, coded_list, coded_ℕ}
use Rattle.cola_cell.specs.declared.format.Format.TheVariants.{One}
use Rattle.cola_spec.specs.Map.{Stored, Map, EntryFits, key_cmp, map_code, stored_code, pair_of, is_before}
use Rattle.cola_shapes.specs.Shapes.{shape_of}
use Rattle.cola_table.specs.Terms.{Terms}

-- the most keys that a table in memory holds, and its map
pub record Flat : Type 0 where
  pub limit : ℕ
  pub map : Map

-- a table is coded as the pair of its fields
abbrev pub flat_code : Coded Flat
flat_code = code_by (ℕ × Map) (coded× coded_ℕ map_code) (λ t. (t.limit, t.map)) (λ p. record { limit = p.0; map = p.1 }) (λ _. refl)

-- its terms: format One, and no levels
abbrev pub terms_of : Flat → Terms
terms_of table = record { format = One; limit = table.limit; depth = 0 }

-- how many entries there is room for, and the entries in the order in which they lie
pub record Entries : Type 0 where
  pub limit : ℕ
  pub list : List (List ℕ × Stored)

-- entries are coded as the pair of the fields
abbrev pub entries_code : Coded Entries
entries_code =
    code_by (ℕ × List (List ℕ × Stored)) (coded× coded_ℕ (coded_list (coded× (coded_list coded_ℕ) stored_code)))
    (λ t. (t.limit, t.list)) (λ p. record { limit = p.0; list = p.1 }) (λ _. refl)

-- the map of entries by rising keys, none of which has a stamp
abbrev pub map_of : List (List ℕ × Stored) → Map
map_of list = record { entries = finite.from_sorted list; last = 0 }

-- entries that a table in memory may hold: by rising keys, within the limit, each as format One has them
pub record AreFlat (limit : ℕ) (list : List (List ℕ × Stored)) : Type 0 where
  pub rising : IsTrue (finite.is_sorted key_cmp list)
  pub within : length list ≤ limit
  pub fitting : All (EntryFits (shape_of One limit) 0) list

-- how many of the first entries have smaller keys: among entries by rising keys, the place of the key
abbrev pub place_of : {K X : Type 0} → (K → K → Ordering) → K → List (K × X) → ℕ
place_of cmp key [] = 0
place_of cmp key (entry ∷ rest) = if is_lt (cmp entry.0 key) then suc (place_of cmp key rest) else 0

-- the entry at this place has the key
pub record HasKeyAt (list : List (List ℕ × Stored)) (key : List ℕ) (at : ℕ) : Type 0 where
  pub in_range : at < length list
  pub is_place : at ≡ place_of key_cmp key list
  pub has_key : (default : List ℕ × Stored) → (slice_index_or list at default).0 ≡ key

-- no entry has the key, which would go to this place
pub record LacksKey (list : List (List ℕ × Stored)) (key : List ℕ) (at : ℕ) : Type 0 where
  pub in_range : at ≤ length list
  pub is_place : at ≡ place_of key_cmp key list
  pub absent : finite.find key_cmp key list ≡ None

-- the pairs from a place on whose keys are below the upper end
abbrev pub pairs_ahead : Map → ℕ → Option (List ℕ) → List (List ℕ × List ℕ)
pairs_ahead m place high = filter (λ pair. is_before high pair.0) (drop place (map pair_of (finite.entries m.entries)))
