-- The live pairs of a list of runs in an interval of keys.
use Rattle.std.specs.Prelude.{◌≡◌, Bool, true, ◌&&◌, List, [], ◌∷◌, ◌++◌, map, drop, filter, T}
use Rattle.std.specs.declared.cmp.Ordering.{Ordering}
use Rattle.std.specs.declared.cmp.Ordering.TheVariants.{Equal}
use Rattle.std.specs.Ordering.{is_lt, is_le}
use Rattle.std.specs.declared.option.Option.{Option}
use Rattle.std.specs.declared.option.Option.TheVariants.{None, Some}
use Rattle.std.specs.FinMap.{put, is_sorted}
use Rattle.cola_runs.specs.Cells.{Item, Value, Tombstone, Cell, Entry, Look}
use Rattle.cola_runs.specs.Search.{place}

module _ {K V : Type 0} where
  -- the items of a run with their keys, in its order
  abbrev pub items : List (Cell K V) → List (K × Item V)
  items [] = []
  items (Entry k i y l ∷ cells) = (k, i) ∷ items cells
  items (Look k l ∷ cells) = items cells

  -- the items of all the runs, those of the first run first
  abbrev pub entries : List (List (Cell K V)) → List (K × Item V)
  entries [] = []
  entries (run ∷ runs) = items run ++ entries runs

  -- the pairs with that of key k before them, where its answer is a value
  abbrev pub with_answer : K → Option (Item V) → List (K × V) → List (K × V)
  with_answer k None pairs = pairs
  with_answer k (Some (Value v)) pairs = (k, v) ∷ pairs
  with_answer k (Some Tombstone) pairs = pairs

  -- the pairs of the entries that are values; tombstones are left out
  abbrev pub values : List (K × Item V) → List (K × V)
  values [] = []
  values (e ∷ es) = with_answer e.0 (Some e.1) (values es)

module _ {K V : Type 0} (cmp : K → K → Ordering) where
  -- the first entry of each key, by rising keys
  abbrev pub placed : List (K × Item V) → List (K × Item V)
  placed [] = []
  placed (e ∷ es) = put cmp e.0 e.1 (placed es)

  -- the live pairs of the runs: of each key that lies within, the first item of it in the runs, where that is a value
  unfoldable pub live : (K → Bool) → List (List (Cell K V)) → List (K × V)
  live within runs = values (placed (filter (λ e. within e.0) (entries runs)))

  -- the runs from the first cell on whose key is at least q
  abbrev pub rests_from : K → List (List (Cell K V)) → List (List (Cell K V))
  rests_from q = map (λ run. drop (place cmp q run) run)

-- the keys of the pairs strictly rise
abbrev pub KeysRise : {K X : Type 0} → (K → K → Ordering) → List (K × X) → Type 0
KeysRise cmp pairs = T (is_sorted cmp pairs)

module _ {K : Type 0} (cmp : K → K → Ordering) where
  -- a key is below the upper end, where there is one
  abbrev pub below_end : Option K → K → Bool
  below_end None k = true
  below_end (Some hi) k = is_lt (cmp k hi)

  -- a key lies from the lower end on and below the upper end, where there is one
  abbrev pub between : K → Option K → K → Bool
  between lo hi k = is_le (cmp lo k) && below_end hi k

  -- of two keys that tie both lie within, or none
  abbrev pub KeepsTies : (K → Bool) → Type 0
  KeepsTies within = (x y : K) → cmp x y ≡ Equal → within x ≡ within y
