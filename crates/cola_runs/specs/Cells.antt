-- Cells, and runs as lists of cells.
use Rattle.std.specs.Prelude.{◌≡◌, ℕ, zero, suc, ◌*◌, Bool, true, false, List, [], ◌∷◌, ⊤}
use Rattle.std.specs.declared.cmp.Ordering.{Ordering}
use Rattle.std.specs.Ordering.{on, then_cmp, bool_cmp}
use Rattle.std.specs.List.Sorted.{IsStrictlySortedBy}
pub use Rattle.cola_abstract.specs.Cell.{Item, Value, Tombstone, Cell, Entry, Look}

module _ {K V : Type 0} where
  -- the key of a cell
  abbrev pub key_of : Cell K V → K
  key_of (Entry k i y l) = k
  key_of (Look k l) = k

  -- the link of a cell: an index of the next run
  abbrev pub link_of : Cell K V → ℕ
  link_of (Entry k i y l) = l
  link_of (Look k l) = l

  -- whether a cell is a lookahead cell
  abbrev pub is_look : Cell K V → Bool
  is_look (Entry k i y l) = false
  is_look (Look k l) = true

  -- the order of cells in a run: by key, and of one key the item before the lookahead cell
  abbrev pub place_cmp : (K → K → Ordering) → Cell K V → Cell K V → Ordering
  place_cmp cmp = then_cmp (on key_of cmp) (on is_look bool_cmp)

  -- each cell stands before all that follow it: keys rise, and a key has at most one item and
  -- one lookahead cell, the item first
  abbrev pub IsRising : (K → K → Ordering) → List (Cell K V) → Type 0
  IsRising cmp = IsStrictlySortedBy (place_cmp cmp)

  -- each link is 8 times the number of lookahead cells before it, where n of them stand before the list
  abbrev pub IsLinked : ℕ → List (Cell K V) → Type 0
  IsLinked n [] = ⊤
  IsLinked n (Entry k i y l ∷ cells) = (l ≡ 8 * n) × IsLinked n cells
  IsLinked n (Look k l ∷ cells) = (l ≡ 8 * n) × IsLinked (suc n) cells

  -- a well-formed run: its cells rise, and its links count from its first cell
  pub record IsWellFormed (cmp : K → K → Ordering) (run : List (Cell K V)) : Type 0 where
    pub rising : IsRising cmp run
    pub linked : IsLinked 0 run

  -- the key of each eighth cell, where the first of them comes after n more cells
  abbrev pub every_eighth : ℕ → List (Cell K V) → List K
  every_eighth n [] = []
  every_eighth zero (c ∷ cells) = key_of c ∷ every_eighth 7 cells
  every_eighth (suc n) (c ∷ cells) = every_eighth n cells

  -- the sample of a run: the keys at indices 7, 15, 23 and so on
  abbrev pub sample : List (Cell K V) → List K
  sample = every_eighth 7

  -- the keys of the lookahead cells, in order
  abbrev pub look_keys : List (Cell K V) → List K
  look_keys [] = []
  look_keys (Entry k i y l ∷ cells) = look_keys cells
  look_keys (Look k l ∷ cells) = k ∷ look_keys cells

  -- how many cells are lookahead cells
  abbrev pub count_looks : List (Cell K V) → ℕ
  count_looks [] = 0
  count_looks (Entry k i y l ∷ cells) = count_looks cells
  count_looks (Look k l ∷ cells) = suc (count_looks cells)

  -- how many cells are items
  abbrev pub count_items : List (Cell K V) → ℕ
  count_items [] = 0
  count_items (Entry k i y l ∷ cells) = suc (count_items cells)
  count_items (Look k l ∷ cells) = count_items cells

  -- how many cells are young items
  abbrev pub count_young : List (Cell K V) → ℕ
  count_young [] = 0
  count_young (Entry k i true l ∷ cells) = suc (count_young cells)
  count_young (Entry k i false l ∷ cells) = count_young cells
  count_young (Look k l ∷ cells) = count_young cells

  -- every cell is an old item that is a value: so it is in the bottom's runs
  abbrev pub IsOldValue : Cell K V → Type 0
  IsOldValue (Entry k (Value v) false l) = ⊤
  IsOldValue _ = ⊥
