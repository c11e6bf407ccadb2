-- What a build makes of its three sources, as one computed list, and what a half-done build keeps.
use Rattle.std.specs.Prelude.{◌≡◌, ℕ, suc, ◌*◌, Bool, true, false, not, cond, List, [], ◌∷◌, ◌++◌, map}
use Rattle.std.specs.declared.cmp.Ordering.{Ordering}
use Rattle.std.specs.Ordering.{match_ordering}
use Rattle.std.specs.declared.option.Option.{Option}
use Rattle.std.specs.declared.option.Option.TheVariants.{None, Some}
use Rattle.std.specs.List.{filter}
use Rattle.cola_runs.specs.Cells.{Item, Value, Tombstone, Cell, Entry, Look, place_cmp, count_looks, count_items, count_young}
use Rattle.cola_runs.specs.Seen.{Seen, Nothing, Old, Young, flagged}

-- which items a build takes, and how it marks them
pub record Part : Type 0 where
  -- of the own run only the young items are taken
  pub only_young : Bool
  -- items of the incoming run are marked young; those of the own run are always marked old
  pub marks_young : Bool
  -- tombstones are left out
  pub drops_tombstones : Bool

-- the part in an even period: all items, the incoming ones young
abbrev pub all_items : Part
all_items = record { only_young = false; marks_young = true; drops_tombstones = false }

-- the part in an odd period: the young own items and all incoming ones, all old
abbrev pub young_items : Part
young_items = record { only_young = true; marks_young = false; drops_tombstones = false }

-- the part at the bottom: all items but tombstones, all old
abbrev pub bottom_items : Part
bottom_items = record { only_young = false; marks_young = false; drops_tombstones = true }

-- whether an own item with this young flag is taken
abbrev pub is_wanted : Part → Bool → Bool
is_wanted part y = cond part.only_young y true

module _ {V : Type 0} where
  -- the item as the part keeps it: none for a tombstone that is left out
  abbrev pub kept : Part → Item V → Option (Item V)
  kept part (Value v) = Some (Value v)
  kept part Tombstone = cond part.drops_tombstones None (Some Tombstone)

  -- the own item that the part takes
  abbrev pub own_at : Part → Seen V → Option (Item V)
  own_at part Nothing = None
  own_at part (Old i) = cond part.only_young None (Some i)
  own_at part (Young i) = Some i

  -- the same, where the part keeps it
  abbrev pub kept_or_none : Part → Option (Item V) → Option (Item V)
  kept_or_none part None = None
  kept_or_none part (Some i) = kept part i

  -- an item with a flag, or nothing
  abbrev pub flagged_or_nothing : Bool → Option (Item V) → Seen V
  flagged_or_nothing y None = Nothing
  flagged_or_nothing y (Some i) = flagged y i

  -- what a build has of a key, from what its own run has and from the incoming item: the incoming item wins
  abbrev pub woven : Part → Seen V → Option (Item V) → Seen V
  woven part own (Some i) = flagged_or_nothing part.marks_young (kept part i)
  woven part own None = flagged_or_nothing false (kept_or_none part (own_at part own))

module _ {K V : Type 0} where
  -- the items whose flag is wanted, with the flag y and the link 0
  abbrev pub taken : (Bool → Bool) → Bool → List (Cell K V) → List (Cell K V)
  taken wanted y [] = []
  taken wanted y (Entry k i x l ∷ cells) = cond (wanted x) (Entry k i y 0 ∷ taken wanted y cells) (taken wanted y cells)
  taken wanted y (Look k l ∷ cells) = taken wanted y cells

  -- the own items that the part takes, as old ones
  abbrev pub taken_own : Part → List (Cell K V) → List (Cell K V)
  taken_own part = taken (is_wanted part) false

  -- all incoming items, marked as the part says
  abbrev pub taken_incoming : Part → List (Cell K V) → List (Cell K V)
  taken_incoming part = taken (λ _. true) part.marks_young

  -- how many own items the part takes
  abbrev pub own_items : Part → List (Cell K V) → ℕ
  own_items part own = cond part.only_young (count_young own) (count_items own)

  -- whether the part keeps a cell
  abbrev pub stays : Part → Cell K V → Bool
  stays part (Entry k (Value v) y l) = true
  stays part (Entry k Tombstone y l) = not part.drops_tombstones
  stays part (Look k l) = true

  -- a lookahead cell of the key, with the link 0
  abbrev pub look_at : K → Cell K V
  look_at k = Look k 0

  -- the same cells with the links of a run, where n lookahead cells stand before the list
  abbrev pub relinked : ℕ → List (Cell K V) → List (Cell K V)
  relinked n [] = []
  relinked n (Entry k i y l ∷ cells) = Entry k i y (8 * n) ∷ relinked n cells
  relinked n (Look k l ∷ cells) = Look k (8 * n) ∷ relinked (suc n) cells

module _ {K V : Type 0} (cmp : K → K → Ordering) where
  -- the list with the cell set in its place, and in place of the cell that stood there
  abbrev pub set_cell : Cell K V → List (Cell K V) → List (Cell K V)
  set_cell c [] = c ∷ []
  set_cell c (d ∷ cells) = match_ordering (place_cmp cmp c d) (c ∷ d ∷ cells) (c ∷ cells) (d ∷ set_cell c cells)

  -- the second list with each cell of the first set in its place
  abbrev pub set_cells : List (Cell K V) → List (Cell K V) → List (Cell K V)
  set_cells [] base = base
  set_cells (c ∷ cells) base = set_cell c (set_cells cells base)

  -- the weave before its links are counted: the incoming items set among the own ones, without
  -- the tombstones that are left out, and the keys set among them
  unfoldable pub unlinked : Part → List (Cell K V) → List (Cell K V) → List K → List (Cell K V)
  unlinked part own incoming keys = set_cells (map look_at keys) (filter (stays part) (set_cells (taken_incoming part incoming) (taken_own part own)))

  -- the weave of three sources: each item of the merge with its flag, and one lookahead cell
  -- for each key, in order, with the links of a run
  unfoldable pub weave : Part → List (Cell K V) → List (Cell K V) → List K → List (Cell K V)
  weave part own incoming keys = relinked 0 (unlinked part own incoming keys)

  -- a cut of a build: the cells done, followed by the weave of what is left of the sources, are
  -- the weave of the whole sources, with the links counted in the whole
  abbrev pub IsCut : Part → List (Cell K V) → List (Cell K V) → List K → List (Cell K V) → List (Cell K V) → List K → List (Cell K V) → Type 0
  IsCut part own incoming keys own_left incoming_left keys_left done =
      done ++ relinked (count_looks done) (unlinked part own_left incoming_left keys_left) ≡ weave part own incoming keys
