-- The pairs of an interval in falling order, and runs from the other end.
use Rattle.std.specs.Prelude.{true, Bool, ◌&&◌, List, map, filter, take, reverse}
use Rattle.std.specs.declared.cmp.Ordering.{Ordering}
use Rattle.std.specs.Ordering.{is_lt, is_le, flip_args}
use Rattle.std.specs.declared.option.Option.{Option}
use Rattle.std.specs.declared.option.Option.TheVariants.{None, Some}
use Rattle.std.specs.declared.ops.Bound.{Bound}
use Rattle.std.specs.declared.ops.Bound.TheVariants.{Included, Excluded, Unbounded}
use Rattle.std.specs.List.Sorted.{IsStrictlySortedBy}
use Rattle.cola_runs.specs.Cells.{Cell, place_cmp}
use Rattle.cola_runs.specs.Search.{place}
use Rattle.cola_pairs.specs.Walk.{pass_key, HeadsFrom}

module _ {K : Type 0} (cmp : K → K → Ordering) where
  -- a key is the lower end or above it, where there is one
  abbrev pub from_low : Option K → K → Bool
  from_low None k = true
  from_low (Some lo) k = is_le (cmp lo k)

  -- a key is at most, or below, the upper bound, where there is one
  abbrev pub up_to : Bound K → K → Bool
  up_to (Included hi) k = is_le (cmp k hi)
  up_to (Excluded hi) k = is_lt (cmp k hi)
  up_to Unbounded k = true

  -- a key lies from the lower end on and up to the bound
  abbrev pub within_bounds : Option K → Bound K → K → Bool
  within_bounds lo hi k = from_low lo k && up_to hi k

-- the pairs of an interval in falling order: the rising ones, reversed
abbrev pub falling_pairs : {K X : Type 0} → (K → K → Ordering) → Option K → Bound K → List (K × X) → List (K × X)
falling_pairs cmp lo hi pairs = reverse (filter (λ pair. within_bounds cmp lo hi pair.0) pairs)

module _ {K V : Type 0} (cmp : K → K → Ordering) where
  -- the cells of a run from its last one on: keys fall, and of one key the lookahead cell stands before the item
  abbrev pub IsFalling : List (Cell K V) → Type 0
  IsFalling = IsStrictlySortedBy (flip_args (place_cmp cmp))

  -- the cells whose keys are below the upper end, where there is one
  abbrev pub front_below : Option K → List (Cell K V) → List (Cell K V)
  front_below None run = run
  front_below (Some hi) run = take (place cmp hi run) run

  -- the same of each run
  abbrev pub fronts_below : Option K → List (List (Cell K V)) → List (List (Cell K V))
  fronts_below hi = map (front_below hi)

  -- a run without the cells at its end that have this key
  abbrev pub leave_key : K → List (Cell K V) → List (Cell K V)
  leave_key k run = reverse (pass_key (flip_args cmp) k (reverse run))

  abbrev pub leave_keys : K → List (List (Cell K V)) → List (List (Cell K V))
  leave_keys k = map (leave_key k)

  -- no run ends with a key above k
  abbrev pub LastsUpTo : K → List (List (Cell K V)) → Type 0
  LastsUpTo k runs = HeadsFrom (flip_args cmp) k (map reverse runs)
