-- Levels and the runs that they have at a clock: which runs can be seen, and which will be once the levels flip.
use Rattle.std.specs.Prelude.{ℕ, suc, Bool, cond, List, [], ◌∷◌}
use Rattle.std.specs.declared.cmp.Ordering.{Ordering}
use Rattle.std.specs.Ordering.{is_eq}
use Rattle.std.specs.declared.option.Option.{Option}
use Rattle.std.specs.declared.option.Option.TheVariants.{Some}
use Rattle.cola_clock.specs.Clock.{period, is_odd}
use Rattle.cola_runs.specs.Cells.{Item, Cell, sample}
use Rattle.cola_runs.specs.Seen.{answer, value_of}
use Rattle.cola_runs.specs.Weave.{Part, all_items, young_items, bottom_items}
use Rattle.cola_runs.specs.Steps.{Build}

-- a level: its visible run, its shadow run, and how many cells of its three sources the shadow's build has consumed
pub record Level (K V : Type 0) : Type 0 where
  pub visible : List (Cell K V)
  pub shadow : List (Cell K V)
  pub own : ℕ
  pub incoming : ℕ
  pub sampled : ℕ

-- the part that a level above the bottom builds: all items in an even period, of its own items
-- only the young ones in an odd one
abbrev pub upper_part : Bool → Part
upper_part odd = cond odd young_items all_items

-- the part that a level builds, by the parity of its period and by whether anything lies below it
abbrev pub part_of : {X : Type 0} → Bool → List X → Part
part_of odd [] = bottom_items
part_of odd (x ∷ below) = upper_part odd

module _ {K V : Type 0} where
  -- the build of a level's shadow, as far as it has come
  abbrev pub build_of : Level K V → Build K V
  build_of l = record { own = l.own; incoming = l.incoming; sampled = l.sampled; done = l.shadow }

  -- the visible runs of the levels, from the first on
  abbrev pub visibles : List (Level K V) → List (List (Cell K V))
  visibles [] = []
  visibles (l ∷ ls) = l.visible ∷ visibles ls

  -- the runs that a search sees once the first of these levels flips, where it is level j: its shadow, and below it the
  -- runs that will then be visible. In an odd period the level below flips with it, in an even one it stays
  abbrev pub shadows : ℕ → ℕ → List (Level K V) → List (List (Cell K V))
  shadows t j [] = []
  shadows t j (l ∷ ls) = l.shadow ∷ cond (is_odd (period t j)) (shadows t (suc j) ls) (visibles ls)

  -- the next runs of level j, where the levels below it are `below`: the runs that will lie below its shadow
  abbrev pub next_runs : ℕ → ℕ → List (Level K V) → List (List (Cell K V))
  next_runs t j below = cond (is_odd (period t j)) (shadows t (suc j) below) (visibles below)

  -- the sample of the first of the runs, and none where there is no run
  abbrev pub first_keys : List (List (Cell K V)) → List K
  first_keys [] = []
  first_keys (run ∷ runs) = sample run

module _ {K V : Type 0} (cmp : K → K → Ordering) where
  -- the value that a list of runs has for a key: that of the first run with an item of it. A
  -- tombstone and no item both mean none
  abbrev pub value_at : List (List (Cell K V)) → K → Option V
  value_at runs q = value_of (answer cmp q runs)

  -- the map after key k got this item: its value, or none where it is a tombstone
  abbrev pub updated : K → Item V → (K → Option V) → K → Option V
  updated k item map q = cond (is_eq (cmp q k)) (value_of (Some item)) (map q)
