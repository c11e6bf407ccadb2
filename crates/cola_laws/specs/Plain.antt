-- A plain slow program for one mutation, on whole lists: it computes what the laws speak of on small stores.
use Rattle.std.specs.Prelude.{ℕ, zero, suc, ◌^◌, ◌%◌, cond, List, [], ◌∷◌, length, map, ⊤}
use Rattle.std.specs.declared.option.Option.{Option}
use Rattle.std.specs.declared.cmp.Ordering.{Ordering}
use Rattle.cola_clock.specs.Clock.{period, is_odd, works}
use Rattle.cola_runs.specs.Cells.{Item, Cell}
use Rattle.cola_runs.specs.Weave.{look_at, relinked, weave}
use Rattle.cola_runs.specs.Steps.{Build, steps}
use Rattle.cola_laws.specs.Chain.{Level, part_of, build_of, visibles, next_runs, first_keys, updated}
use Rattle.cola_laws.specs.Sound.{HasAtMost, IsSound}
use Rattle.cola_laws.specs.Mutation.{new_run, levels_after}

-- the next clock of a store with so many levels: it counts modulo 2^(L+1), where L is the number of the bottom
abbrev pub next_clock : ℕ → ℕ → ℕ
next_clock levels t = suc t % 2 ^ levels

module _ {K V : Type 0} where
  -- a level with nothing in it
  abbrev pub empty_level : Level K V
  empty_level = record { visible = []; shadow = []; own = 0; incoming = 0; sampled = 0 }

  -- so many levels with nothing in them
  abbrev pub empty_levels : ℕ → List (Level K V)
  empty_levels zero = []
  empty_levels (suc n) = empty_level ∷ empty_levels n

  -- a level with this visible run and nothing else
  abbrev pub showing : List (Cell K V) → Level K V
  showing run = record { visible = run; shadow = []; own = 0; incoming = 0; sampled = 0 }

  -- the run of one lookahead cell for each of these keys
  abbrev pub look_run : List K → List (Cell K V)
  look_run keys = relinked 0 (map look_at keys)

  -- so many levels over a bottom with this run, each with the sample of the run below it as lookahead cells alone
  abbrev pub loaded : ℕ → List (Cell K V) → List (Level K V)
  loaded zero run = showing run ∷ []
  loaded (suc n) run = showing (look_run (first_keys (visibles (loaded n run)))) ∷ loaded n run

  -- the level with this build of its shadow
  abbrev pub with_build : Level K V → Build K V → Level K V
  with_build l build = record { visible = l.visible; shadow = build.done; own = build.own; incoming = build.incoming; sampled = build.sampled }

  -- the clock after a list of mutations
  abbrev pub clock_after : ℕ → ℕ → List (K × Item V) → ℕ
  clock_after levels t [] = t
  clock_after levels t (change ∷ changes) = clock_after levels (next_clock levels t) changes

module _ {K V : Type 0} (cmp : K → K → Ordering) where
  -- level j after so many steps of its build, where it works at clock t
  unfoldable pub worked : ℕ → ℕ → ℕ → List (Cell K V) → Level K V → List (Level K V) → Level K V
  worked count t j above l below =
      cond (works t j)
      (with_build l (steps cmp (part_of (is_odd (period t j)) below) l.visible above (first_keys (next_runs t j below)) count (build_of l)))
      l

  -- the same of level j and of all below it
  abbrev pub all_worked : ℕ → ℕ → ℕ → List (Cell K V) → List (Level K V) → List (Level K V)
  all_worked count t j above [] = []
  all_worked count t j above (l ∷ below) = worked count t j above l below ∷ all_worked count t (suc j) l.visible below

  -- level 0 with its shadow built whole
  unfoldable pub built : ℕ → K → Item V → Level K V → List (Level K V) → Level K V
  built t k item top below = record {
    visible = top.visible;
    shadow = weave cmp (part_of (is_odd (period t 0)) below) top.visible (new_run k item) (first_keys (next_runs t 0 below));
    own = 0;
    incoming = 0;
    sampled = 0;
  }

  -- the levels after one mutation at clock t that gives key k this item, with so many steps of each working level
  abbrev pub mutated : ℕ → ℕ → K → Item V → List (Level K V) → List (Level K V)
  mutated count t k item [] = []
  mutated count t k item (top ∷ below) = levels_after t 0 (built t k item top below ∷ all_worked count t 1 top.visible below)

  -- the levels after a list of mutations from clock t on, each of which gives a key an item
  abbrev pub all_mutated : ℕ → List (K × Item V) → List (Level K V) → List (Level K V)
  all_mutated t [] ls = ls
  all_mutated t (change ∷ changes) ls = all_mutated (next_clock (length ls) t) changes (mutated 28 t change.0 change.1 ls)

  -- the map after them
  abbrev pub all_updated : List (K × Item V) → (K → Option V) → K → Option V
  all_updated [] map = map
  all_updated (change ∷ changes) map = all_updated changes (updated cmp change.0 change.1 map)

  -- the map has at most so many keys after each of them
  abbrev pub StayWithin : ℕ → List (K × Item V) → (K → Option V) → Type 0
  StayWithin most [] map = ⊤
  StayWithin most (change ∷ changes) map = HasAtMost cmp most (updated cmp change.0 change.1 map) × StayWithin most changes (updated cmp change.0 change.1 map)

  -- a list of levels, of which the first is level 0, is sound for the map
  abbrev pub IsSoundChain : ℕ → ℕ → (K → Option V) → List (Level K V) → Type 0
  IsSoundChain most t map [] = ⊥
  IsSoundChain most t map (top ∷ below) = IsSound cmp most t map top below
