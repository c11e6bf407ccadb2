-- Soundness: what holds of the levels between two mutations.
use Rattle.std.specs.Prelude.{◌≡◌, ℕ, suc, ◌+◌, ◌*◌, ◌^◌, ◌≤◌, ◌⊎◌, min, Bool, true, false, not, cond, List, [], ◌∷◌, length, ⊤, IsSome}
use Rattle.std.specs.declared.cmp.Ordering.{Ordering}
use Rattle.std.specs.declared.cmp.Ordering.TheVariants.{Equal}
use Rattle.std.specs.declared.option.Option.{Option}
use Rattle.std.specs.declared.option.Option.TheVariants.{Some}
use Rattle.std.specs.List.{AllByRecursion}
use Rattle.std.specs.List.Sorted.{IsStrictlySortedBy}
use Rattle.cola_clock.specs.Clock.{period, is_odd, works, is_before, is_over, window_step, flips}
use Rattle.cola_runs.specs.Cells.{Cell, IsWellFormed, look_keys, count_items, count_young, IsOldValue}
use Rattle.cola_runs.specs.Seen.{Seen, Nothing, Old, Young, holds, seen, answer, AtMost}
use Rattle.cola_runs.specs.Weave.{Part, kept, kept_or_none, own_at}
use Rattle.cola_runs.specs.Steps.{Build, consumed, IsUnderWay}
use Rattle.cola_laws.specs.Chain.{Level, part_of, build_of, visibles, next_runs, first_keys, value_at}

module _ {V : Type 0} where
  -- what a finished shadow has of a key, from what the run above has of it now and from what the own run has. Of a young
  -- item above nothing is said: it hides whatever the shadow has. An old item above is the shadow's item, as the part
  -- keeps it. Where the run above has none, the shadow has what the part takes of the own run
  abbrev pub Carried : Part → Seen V → Seen V → Seen V → Type 0
  Carried part Nothing own shadow = holds shadow ≡ kept_or_none part (own_at part own)
  Carried part (Old i) own shadow = holds shadow ≡ kept part i
  Carried part (Young i) own shadow = ⊤

  -- a shadow that keeps all items of the own run, from what both have of a key: where it has none the own run has none,
  -- and an old item of it is the own run's
  abbrev pub Keeps : Seen V → Seen V → Type 0
  Keeps own Nothing = own ≡ Nothing
  Keeps own (Old i) = holds own ≡ Some i
  Keeps own (Young i) = ⊤

  -- what a run has of a key is settled: no young item
  abbrev pub IsSettled : Seen V → Type 0
  IsSettled Nothing = ⊤
  IsSettled (Old i) = ⊤
  IsSettled (Young i) = ⊥

-- a level above the bottom in an even period: its shadow keeps all items of its own run
abbrev pub KeepsAll : {X : Type 0} → Bool → List X → Type 0 → Type 0
KeepsAll odd [] P = ⊤
KeepsAll odd (x ∷ below) P = odd ≡ false → P

-- a run as it may be visible at level j above the bottom, in a period of this parity, where the run below it has the
-- sample `keys`: its items are at most 2 * 2^j in an even period and 3 * 2^j in an odd one
pub record IsUpperRun {K V : Type 0} (cmp : K → K → Ordering) (odd : Bool) (j : ℕ) (run : List (Cell K V)) (keys : List K) : Type 0 where
  pub formed : IsWellFormed cmp run
  pub samples : look_keys run ≡ keys
  pub few_items : count_items run ≤ cond odd 3 2 * 2 ^ j
  pub few_young : count_young run ≤ 2 ^ j

-- a run as it may be visible at the bottom of a store for so many keys: values alone, all old
pub record IsBottomRun {K V : Type 0} (cmp : K → K → Ordering) (most : ℕ) (run : List (Cell K V)) : Type 0 where
  pub formed : IsWellFormed cmp run
  pub values : AllByRecursion IsOldValue run
  pub few : length run ≤ most

module _ {K V : Type 0} (cmp : K → K → Ordering) (most : ℕ) where
  -- a run as it may be visible at level j, by whether anything lies below it
  abbrev pub IsVisible : {X : Type 0} → Bool → ℕ → List (Cell K V) → List X → List K → Type 0
  IsVisible odd j run [] keys = IsBottomRun cmp most run
  IsVisible odd j run (x ∷ below) keys = IsUpperRun cmp odd j run keys

  -- the runs of level j and of all below it, as they may be visible at clock t
  abbrev pub AreVisible : ℕ → ℕ → List (List (Cell K V)) → Type 0
  AreVisible t j [] = ⊤
  AreVisible t j (run ∷ runs) = IsVisible (is_odd (period t j)) j run runs (first_keys runs) × AreVisible t (suc j) runs

  -- the runs have a live answer for at most so many keys
  abbrev pub AreFew : List (List (Cell K V)) → Type 0
  AreFew runs = AtMost cmp most (λ q. answer cmp q runs)

  -- the finished shadow of level j, whose own run is `own` and over which `above` is visible; `next` are its next runs.
  -- It is a run as it may be visible in the next period, it carries what the run above has, it keeps what it must of the
  -- own run, and with its next runs it has a live answer for at most so many keys
  pub record IsFinished {X : Type 0} (odd : Bool) (j : ℕ) (above own shadow : List (Cell K V)) (below : List X) (next : List (List (Cell K V))) : Type 0 where
    pub fit : IsVisible (not odd) j shadow below (first_keys next)
    pub carried : (q : K) → Carried (part_of odd below) (seen cmp q above) (seen cmp q own) (seen cmp q shadow)
    pub keeps : KeepsAll odd below ((q : K) → Keeps (seen cmp q own) (seen cmp q shadow))
    pub few : AreFew (shadow ∷ next)

  -- each level of 1 and more that flips has a finished shadow
  abbrev pub HaveShadows : ℕ → ℕ → List (Cell K V) → List (Level K V) → Type 0
  HaveShadows t j above [] = ⊤
  HaveShadows t j above (l ∷ ls) =
      (flips t j ≡ true → IsFinished (is_odd (period t j)) j above l.visible l.shadow ls (next_runs t j ls)) × HaveShadows t (suc j) l.visible ls

  -- a level whose window is over has a finished shadow, and its runs with those below it have a
  -- live answer for at most so many keys
  pub record IsKept (t j : ℕ) (above : List (Cell K V)) (l : Level K V) (below : List (Level K V)) : Type 0 where
    pub over : is_over t j ≡ true → IsFinished (is_odd (period t j)) j above l.visible l.shadow below (next_runs t j below)
    pub few : AreFew (visibles (l ∷ below))

  -- the same of level j and of all below it
  abbrev pub AreKept : ℕ → ℕ → List (Cell K V) → List (Level K V) → Type 0
  AreKept t j above [] = ⊤
  AreKept t j above (l ∷ below) = IsKept t j above l below × AreKept t (suc j) l.visible below

-- a level with an empty shadow and no cursor moved
pub record IsIdle {K V : Type 0} (l : Level K V) : Type 0 where
  pub empty : l.shadow ≡ []
  pub own_rests : l.own ≡ 0
  pub incoming_rests : l.incoming ≡ 0
  pub sampled_rests : l.sampled ≡ 0

-- a level whose cursors are 0
pub record IsAtRest {K V : Type 0} (l : Level K V) : Type 0 where
  pub own_rests : l.own ≡ 0
  pub incoming_rests : l.incoming ≡ 0
  pub sampled_rests : l.sampled ≡ 0

-- a build over its three sources that has consumed at least so many of their cells, or all: no cursor is past its source,
-- the cursors cut the build after the shadow, and the shadow has at least the sampled cells and at most the consumed ones
pub record IsWorking {K V : Type 0} (cmp : K → K → Ordering) (part : Part) (own incoming : List (Cell K V)) (keys : List K)
    (least : ℕ) (build : Build K V) : Type 0 where
  pub under_way : IsUnderWay cmp part own incoming keys build
  pub enough : min (length own + length incoming + length keys) least ≤ consumed build
  pub sampled_done : build.sampled ≤ length build.done
  pub done_consumed : length build.done ≤ consumed build

-- the key is beside one of these
abbrev pub IsAmong : {K : Type 0} → (K → K → Ordering) → K → List K → Type 0
IsAmong cmp k [] = ⊥
IsAmong cmp k (h ∷ held) = (cmp h k ≡ Equal) ⊎ IsAmong cmp k held

module _ {K V : Type 0} (cmp : K → K → Ordering) where
  -- level j keeps pace with the clock t: before its window it is idle; in its window it has taken 28 steps for each
  -- mutation of it that is accepted, and `ahead` more, or all that there are; after it its cursors are 0
  pub record IsPaced (ahead t j : ℕ) (above : List (Cell K V)) (l : Level K V) (below : List (Level K V)) : Type 0 where
    pub before : is_before t j ≡ true → IsIdle l
    pub inside : works t j ≡ true →
        IsWorking cmp (part_of (is_odd (period t j)) below) l.visible above (first_keys (next_runs t j below)) (28 * window_step t j + ahead) (build_of l)
    pub after : is_over t j ≡ true → IsAtRest l

  -- the same of level j and of all below it
  abbrev pub ArePaced : ℕ → ℕ → ℕ → List (Cell K V) → List (Level K V) → Type 0
  ArePaced ahead t j above [] = ⊤
  ArePaced ahead t j above (l ∷ below) = IsPaced ahead t j above l below × ArePaced ahead t (suc j) l.visible below

  -- the map has at most so many keys
  abbrev pub HasAtMost : ℕ → (K → Option V) → Type 0
  HasAtMost most map = (keys : List K) → IsStrictlySortedBy cmp keys → AllByRecursion (λ q. IsSome (map q)) keys → length keys ≤ most

  -- levels 0 and more, in a store for so many keys, are sound for the map at clock t, with the working levels this many
  -- steps ahead of it
  pub record IsSoundFrom (most ahead t : ℕ) (map : K → Option V) (top : Level K V) (below : List (Level K V)) : Type 0 where
    pub visible : AreVisible cmp most t 0 (visibles (top ∷ below))
    pub stands : (q : K) → value_at cmp (visibles (top ∷ below)) q ≡ map q
    pub paced : ArePaced ahead t 1 top.visible below
    pub kept : AreKept cmp most t 1 top.visible below
    pub few : AreFew cmp most (visibles (top ∷ below))

  -- a chain that is sound for the map: between two mutations the level 0 is idle, and no level is ahead of the clock
  pub record IsSound (most t : ℕ) (map : K → Option V) (top : Level K V) (below : List (Level K V)) : Type 0 where
    pub sound : IsSoundFrom most 0 t map top below
    pub idle : IsIdle top
