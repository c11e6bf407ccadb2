-- One mutation: the steps of the working levels, the whole build of level 0, the flips.
use Rattle.std.specs.Prelude.{◌≡◌, ℕ, suc, ◌+◌, ◌*◌, ◌^◌, ◌≤◌, true, false, cond, List, [], ◌∷◌, length, ⊤}
use Rattle.std.specs.declared.cmp.Ordering.{Ordering}
use Rattle.std.specs.List.Sorted.{IsStrictlySortedBy}
use Rattle.cola_clock.specs.Clock.{period, is_odd, works, flips, ends, window_length}
use Rattle.cola_runs.specs.Cells.{Item, Cell, Entry, IsRising}
use Rattle.cola_runs.specs.Weave.{Part, weave}
use Rattle.cola_runs.specs.Steps.{consumed}
use Rattle.cola_laws.specs.Chain.{Level, part_of, build_of, next_runs, first_keys}
use Rattle.cola_laws.specs.Sound.{IsAtRest, IsWorking}

-- the run of the one new item, which is what level 0 takes in
abbrev pub new_run : {K V : Type 0} → K → Item V → List (Cell K V)
new_run k item = Entry k item false 0 ∷ []

module _ {K V : Type 0} where
  -- a level whose shadow becomes visible, with an empty new shadow
  abbrev pub turned : Level K V → Level K V
  turned l = record { visible = l.shadow; shadow = []; own = l.own; incoming = l.incoming; sampled = l.sampled }

  -- a level that leaves its window: its cursors become 0
  abbrev pub left_window : Level K V → Level K V
  left_window l = record { visible = l.visible; shadow = l.shadow; own = 0; incoming = 0; sampled = 0 }

  -- level j after the mutation at clock t, when all its steps are done: it flips, or it leaves its window, or it stays
  abbrev pub level_after : ℕ → ℕ → Level K V → Level K V
  level_after t j l = cond (flips t j) (turned l) (cond (ends t j) (left_window l) l)

  -- the same of level j and of all below it
  abbrev pub levels_after : ℕ → ℕ → List (Level K V) → List (Level K V)
  levels_after t j [] = []
  levels_after t j (l ∷ ls) = level_after t j l ∷ levels_after t (suc j) ls

module _ {K V : Type 0} (cmp : K → K → Ordering) where
  -- level j with its build `ahead` steps further, or to the end, where it works at clock t; a level that does not work stays
  pub record IsAdvanced (ahead t j : ℕ) (above : List (Cell K V)) (l : Level K V) (below : List (Level K V)) (m : Level K V) : Type 0 where
    pub visible : m.visible ≡ l.visible
    pub moves : works t j ≡ true →
        IsWorking cmp (part_of (is_odd (period t j)) below) l.visible above (first_keys (next_runs t j below)) (consumed (build_of l) + ahead) (build_of m)
    pub rests : works t j ≡ false → m ≡ l

  -- the same of level j and of all below it
  abbrev pub AreAdvanced : ℕ → ℕ → ℕ → List (Cell K V) → List (Level K V) → List (Level K V) → Type 0
  AreAdvanced ahead t j above [] [] = ⊤
  AreAdvanced ahead t j above [] (m ∷ ms) = ⊥
  AreAdvanced ahead t j above (l ∷ ls) [] = ⊥
  AreAdvanced ahead t j above (l ∷ ls) (m ∷ ms) = IsAdvanced ahead t j above l ls m × AreAdvanced ahead t (suc j) l.visible ls ms

  -- level 0 with its shadow built whole from its visible run, the new item and the sample, and its cursors at 0
  pub record IsBuilt (t : ℕ) (k : K) (item : Item V) (top : Level K V) (below : List (Level K V)) (built : Level K V) : Type 0 where
    pub visible : built.visible ≡ top.visible
    pub shadow : built.shadow ≡ weave cmp (part_of (is_odd (period t 0)) below) top.visible (new_run k item) (first_keys (next_runs t 0 below))
    pub at_rest : IsAtRest built

  -- a build that level j can do: its sources are in order, it samples at most 2^j keys, and the weave fits the slot
  pub record IsBuildable (part : Part) (j : ℕ) (own incoming : List (Cell K V)) (keys : List K) : Type 0 where
    pub own_rising : IsRising cmp own
    pub incoming_rising : IsRising cmp incoming
    pub keys_rising : IsStrictlySortedBy cmp keys
    pub few_keys : length keys ≤ 2 ^ j
    pub fits : length (weave cmp part own incoming keys) ≤ 2 ^ (j + 2)

  -- a build that level j can do in its window: it has at most as many source cells as the window has steps
  pub record IsWorkable (part : Part) (j : ℕ) (own incoming : List (Cell K V)) (keys : List K) : Type 0 where
    pub buildable : IsBuildable part j own incoming keys
    pub in_time : length own + length incoming + length keys ≤ 28 * window_length j

  -- from level j on, each level that works at clock t has a build that it can do
  abbrev pub AreWorkable : ℕ → ℕ → List (Cell K V) → List (Level K V) → Type 0
  AreWorkable t j above [] = ⊤
  AreWorkable t j above (l ∷ ls) =
      (works t j ≡ true → IsWorkable (part_of (is_odd (period t j)) ls) j l.visible above (first_keys (next_runs t j ls)))
      × AreWorkable t (suc j) l.visible ls
