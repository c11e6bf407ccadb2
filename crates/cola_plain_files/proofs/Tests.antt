-- What the tests of a level come to.
use Rattle.std.proofs.Common.{◌≡◌, ◌↔◌, ℕ, suc, ◌+◌, ◌*◌, ◌≤◌, Bool, true, false, if◌then◌else◌, List, [], ◌∷◌, ◌++◌, length, drop, refl, sym, ap, subst, ◌∙◌, arith, IsTrue}
use Rattle.cola_cell.specs.Held.{LawCell}
use Rattle.cola_cell.specs.Order.{key_cmp}
use Rattle.cola_clock.specs.Clock.{period, is_odd, works, is_over}
use Rattle.cola_clock.specs.Schedule.{phase_at}
use Rattle.cola_clock.specs.declared.state.Phase.{Phase}
use Rattle.cola_clock.specs.declared.state.Phase.TheVariants.{Before, Inside, After}
use Rattle.cola_laws.specs.Chain.{part_of, first_keys, next_runs}
use Rattle.cola_runs.specs.Cells.{Cell, Entry, Look, count_looks}
use Rattle.cola_runs.specs.Weave.{Part, relinked, unlinked, weave}
use Rattle.cola_plain_runs.proofs.Weaving.{unlinked_length}
use Rattle.cola_plain_files.specs.Levels.{IsLevelCut, HasFewFrom, runs_from}
use Rattle.cola_verdict.specs.Tests.{FileLevel, HasShadow, IsShadowFinished, live_pairs}

-- ---- the phases of a level

over_of : (w o : Bool) (n : ℕ) → (if w then Inside n else (if o then After else Before)) ≡ After → o ≡ true
over_of true o n e = cc
over_of false true n e = refl
over_of false false n e = cc

works_of : (w o : Bool) (n m : ℕ) → (if w then Inside n else (if o then After else Before)) ≡ Inside m → w ≡ true
works_of true o n m e = refl
works_of false true n m e = cc
works_of false false n m e = cc

pub over_of_after : (t j : ℕ) (p : Phase) → p ≡ phase_at t j → p ≡ After → is_over t j ≡ true
unfolding phase_at
over_of_after t j p e f = over_of (works t j) (is_over t j) _ (sym e ∙ f)

pub works_of_inside : (t j m : ℕ) (p : Phase) → p ≡ phase_at t j → p ≡ Inside m → works t j ≡ true
unfolding phase_at
works_of_inside t j m p e f = works_of (works t j) (is_over t j) _ m (sym e ∙ f)

pub false_of : (b : Bool) → (b ≡ true → ⊥) → b ≡ false
false_of true h = absurd (h refl)
false_of false h = refl

pub over_at_zero : (t j : ℕ) → j ≡ 0 → is_over t j ≡ false
unfolding is_over
over_at_zero t j e = rw e refl

-- ---- the build of a shadow

module _ {K V : Type 0} where
  -- links that are counted again
  relinked_again : (n m : ℕ) (cells : List (Cell K V)) → relinked n (relinked m cells) ≡ relinked n cells
  relinked_again n m [] = refl
  relinked_again n m (Entry k i y l ∷ cells) = ap (λ z. Entry k i y (8 * n) ∷ z) (relinked_again n m cells)
  relinked_again n m (Look k l ∷ cells) = ap (λ z. Look k (8 * n) ∷ z) (relinked_again (suc n) (suc m) cells)

  relinked_length : (n : ℕ) (cells : List (Cell K V)) → length (relinked n cells) ≡ length cells
  relinked_length n [] = refl
  relinked_length n (Entry k i y l ∷ cells) = ap suc (relinked_length n cells)
  relinked_length n (Look k l ∷ cells) = ap suc (relinked_length (suc n) cells)

module _ (part : Part) (own incoming : List LawCell) (keys : List (List ℕ)) where
  -- a weave has no more cells than its sources
  pub weave_length : length (weave key_cmp part own incoming keys) ≤ length own + length incoming + length keys
  unfolding weave
  weave_length = let a = relinked_length 0 (unlinked key_cmp part own incoming keys) in let b = unlinked_length key_cmp part own incoming keys in omega arith

  rest_relinked : (n : ℕ) → relinked n (weave key_cmp part own incoming keys) ≡ relinked n (unlinked key_cmp part own incoming keys)
  unfolding weave
  rest_relinked n = relinked_again n 0 (unlinked key_cmp part own incoming keys)

-- the cells done and the rest, with its links counted on, are the whole where the cursors cut the build
pub cut_where_same : (part : Part) (above : List LawCell) (level : FileLevel) (keys : List (List ℕ)) (whole rest run : List LawCell) (b : Bool) → whole ≡ weave key_cmp part level.visible above keys →
    rest ≡ weave key_cmp part (drop level.own level.visible) (drop level.incoming above) (drop level.sampled keys) → run ≡ level.shadow ++ relinked (count_looks level.shadow) rest →
    (IsTrue b ↔ (run ≡ whole)) → (IsTrue b ↔ IsLevelCut part above level keys)
cut_where_same part above level keys whole rest run b w r e h =
    let same : run ≡ level.shadow ++ relinked (count_looks level.shadow) (unlinked key_cmp part (drop level.own level.visible) (drop level.incoming above) (drop level.sampled keys)) =
    e ∙ ap (λ z. level.shadow ++ relinked (count_looks level.shadow) z) r
    ∙ ap (λ z. level.shadow ++ z) (rest_relinked part (drop level.own level.visible) (drop level.incoming above) (drop level.sampled keys) (count_looks level.shadow)) in
    (λ t. sym same ∙ h.0 t ∙ w, λ c. h.1 (same ∙ c ∙ sym w))

-- ---- a level inside its window, and behind it

module _ (most t j : ℕ) (above : List LawCell) (level : FileLevel) (below : List FileLevel) (b : Bool) where
  pub shadow_inside : works t j ≡ true → is_over t j ≡ false → (part : Part) (keys : List (List ℕ)) → part ≡ part_of (is_odd (period t j)) below → keys ≡ first_keys (next_runs t j below) →
      (IsTrue b ↔ IsLevelCut part above level keys) → (IsTrue b ↔ HasShadow most t j above level below)
  shadow_inside w o part keys p k h = (
    λ s. record {
      inside = λ _. subst (λ (x : Part). IsLevelCut x above level (first_keys (next_runs t j below))) p (subst (IsLevelCut part above level) k (h.0 s));
      over = λ v. absurd (cc);
    },
    λ s. h.1 (subst (IsLevelCut part above level) (sym k) (subst (λ (x : Part). IsLevelCut x above level (first_keys (next_runs t j below))) (sym p) (s.inside w))),
  )

  pub shadow_behind : works t j ≡ false → is_over t j ≡ true → (IsTrue b ↔ IsShadowFinished most (is_odd (period t j)) j above level below (next_runs t j below)) →
      (IsTrue b ↔ HasShadow most t j above level below)
  shadow_behind w o h = (λ s. record { inside = λ v. absurd (cc); over = λ _. h.0 s }, λ s. h.1 (s.over o))

-- ---- live keys

pub few_from : (most t j : ℕ) (levels : List FileLevel) (b : Bool) → 1 ≤ length levels → (is_over t j ≡ true → length (live_pairs (runs_from true t j levels)) ≤ most) →
    (IsTrue b ↔ (length (live_pairs (runs_from false t j levels)) ≤ most)) → (IsTrue b ↔ HasFewFrom most t j levels)
few_from most t j [] b some o h = absurd (omega (arith, some))
few_from most t j (level ∷ below) b some o h = (λ s. record { visible = h.0 s; over = o }, λ s. h.1 s.visible)

pub few_next_of : (most t j : ℕ) (levels : List FileLevel) → 1 ≤ length levels → HasFewFrom most t j levels → is_over t j ≡ true → length (live_pairs (runs_from true t j levels)) ≤ most
few_next_of most t j [] some h o = absurd (omega (arith, some))
few_next_of most t j (level ∷ below) some h o = h.over o
