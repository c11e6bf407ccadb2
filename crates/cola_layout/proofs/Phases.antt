-- What the answers of the clock's calls say of its tests, and which marks a level may have in each of its phases.
use Rattle.std.proofs.Common.{◌≡◌, ℕ, zero, suc, ◌+◌, ◌*◌, ◌^◌, ◌≤◌, Bool, true, false, cond, eqb, List, ◌↔◌, refl, sym, ◌∙◌, arith}
use Rattle.std.proofs.lemmas.Bool.{false≢true, eqb-false, eqb-true}
use Rattle.cola_clock.specs.Clock.{period, is_odd, works, is_before, is_over, window_step}
use Rattle.cola_clock.specs.Schedule.{phase_at, below_at}
use Rattle.cola_clock.specs.declared.state.Phase.TheVariants.{Before, Inside, After}
use Rattle.cola_clock.specs.declared.state.Below.TheVariants.{Visible, Shadow, Nothing}
use Rattle.cola_clock.proofs.Laws.{before_else, works-not_over, before-not_works, before-not_over}
use Rattle.cola_clock.specs.Marks.{Marks, AreMarksIdle, AreCursorsAtRest, AreMarksInside, AreLevelMarks, sample_end}

-- the tests behind a phase
phase_before : (w o : Bool) (k : ℕ) → cond w (Inside k) (cond o After Before) ≡ Before → (w ≡ false) × (o ≡ false)
phase_before true o k h = cc
phase_before false true k h = cc
phase_before false false k h = (refl, refl)

phase_inside : (w o : Bool) (k n : ℕ) → cond w (Inside k) (cond o After Before) ≡ Inside n → (w ≡ true) × (k ≡ n)
phase_inside true o k n h = (refl, cc)
phase_inside false true k n h = cc
phase_inside false false k n h = cc

phase_after : (w o : Bool) (k : ℕ) → cond w (Inside k) (cond o After Before) ≡ After → (w ≡ false) × (o ≡ true)
phase_after true o k h = cc
phase_after false true k h = (refl, refl)
phase_after false false k h = cc

-- the tests behind the run that is sampled
below_visible : (l o : Bool) → cond l Nothing (cond o Shadow Visible) ≡ Visible → (l ≡ false) × (o ≡ false)
below_visible true o h = cc
below_visible false true h = cc
below_visible false false h = (refl, refl)

below_shadow : (l o : Bool) → cond l Nothing (cond o Shadow Visible) ≡ Shadow → (l ≡ false) × (o ≡ true)
below_shadow true o h = cc
below_shadow false true h = (refl, refl)
below_shadow false false h = cc

below_nothing : (l o : Bool) → cond l Nothing (cond o Shadow Visible) ≡ Nothing → l ≡ true
below_nothing true o h = refl
below_nothing false true h = cc
below_nothing false false h = cc

-- the parity of the period behind the run that is sampled
pub visible-even : (t j bottom : ℕ) → below_at t j bottom ≡ Visible → is_odd (period t j) ≡ false
unfolding below_at
visible-even t j bottom h = (below_visible (eqb j bottom) (is_odd (period t j)) h).1

pub shadow-odd : (t j bottom : ℕ) → below_at t j bottom ≡ Shadow → is_odd (period t j) ≡ true
unfolding below_at
shadow-odd t j bottom h = (below_shadow (eqb j bottom) (is_odd (period t j)) h).1

pub nothing-bottom : (t j bottom : ℕ) → below_at t j bottom ≡ Nothing → j ≡ bottom
unfolding below_at
nothing-bottom t j bottom h = eqb-true j bottom (below_nothing (eqb j bottom) (is_odd (period t j)) h)

-- a level that samples is not the bottom
pub visible-above_bottom : (t j bottom : ℕ) → below_at t j bottom ≡ Visible → j ≡ bottom → ⊥
unfolding below_at
visible-above_bottom t j bottom h = eqb-false j bottom (below_visible (eqb j bottom) (is_odd (period t j)) h).0

pub shadow-above_bottom : (t j bottom : ℕ) → below_at t j bottom ≡ Shadow → j ≡ bottom → ⊥
unfolding below_at
shadow-above_bottom t j bottom h = eqb-false j bottom (below_shadow (eqb j bottom) (is_odd (period t j)) h).0

-- the phases exclude each other, at a level of 1 and more
pub to_come : (t j : ℕ) → 1 ≤ j → works t j ≡ false → is_over t j ≡ false → is_before t j ≡ true
to_come t zero some rests over = absurd (omega arith)
to_come t (suc j) some rests over = before_else t j rests over

not_over : (t j : ℕ) → 1 ≤ j → works t j ≡ true → is_over t j ≡ false
not_over t zero some works_now = absurd (omega arith)
not_over t (suc j) some works_now = works-not_over t j works_now

clash : (t j : ℕ) → 1 ≤ j → is_before t j ≡ true → works t j ≡ true → ⊥
clash t zero some early works_now = omega arith
clash t (suc j) some early works_now = false≢true (sym (before-not_works t j early) ∙ works_now)

early_over : (t j : ℕ) → 1 ≤ j → is_before t j ≡ true → is_over t j ≡ true → ⊥
early_over t zero some early over = omega arith
early_over t (suc j) some early over = false≢true (sym (before-not_over t j early) ∙ over)

-- in each phase of a level whose runs fit their slots, the marks that it may have
module _ (t j above : ℕ) (m : Marks) (below : List Marks) (visible_fits : m.visible ≤ 2 ^ (j + 2)) (shadow_fits : m.shadow ≤ 2 ^ (j + 2)) where
  pub fits-first : j ≡ 0 → AreMarksIdle m ↔ AreLevelMarks 0 t j above m below
  unfolding is_before is_over
  fits-first top = (
    (λ idle. record {
      visible_fits = visible_fits;
      shadow_fits = shadow_fits;
      first = λ _. idle;
      before = λ _. idle;
      inside = λ some _. absurd (omega arith);
      after = λ _. idle.at_rest;
    }),
    (λ fits. fits.first top),
  )

  pub fits-before : 1 ≤ j → phase_at t j ≡ Before → AreMarksIdle m ↔ AreLevelMarks 0 t j above m below
  unfolding phase_at
  fits-before some h =
      let tests : (works t j ≡ false) × (is_over t j ≡ false) = phase_before (works t j) (is_over t j) (window_step t j) h in (
        (λ idle. record {
          visible_fits = visible_fits;
          shadow_fits = shadow_fits;
          first = λ zero_level. absurd (omega arith);
          before = λ early. idle;
          inside = λ one works_now. absurd (false≢true (sym tests.0 ∙ works_now));
          after = λ over. absurd (false≢true (sym tests.1 ∙ over));
        }),
        (λ fits. fits.before (to_come t j some tests.0 tests.1)),
      )

  pub fits-inside : (due : ℕ) → 1 ≤ j → phase_at t j ≡ Inside due →
      AreMarksInside (28 * due) above (sample_end (is_odd (period t j)) below) m ↔ AreLevelMarks 0 t j above m below
  unfolding phase_at
  fits-inside due some h =
      let tests : (works t j ≡ true) × (window_step t j ≡ due) = phase_inside (works t j) (is_over t j) (window_step t j) due h in
      let over_not : is_over t j ≡ false = not_over t j some tests.0 in
      let steps : 0 + 28 * window_step t j ≡ 28 * due = omega (arith, tests.1) in (
        (λ working. record {
          visible_fits = visible_fits;
          shadow_fits = shadow_fits;
          first = λ zero_level. absurd (omega arith);
          before = λ early. absurd (clash t j some early tests.0);
          inside = λ one works_now. rw steps working;
          after = λ over. absurd (false≢true (sym over_not ∙ over));
        }),
        (λ fits. rw steps at (fits.inside some tests.0)),
      )

  pub fits-after : 1 ≤ j → phase_at t j ≡ After → AreCursorsAtRest m ↔ AreLevelMarks 0 t j above m below
  unfolding phase_at
  fits-after some h =
      let tests : (works t j ≡ false) × (is_over t j ≡ true) = phase_after (works t j) (is_over t j) (window_step t j) h in (
        (λ rests. record {
          visible_fits = visible_fits;
          shadow_fits = shadow_fits;
          first = λ zero_level. absurd (omega arith);
          before = λ early. absurd (early_over t j some early tests.1);
          inside = λ one works_now. absurd (false≢true (sym tests.0 ∙ works_now));
          after = λ over. rests;
        }),
        (λ fits. fits.after tests.1),
      )

-- two equivalences, one after the other
pub then : {A B C : Type 0} → A ↔ B → B ↔ C → A ↔ C
then e f = ((λ a. f.0 (e.0 a)), (λ c. e.1 (f.1 c)))
