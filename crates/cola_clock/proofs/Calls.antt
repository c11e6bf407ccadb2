-- The tests of the clock as the calls compute them, from p, a and b, the lengths of the periods of the level, of the
-- second level above it and of the level above it.
use Rattle.std.proofs.Common.{◌≡◌, ℕ, zero, suc, ◌-◌, ◌%◌, ◌^◌, ◌<◌, ◌≤◌, true, ◌&&◌, IsTrue, eqb, ltb, leb, if◌then◌else◌, ◌==◌, inl, inr, refl, arith}
use Rattle.std.proofs.lemmas.Bool.{le-leb, lt-leb, lt-ltb, le-ltb, eq-eqb, ne_eqb, cases_lt}
use Rattle.cola_clock.specs.Clock.{period, elapsed, is_odd, works, is_before, is_over, window_step, visible_slot}
use Rattle.cola_clock.specs.Schedule.{phase_at, part_at, below_at}
use Rattle.cola_clock.specs.declared.state.Phase.{Phase}
use Rattle.cola_clock.specs.declared.state.Phase.TheVariants.{Before, Inside, After}
use Rattle.cola_clock.specs.declared.state.Part.TheVariants.{All, Young}
use Rattle.cola_clock.specs.declared.state.Below.TheVariants.{Visible, Shadow, Nothing}
use Rattle.cola_clock.proofs.Places.{bit_cases}
use Rattle.cola_clock.proofs.Laws.{before-not_works, before-not_over, over-not_works}
use Rattle.std.proofs.Math.Pow.{pow_mono}

pub works_zero : (t j : ℕ) → j ≡ 0 → works t j ≡ true
unfolding works
works_zero t j e = rw e refl

pub works_one : (t j : ℕ) → j ≡ 1 → works t j ≡ eqb (t % 2) 0
unfolding works
works_one t j e = rw e refl

-- at a level of 2 and more
pub record Tests (t j p a b : ℕ) : Type 0 where
  pub works_is : works t j ≡ (leb a (t % p) && ltb (t % p) b)
  pub before_is : is_before t j ≡ ltb (t % p) a
  pub over_is : is_over t j ≡ leb b (t % p)
  pub step_is : window_step t j ≡ t % p - a

pub tests_of : (t j p a b : ℕ) → 2 ≤ j → p ≡ 2 ^ j → a ≡ 2 ^ (j - 2) → b ≡ 2 ^ (j - 1) → Tests t j p a b
unfolding works is_before is_over window_step elapsed
tests_of t zero p a b h _ _ _ = absurd (omega arith)
tests_of t (suc zero) p a b h _ _ _ = absurd (omega arith)
tests_of t (suc (suc i)) p a b h p_is a_is b_is =
    let two : suc (suc i) - 2 ≡ i = omega arith in
    let one : suc (suc i) - 1 ≡ suc i = omega arith in
    rw (p_is, a_is, b_is, two, one) (record { works_is = refl; before_is = refl; over_is = refl; step_is = refl })

pub works_from : (t j p a b : ℕ) → 2 ≤ j → p ≡ 2 ^ j → a ≡ 2 ^ (j - 2) → b ≡ 2 ^ (j - 1) → a ≤ t % p → ltb (t % p) b ≡ works t j
works_from t j p a b h p_is a_is b_is begun =
    rw ((tests_of t j p a b h p_is a_is b_is).works_is, le-leb a (t % p) begun) refl

pub works_not_yet : (t j p a : ℕ) → 2 ≤ j → p ≡ 2 ^ j → a ≡ 2 ^ (j - 2) → t % p < a → leb a (t % p) ≡ works t j
works_not_yet t j p a h p_is a_is early =
    rw ((tests_of t j p a (2 ^ (j - 1)) h p_is a_is refl).works_is, lt-leb a (t % p) early) refl

-- the window of a level of 2 and more begins before it ends
pub begins_first : (j a b : ℕ) → 2 ≤ j → a ≡ 2 ^ (j - 2) → b ≡ 2 ^ (j - 1) → a ≤ b
begins_first j a b h a_is b_is = rw (a_is, b_is) (pow_mono (omega arith))

-- what the four places of a level in its period make of its phase
pub phase_one : (t j : ℕ) → j ≡ 1 → phase_at t j ≡ (if t % 2 == 0 then Inside 0 else After)
unfolding phase_at works is_over window_step elapsed
phase_one t j e = rw e (elim (bit_cases t) [ inl even ↦ rw even refl | inr odd ↦ rw odd refl ])

pub phase_more : (t j p a b : ℕ) → Tests t j p a b → a ≤ b →
    phase_at t j ≡ (if ltb (t % p) a then Before else (if ltb (t % p) b then Inside (t % p - a) else After))
unfolding phase_at
phase_more t j p a b h order =
    rw (h.works_is, h.over_is, h.step_is)
    (elim (cases_lt (t % p) a) [
      | inl early ↦ rw (lt-leb a (t % p) early, lt-leb b (t % p) (omega arith), lt-ltb (t % p) a early) refl
      | inr begun ↦ elim (cases_lt (t % p) b) [
        | inl going ↦ rw (le-leb a (t % p) begun, lt-ltb (t % p) b going, le-ltb (t % p) a begun) refl
        | inr gone ↦ rw (le-leb a (t % p) begun, le-ltb (t % p) b gone, le-ltb (t % p) a begun, le-leb b (t % p) gone) refl
      ]
    ])

-- what a phase says of a level of 1 and more, whose three tests exclude each other
pub record Answered (t j : ℕ) (r : Phase) : Type 0 where
  pub value : r ≡ phase_at t j
  pub before : IsTrue (is_before t j) → r ≡ Before
  pub inside : IsTrue (works t j) → r ≡ Inside (window_step t j)
  pub after : IsTrue (is_over t j) → r ≡ After

pub answered : (t j : ℕ) (r : Phase) → 1 ≤ j → r ≡ phase_at t j → Answered t j r
unfolding phase_at
answered t zero r h e = absurd (omega arith)
answered t (suc j) r _ e = record {
  value = e;
  before = λ h. rw (e, before-not_works t j h, before-not_over t j h) refl;
  inside = λ h. rw (e, h) refl;
  after = λ h. rw (e, over-not_works t j h, h) refl;
}

-- the visible slot is the parity of the period
odd_slot : (t j slot : ℕ) → slot ≡ visible_slot t j → is_odd (period t j) ≡ eqb slot 1
unfolding visible_slot is_odd
odd_slot t j slot e = rw e refl

module _ (t j bottom slot : ℕ) where
  pub part_bottom : j ≡ bottom → All ≡ part_at t j bottom
  unfolding part_at
  part_bottom e = rw (eq-eqb j bottom e) refl

  pub part_odd : (j ≡ bottom → ⊥) → slot ≡ visible_slot t j → slot ≡ 1 → Young ≡ part_at t j bottom
  unfolding part_at
  part_odd ne e odd = rw (ne_eqb j bottom ne, odd_slot t j slot e, odd) refl

  pub part_even : (j ≡ bottom → ⊥) → slot ≡ visible_slot t j → (slot ≡ 1 → ⊥) → All ≡ part_at t j bottom
  unfolding part_at
  part_even ne e even = rw (ne_eqb j bottom ne, odd_slot t j slot e, ne_eqb slot 1 even) refl

  pub below_bottom : j ≡ bottom → Nothing ≡ below_at t j bottom
  unfolding below_at
  below_bottom e = rw (eq-eqb j bottom e) refl

  pub below_odd : (j ≡ bottom → ⊥) → slot ≡ visible_slot t j → slot ≡ 1 → Shadow ≡ below_at t j bottom
  unfolding below_at
  below_odd ne e odd = rw (ne_eqb j bottom ne, odd_slot t j slot e, odd) refl

  pub below_even : (j ≡ bottom → ⊥) → slot ≡ visible_slot t j → (slot ≡ 1 → ⊥) → Visible ≡ below_at t j bottom
  unfolding below_at
  below_even ne e even = rw (ne_eqb j bottom ne, odd_slot t j slot e, ne_eqb slot 1 even) refl

-- the phase of a level of 2 and more, at each of its three places
module _ (t j p a b : ℕ) (h : 2 ≤ j) (p_is : p ≡ 2 ^ j) (a_is : a ≡ 2 ^ (j - 2)) where
  pub phase_before : t % p < a → Answered t j Before
  phase_before early =
      answered t j Before (omega arith)
      (rw (
        phase_more t j p a (2 ^ (j - 1)) (tests_of t j p a (2 ^ (j - 1)) h p_is a_is refl) (begins_first j a (2 ^ (j - 1)) h a_is refl),
        lt-ltb (t % p) a early,
      ) refl)

  pub phase_inside : b ≡ 2 ^ (j - 1) → a ≤ t % p → t % p < b → Answered t j (Inside (t % p - a))
  phase_inside b_is begun going =
      answered t j (Inside (t % p - a)) (omega arith)
      (rw (phase_more t j p a b (tests_of t j p a b h p_is a_is b_is) (begins_first j a b h a_is b_is), le-ltb (t % p) a begun, lt-ltb (t % p) b going) refl)

  pub phase_after : b ≡ 2 ^ (j - 1) → a ≤ t % p → b ≤ t % p → Answered t j After
  phase_after b_is begun gone =
      answered t j After (omega arith)
      (rw (phase_more t j p a b (tests_of t j p a b h p_is a_is b_is) (begins_first j a b h a_is b_is), le-ltb (t % p) a begun, le-ltb (t % p) b gone) refl)

-- and of level 1
pub phase_even : (t j : ℕ) → j ≡ 1 → t % 2 ≡ 0 → Answered t j (Inside 0)
phase_even t j one even = answered t j (Inside 0) (omega arith) (rw (phase_one t j one, even) refl)

pub phase_odd : (t j : ℕ) → j ≡ 1 → (t % 2 ≡ 0 → ⊥) → Answered t j After
phase_odd t j one odd = answered t j After (omega arith) (rw (phase_one t j one, ne_eqb (t % 2) 0 odd) refl)
