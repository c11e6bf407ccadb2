-- The chain with nothing in it is sound for the empty map.
use Rattle.std.proofs.Common.{◌≡◌, ℕ, zero, suc, ◌+◌, ◌*◌, ◌/◌, ◌%◌, ◌^◌, Bool, false, List, [], ◌∷◌, length, refl, sym, ap, ◌∙◌, subst, arith, Option, None}
use Rattle.std.proofs.lemmas.Bool.{false≢true}
use Rattle.std.proofs.Math.Nat.{zero-div, zero-mod}
use Rattle.std.specs.declared.cmp.Ordering.{Ordering}
use Rattle.std.specs.List.{AllByRecursion}
use Rattle.std.specs.List.Sorted.{IsStrictlySortedBy}
use Rattle.cola_clock.specs.Clock.{period, is_odd, is_over, window_step, elapsed}
use Rattle.cola_clock.proofs.Laws.{is_over-suc}
use Rattle.cola_runs.specs.Cells.{Item}
use Rattle.cola_runs.specs.Seen.{IsLive, answer, value_of}
use Rattle.cola_runs.proofs.Order.{all_change}
use Rattle.cola_laws.specs.Chain.{part_of, visibles, next_runs, first_keys}
use Rattle.cola_laws.specs.Sound.{IsVisible, AreVisible, AreFew, AreKept, IsIdle, ArePaced}
use Rattle.cola_laws.specs.Plain.{empty_level, empty_levels, IsSoundChain}
use Rattle.cola_laws.proofs.Windows.{idle-working, rests-idle}

-- ---- at clock 0 no window is over or has had a mutation

even-zero : (j : ℕ) → is_odd (period 0 j) ≡ false
unfolding is_odd period
even-zero j = let e : 0 / 2 ^ j ≡ 0 = zero-div (2 ^ j) in rw e refl

pub not_over-zero : (j : ℕ) → is_over 0 (suc j) ≡ false
not_over-zero j = is_over-suc 0 j ∙ even-zero j

pub step-zero : (j : ℕ) → window_step 0 j ≡ 0
unfolding window_step elapsed
step-zero zero = refl
step-zero (suc zero) = refl
step-zero (suc (suc i)) = let e : 0 % 2 ^ suc (suc i) ≡ 0 = zero-mod (2 ^ suc (suc i)) in omega arith

module _ {K V : Type 0} where
  pub empty-idle : IsIdle (empty_level {K = K} {V = V})
  empty-idle = record { empty = refl; own_rests = refl; incoming_rests = refl; sampled_rests = refl }

no-keys : {K : Type 0} (keys : List K) → AllByRecursion (λ q. ⊥) keys → length keys ≡ 0
no-keys [] h = refl
no-keys (k ∷ keys) h = absurd h.0

module _ {K : Type 0} (V : Type 0) (cmp : K → K → Ordering) (most : ℕ) where
  empty-answer : (q : K) (n : ℕ) → answer cmp q (visibles (empty_levels {K = K} {V = V} n)) ≡ None
  empty-answer q zero = refl
  empty-answer q (suc n) = empty-answer q n

  empty-few : (n : ℕ) → AreFew cmp most (visibles (empty_levels {K = K} {V = V} n))
  empty-few n keys sorted live =
      let none : length keys ≡ 0 = no-keys keys (all_change (λ q l. subst (λ (x : Option (Item V)). IsLive x) (empty-answer q n) l) keys live) in omega arith

  -- a run with no cell may be visible anywhere
  empty-fit : (odd : Bool) (j n : ℕ) → IsVisible {V = V} cmp most odd j [] (visibles (empty_levels {K = K} {V = V} n)) (first_keys (visibles (empty_levels {K = K} {V = V} n)))
  unfolding IsStrictlySortedBy
  empty-fit odd j zero = record { formed = record { rising = tt; linked = tt }; values = tt; few = omega arith }
  empty-fit odd j (suc n) = record { formed = record { rising = tt; linked = tt }; samples = refl; few_items = omega arith; few_young = omega arith }

  empty-visible : (j n : ℕ) → AreVisible cmp most 0 j (visibles (empty_levels {K = K} {V = V} n))
  empty-visible j zero = tt
  empty-visible j (suc n) = (empty-fit (is_odd (period 0 j)) j n, empty-visible (suc j) n)

  empty-kept : (j n : ℕ) → AreKept cmp most 0 (suc j) [] (empty_levels {K = K} {V = V} n)
  empty-kept j zero = tt
  empty-kept j (suc n) = (record { over = λ over. absurd (false≢true (sym (not_over-zero j) ∙ over)); few = empty-few (suc n) }, empty-kept (suc j) n)

  empty-paced : (j n : ℕ) → ArePaced cmp 0 0 (suc j) [] (empty_levels {K = K} {V = V} n)
  empty-paced j zero = tt
  empty-paced j (suc n) = (
    record {
      before = λ before. empty-idle;
      inside = λ work. idle-working cmp (part_of (is_odd (period 0 (suc j))) (empty_levels n)) [] [] (first_keys (next_runs 0 (suc j) (empty_levels n))) empty_level (28 * window_step 0 (suc j) + 0) empty-idle
          (let e : window_step 0 (suc j) ≡ 0 = step-zero (suc j) in omega arith);
      after = λ over. rests-idle empty_level empty-idle;
    },
    empty-paced (suc j) n,
  )

  pub empty-sound : (n : ℕ) → IsSoundChain cmp most 0 (λ q. None) (empty_levels {K = K} {V = V} (suc n))
  empty-sound n = record {
    sound = record {
      visible = empty-visible 0 (suc n);
      stands = λ q. ap (λ (x : Option (Item V)). value_of x) (empty-answer q (suc n));
      paced = empty-paced 0 n;
      kept = empty-kept 0 n;
      few = empty-few (suc n);
    };
    idle = empty-idle;
  }
