-- The clock of a store whose bottom is L counts modulo 2^(L+1): no level up to the bottom can tell.
use Rattle.std.proofs.Common.{◌≡◌, ℕ, zero, suc, ◌+◌, ◌-◌, ◌%◌, ◌^◌, ◌≤◌, Bool, true, false, not, eqb, cond, inl, inr, refl, sym, ◌∙◌, ap, subst, arith}
use Rattle.std.proofs.Math.Pow.{mod-mod-pow}
use Rattle.cola_clock.specs.Clock.{period, elapsed, is_odd, flips, works, is_before, is_over, window_step, visible_slot, ends, SameSchedule}
use Rattle.cola_clock.proofs.Laws.{is_over-suc, flips-elapsed, is_odd-next_flip, is_odd-next_stay}
use Rattle.cola_clock.proofs.Places.{bit_cases}

-- a level's place in its period is the same modulo each power of two that its period's length divides
pub elapsed-wrap : (t n j : ℕ) → j ≤ n → elapsed (t % 2 ^ n) j ≡ elapsed t j
unfolding elapsed
elapsed-wrap t n j h =
    let parts : n ≡ (n - j) + j = omega arith in
    let P : ℕ → Type 0 = λ m. t % 2 ^ m % 2 ^ j ≡ t % 2 ^ j in
    subst P (sym parts) (mod-mod-pow t (n - j) j)

same_over : (t u j : ℕ) → elapsed t j ≡ elapsed u j → is_over t j ≡ is_over u j
unfolding is_over
same_over t u zero e = refl
same_over t u (suc j) e = rw e refl

same_before : (t u j : ℕ) → elapsed t j ≡ elapsed u j → is_before t j ≡ is_before u j
unfolding is_before
same_before t u zero e = refl
same_before t u (suc zero) e = refl
same_before t u (suc (suc j)) e = rw e refl

same_step : (t u j : ℕ) → elapsed t j ≡ elapsed u j → window_step t j ≡ window_step u j
unfolding window_step
same_step t u zero e = refl
same_step t u (suc zero) e = refl
same_step t u (suc (suc j)) e = rw e refl

same_works : (t u j : ℕ) → elapsed t j ≡ elapsed u j → works t j ≡ works u j
unfolding works elapsed
same_works t u zero e = refl
same_works t u (suc zero) e = ap (λ r. eqb r 0) e
same_works t u (suc (suc j)) e = rw e refl

-- a number's last bit is what the test says
last_bit : (n : ℕ) → n % 2 ≡ cond (is_odd n) 1 0
unfolding is_odd
last_bit n = elim (bit_cases n) [ inl e ↦ rw e refl | inr e ↦ rw e refl ]

-- the slot by the parity of the period
pub slot-of_parity : (t j : ℕ) → visible_slot t j ≡ cond (is_odd (period t j)) 1 0
unfolding visible_slot
slot-of_parity t j = last_bit (period t j)

same_slot : (t u j : ℕ) → is_odd (period t j) ≡ is_odd (period u j) → visible_slot t j ≡ visible_slot u j
same_slot t u j odd = slot-of_parity t j ∙ ap (λ b. cond b 1 0) odd ∙ sym (slot-of_parity u j)

-- a level that flips has its visible run in its other slot then, and one that stays in the same
other_slot : (odd : Bool) → cond (not odd) 1 0 ≡ 1 - cond odd 1 0
other_slot true = refl
other_slot false = refl

pub slot-turns : (t j : ℕ) → flips t j ≡ true → visible_slot (suc t) j ≡ 1 - visible_slot t j
slot-turns t j flip =
    slot-of_parity (suc t) j ∙ ap (λ (b : Bool). cond b 1 0) (is_odd-next_flip t j flip) ∙ other_slot (is_odd (period t j)) ∙ ap (λ (n : ℕ). 1 - n) (sym (slot-of_parity t j))

pub slot-stays : (t j : ℕ) → flips t j ≡ false → visible_slot (suc t) j ≡ visible_slot t j
slot-stays t j stay = same_slot (suc t) t j (is_odd-next_stay t j stay)

-- the tests of a level depend on its place and on the parity of its period alone
pub same_place : (t u j : ℕ) → elapsed t j ≡ elapsed u j → elapsed t (suc j) ≡ elapsed u (suc j) → SameSchedule t u j
unfolding ends
same_place t u j e below =
    let odd : is_odd (period t j) ≡ is_odd (period u j) = sym (is_over-suc t j) ∙ same_over t u (suc j) below ∙ is_over-suc u j in
    record {
      place = e;
      parity = odd;
      slot = same_slot t u j odd;
      flip = flips-elapsed t j ∙ ap (λ r. eqb (suc r) (2 ^ j)) e ∙ sym (flips-elapsed u j);
      work = same_works t u j e;
      before = same_before t u j e;
      over = same_over t u j e;
      step = same_step t u j e;
      end = rw (same_works t u j e, same_step t u j e) refl;
    }

-- so the clock modulo 2^(L+1) is as good as the clock, at each level up to L
pub schedule-wrap : (t bottom j : ℕ) → j ≤ bottom → SameSchedule (t % 2 ^ suc bottom) t j
schedule-wrap t bottom j h =
    same_place (t % 2 ^ suc bottom) t j (elapsed-wrap t (suc bottom) j (omega arith)) (elapsed-wrap t (suc bottom) (suc j) (omega arith))

-- what cannot be told apart cannot be told apart the other way round
pub same-back : (t u j : ℕ) → SameSchedule t u j → SameSchedule u t j
same-back t u j h = record {
  place = sym h.place;
  parity = sym h.parity;
  slot = sym h.slot;
  flip = sym h.flip;
  work = sym h.work;
  before = sym h.before;
  over = sym h.over;
  step = sym h.step;
  end = sym h.end;
}
