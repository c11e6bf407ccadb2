-- The laws of the clock: how the tests of a level follow from the parities of the periods, how they go on at the next
-- clock, and what that says of windows and flips.
use Rattle.std.proofs.Common.{◌≡◌, inl, inr, ℕ, zero, suc, ◌+◌, ◌-◌, ◌*◌, ◌/◌, ◌%◌, ◌^◌, ◌<◌, ◌≤◌, true, false, not, ◌&&◌, eqb, refl, sym, ◌∙◌, ap, subst, arith}
use Rattle.std.proofs.lemmas.Bool.{cases_Bool, cases_order, eq-eqb, eqb-true, eqb-false, leb-true, leb-false, ltb-true, ltb-false, not-true, not_from_false, not_from_true, and_parts, and_cases, and_from, and_left, and_right, false≢true}
use Rattle.std.proofs.lemmas.Bool.Decides.{nat_tests}
use Rattle.std.proofs.lemmas.Nat.{mod_below, pow_pos, shr-shr, div-add-mod'}
use Rattle.std.proofs.Math.Nat.{two-pow-succ, div-one}
use Rattle.std.proofs.Math.Numerals.{add-one}
use Rattle.std.proofs.Math.Nat.{add-zero, add-suc}
use Rattle.cola_clock.specs.Clock.{period, elapsed, is_odd, flips, works, is_before, is_over, window_step, window_length, ends, InOneWindow, SourcesStay}
use Rattle.cola_clock.proofs.Places.{step_inside, step_over, placed, divides-next, twice, bit_cases, upper_half, second_quarter, first_quarter, last_by_halves, window_end, and_true_right, and_not}

-- a level's place in its period is the remainder of the clock
pub elapsed_is : (t j : ℕ) → elapsed t j ≡ t % 2 ^ j
unfolding elapsed
elapsed_is t j = refl

-- a level has been in its period for less than the period's length
pub elapsed_below : (t j : ℕ) → elapsed t j < 2 ^ j
unfolding elapsed
elapsed_below t j = mod_below t (2 ^ j) (pow_pos j)

-- a level's place in its period, by the parity of the level above and that level's place
pub elapsed-suc : (t j : ℕ) → elapsed t (suc j) ≡ (period t j % 2) * 2 ^ j + elapsed t j
unfolding elapsed period
elapsed-suc t j = twice t j

-- of two numbers that follow each other one is odd
pub is_odd-suc : (n : ℕ) → is_odd (suc n) ≡ not (is_odd n)
unfolding is_odd
is_odd-suc n =
    elim (bit_cases n) [
      | inl e ↦ rw ((step_inside n (n / 2) 2 (n % 2) (placed n 2) (omega arith)).0, e) refl
      | inr e ↦ rw ((step_over n (n / 2) 2 (n % 2) (placed n 2) (omega arith)).0, e) refl
    ]

-- a window is over exactly where the level above stands in an odd period
pub is_over-suc : (t j : ℕ) → is_over t (suc j) ≡ is_odd (period t j)
unfolding is_over is_odd
is_over-suc t j = rw (elapsed-suc t j) (upper_half (period t j % 2) (2 ^ j) (elapsed t j) (bit_cases (period t j)) (elapsed_below t j))

-- level 1 works at even clocks
pub works-one : (t : ℕ) → works t 1 ≡ not (is_odd (period t 0))
unfolding works is_odd period
works-one t =
    rw (div-one t) (elim (bit_cases t) [ inl e ↦ rw e refl | inr e ↦ rw e refl ])

-- a level of 2 and more works where the second level above it stands in an odd period and the level above it in an even one
pub works-suc_suc : (t j : ℕ) → works t (suc (suc j)) ≡ (is_odd (period t j) && not (is_odd (period t (suc j))))
unfolding works is_odd
works-suc_suc t j =
    rw (elapsed-suc t (suc j), elapsed-suc t j)
    (second_quarter (period t j % 2) (period t (suc j) % 2) (2 ^ j) (2 ^ suc j) (elapsed t j) (bit_cases (period t j)) (bit_cases (period t (suc j))) (elapsed_below t j) (two-pow-succ j))

-- the window of a level of 2 and more is still to come where both levels above it stand in even periods
pub is_before-suc_suc : (t j : ℕ) → is_before t (suc (suc j)) ≡ (not (is_odd (period t j)) && not (is_odd (period t (suc j))))
unfolding is_before is_odd
is_before-suc_suc t j =
    rw (elapsed-suc t (suc j), elapsed-suc t j)
    (first_quarter (period t j % 2) (period t (suc j) % 2) (2 ^ j) (2 ^ suc j) (elapsed t j) (bit_cases (period t j)) (bit_cases (period t (suc j))) (elapsed_below t j) (two-pow-succ j))

-- a level flips after the last mutation of its period
pub flips-elapsed : (t j : ℕ) → flips t j ≡ eqb (suc (elapsed t j)) (2 ^ j)
unfolding flips elapsed
flips-elapsed t j = divides-next t (t / 2 ^ j) (2 ^ j) (t % 2 ^ j) (placed t (2 ^ j)) (elapsed_below t j)

-- level 0 flips after every mutation
pub flips-zero : (t : ℕ) → flips t 0 ≡ true
flips-zero t = rw flips-elapsed (let h : elapsed t 0 < 1 = elapsed_below t 0 in grind (arith, nat_tests))

-- a level flips where the level above flips out of an odd period
pub flips-suc : (t j : ℕ) → flips t (suc j) ≡ (flips t j && is_odd (period t j))
unfolding is_odd
flips-suc t j =
    rw (flips-elapsed t (suc j), flips-elapsed t j, elapsed-suc t j)
    (last_by_halves (period t j % 2) (2 ^ j) (2 ^ suc j) (elapsed t j) (bit_cases (period t j)) (elapsed_below t j) (two-pow-succ j))

-- where a level flips, its next period begins
pub period-next_flip : (t j : ℕ) → flips t j ≡ true → period (suc t) j ≡ suc (period t j)
unfolding period elapsed
period-next_flip t j h =
    (step_over t (t / 2 ^ j) (2 ^ j) (t % 2 ^ j) (placed t (2 ^ j)) (eqb-true _ _ (sym (flips-elapsed t j) ∙ h))).1

pub elapsed-next_flip : (t j : ℕ) → flips t j ≡ true → elapsed (suc t) j ≡ 0
unfolding elapsed
elapsed-next_flip t j h =
    (step_over t (t / 2 ^ j) (2 ^ j) (t % 2 ^ j) (placed t (2 ^ j)) (eqb-true _ _ (sym (flips-elapsed t j) ∙ h))).0

-- a level that does not flip has its place in its period before the last one
pub elapsed-room : (t j : ℕ) → flips t j ≡ false → suc (elapsed t j) < 2 ^ j
elapsed-room t j h =
    let ne : eqb (suc (elapsed t j)) (2 ^ j) ≡ false = sym (flips-elapsed t j) ∙ h in
    let below : elapsed t j < 2 ^ j = elapsed_below t j in
    let other : suc (elapsed t j) ≡ 2 ^ j → ⊥ = eqb-false _ _ ne in
    omega arith

-- where it does not flip, its period goes on
pub period-next_stay : (t j : ℕ) → flips t j ≡ false → period (suc t) j ≡ period t j
unfolding period elapsed
period-next_stay t j h = (step_inside t (t / 2 ^ j) (2 ^ j) (t % 2 ^ j) (placed t (2 ^ j)) (elapsed-room t j h)).1

pub elapsed-next_stay : (t j : ℕ) → flips t j ≡ false → elapsed (suc t) j ≡ suc (elapsed t j)
unfolding elapsed
elapsed-next_stay t j h = (step_inside t (t / 2 ^ j) (2 ^ j) (t % 2 ^ j) (placed t (2 ^ j)) (elapsed-room t j h)).0

-- so the parity of its period turns exactly where it flips
pub is_odd-next_flip : (t j : ℕ) → flips t j ≡ true → is_odd (period (suc t) j) ≡ not (is_odd (period t j))
is_odd-next_flip t j h = rw (period-next_flip t j h) (is_odd-suc (period t j))

pub is_odd-next_stay : (t j : ℕ) → flips t j ≡ false → is_odd (period (suc t) j) ≡ is_odd (period t j)
is_odd-next_stay t j h = ap is_odd (period-next_stay t j h)

-- a window ends where the level above flips out of an even period, that is where that level flips and this one does not
pub ends-suc : (t j : ℕ) → ends t (suc j) ≡ (flips t j && not (is_odd (period t j)))
unfolding ends window_step window_length is_odd
ends-suc t zero = rw (works-one t, flips-zero t) (and_true_right _)
ends-suc t (suc j) =
    rw (works-suc_suc t j, flips-suc t j, flips-elapsed t j, elapsed-suc t (suc j), elapsed-suc t j)
    (window_end (period t j % 2) (period t (suc j) % 2) (2 ^ j) (2 ^ suc j) (elapsed t j) (bit_cases (period t j)) (bit_cases (period t (suc j))) (elapsed_below t j) (two-pow-succ j))

-- ---- a level of 1 and more is in exactly one of three phases: its window is to come, it works, its window is over

pub works-not_over : (t j : ℕ) → works t (suc j) ≡ true → is_over t (suc j) ≡ false
works-not_over t zero h = is_over-suc t 0 ∙ not-true _ (sym (works-one t) ∙ h)
works-not_over t (suc j) h = is_over-suc t (suc j) ∙ not-true _ (and_parts _ _ (sym (works-suc_suc t j) ∙ h)).1

pub over-not_works : (t j : ℕ) → is_over t (suc j) ≡ true → works t (suc j) ≡ false
over-not_works t j over =
    elim (cases_Bool (works t (suc j))) [
      | inl works_now ↦ absurd (false≢true (sym (works-not_over t j works_now) ∙ over))
      | inr rests ↦ rests
    ]

pub before-not_over : (t j : ℕ) → is_before t (suc j) ≡ true → is_over t (suc j) ≡ false
unfolding is_before
before-not_over t zero h = cc
before-not_over t (suc j) h = is_over-suc t (suc j) ∙ not-true _ (and_parts _ _ (sym (is_before-suc_suc t j) ∙ h)).1

pub before-not_works : (t j : ℕ) → is_before t (suc j) ≡ true → works t (suc j) ≡ false
unfolding is_before
before-not_works t zero h = cc
before-not_works t (suc j) h =
    let both : (not (is_odd (period t j)) && not (is_odd (period t (suc j)))) ≡ true = sym (is_before-suc_suc t j) ∙ h in
    let even : is_odd (period t j) ≡ false = not-true _ (and_parts _ _ both).0 in
    works-suc_suc t j ∙ and_left (is_odd (period t j)) (not (is_odd (period t (suc j)))) even

pub before_else : (t j : ℕ) → works t (suc j) ≡ false → is_over t (suc j) ≡ false → is_before t (suc j) ≡ true
before_else t zero h over =
    absurd (false≢true (sym h ∙ works-one t ∙ not_from_false _ (sym (is_over-suc t 0) ∙ over)))
before_else t (suc j) h over =
    let above : is_odd (period t (suc j)) ≡ false = sym (is_over-suc t (suc j)) ∙ over in
    elim (cases_Bool (is_odd (period t j))) [
      | inl odd ↦ absurd (false≢true (sym h ∙ works-suc_suc t j ∙ and_from _ _ odd (not_from_false _ above)))
      | inr even ↦ is_before-suc_suc t j ∙ and_from _ _ (not_from_false _ even) (not_from_false _ above)
    ]

-- a level works only in even periods of the level above it
pub works-even : (t j : ℕ) → works t (suc j) ≡ true → is_odd (period t j) ≡ false
works-even t j h = sym (is_over-suc t j) ∙ works-not_over t j h

-- ---- how the phases follow each other

-- two adjacent levels of 1 and more never work in one mutation
pub adjacent-rest : (t j : ℕ) → works t (suc j) ≡ true → works t (suc (suc j)) ≡ false
adjacent-rest t j h = works-suc_suc t j ∙ and_left _ _ (works-even t j h)

-- a level flips out of a period in which its window is over
pub flips-over : (t j : ℕ) → flips t (suc j) ≡ true → is_over t (suc j) ≡ true
flips-over t j h = is_over-suc t j ∙ (and_parts _ _ (sym (flips-suc t j) ∙ h)).1

-- where a level flips, the level above flips too
pub flips-above : (t j : ℕ) → flips t (suc j) ≡ true → flips t j ≡ true
flips-above t j h = (and_parts _ _ (sym (flips-suc t j) ∙ h)).0

-- a window ends where the level above flips and the level itself does not
pub ends-flips : (t j : ℕ) → ends t (suc j) ≡ (flips t j && not (flips t (suc j)))
ends-flips t j = rw (ends-suc t j, flips-suc t j) (and_not (flips t j) (is_odd (period t j)))

pub ends-works : (t j : ℕ) → ends t j ≡ true → works t j ≡ true
unfolding ends
ends-works t j h = (and_parts _ _ h).0

-- where a window ends, its last mutation is done
pub ends-last : (t j : ℕ) → ends t j ≡ true → suc (window_step t j) ≡ window_length j
unfolding ends
ends-last t j h = eqb-true _ _ (and_parts _ _ h).1

-- a level above one that does not flip stays in its odd period
pub keeps_odd : (t j : ℕ) → is_odd (period t j) ≡ true → flips t (suc j) ≡ false → flips t j ≡ false
keeps_odd t j odd stay =
    elim (cases_Bool (flips t j)) [
      | inl flip ↦ absurd (false≢true (sym stay ∙ flips-suc t j ∙ and_from _ _ flip odd))
      | inr same ↦ same
    ]

-- and one above a window that does not end in its even period
pub keeps_even : (t j : ℕ) → is_odd (period t j) ≡ false → ends t (suc j) ≡ false → flips t j ≡ false
keeps_even t j even goes_on =
    elim (cases_Bool (flips t j)) [
      | inl flip ↦ absurd (false≢true (sym goes_on ∙ ends-suc t j ∙ and_from _ _ flip (not_from_false _ even)))
      | inr same ↦ same
    ]

-- within a window, before its last mutation, neither the level nor the levels beside it flip
pub window-keeps_above : (t j : ℕ) → works t (suc j) ≡ true → ends t (suc j) ≡ false → flips t j ≡ false
window-keeps_above t j works_now goes_on = keeps_even t j (works-even t j works_now) goes_on

pub window-keeps_self : (t j : ℕ) → works t (suc j) ≡ true → flips t (suc j) ≡ false
window-keeps_self t j works_now = flips-suc t j ∙ and_right _ _ (works-even t j works_now)

pub window-keeps_below : (t j : ℕ) → works t (suc j) ≡ true → flips t (suc (suc j)) ≡ false
window-keeps_below t j works_now = flips-suc t (suc j) ∙ and_left _ _ (window-keeps_self t j works_now)

-- it goes on at the next clock, one mutation further
pub window-next : (t j : ℕ) → works t (suc j) ≡ true → ends t (suc j) ≡ false → works (suc t) (suc j) ≡ true
window-next t zero works_now goes_on =
    absurd (false≢true (sym goes_on ∙ ends-suc t 0 ∙ and_from _ _ (flips-zero t) (not_from_false _ (works-even t 0 works_now))))
window-next t (suc j) works_now goes_on =
    let self : flips t (suc j) ≡ false = window-keeps_above t (suc j) works_now goes_on in
    let odd : is_odd (period t j) ≡ true = (and_parts _ _ (sym (works-suc_suc t j) ∙ works_now)).0 in
    let above : flips t j ≡ false = keeps_odd t j odd self in
    works-suc_suc (suc t) j
    ∙ and_from _ _ (is_odd-next_stay t j above ∙ odd)
    (not_from_false _ (is_odd-next_stay t (suc j) self ∙ works-even t (suc j) works_now))

pub window_step-next : (t j : ℕ) → works t (suc j) ≡ true → ends t (suc j) ≡ false →
    window_step (suc t) (suc j) ≡ suc (window_step t (suc j))
unfolding window_step works
window_step-next t zero works_now goes_on =
    absurd (false≢true (sym goes_on ∙ ends-suc t 0 ∙ and_from _ _ (flips-zero t) (not_from_false _ (works-even t 0 works_now))))
window_step-next t (suc j) works_now goes_on =
    let next : elapsed (suc t) (suc (suc j)) ≡ suc (elapsed t (suc (suc j))) = elapsed-next_stay t (suc (suc j)) (window-keeps_self t (suc j) works_now) in
    let begun : 2 ^ j ≤ elapsed t (suc (suc j)) = leb-true _ _ (and_parts _ _ works_now).0 in
    omega arith

-- after the last mutation of a window the window is over
pub ends-over : (t j : ℕ) → ends t (suc j) ≡ true → is_over (suc t) (suc j) ≡ true
ends-over t j h =
    let both : (flips t j && not (is_odd (period t j))) ≡ true = sym (ends-suc t j) ∙ h in
    let flip : flips t j ≡ true = (and_parts _ _ both).0 in
    is_over-suc (suc t) j ∙ is_odd-next_flip t j flip ∙ (and_parts _ _ both).1

-- a window that is over stays over until the level flips
pub over-next : (t j : ℕ) → is_over t (suc j) ≡ true → flips t (suc j) ≡ false → is_over (suc t) (suc j) ≡ true
over-next t j over stay =
    let odd : is_odd (period t j) ≡ true = sym (is_over-suc t j) ∙ over in
    is_over-suc (suc t) j ∙ is_odd-next_stay t j (keeps_odd t j odd stay) ∙ odd

-- after a flip the window of the new period is not over
pub flips-not_over : (t j : ℕ) → flips t (suc j) ≡ true → is_over (suc t) (suc j) ≡ false
flips-not_over t j flip =
    let odd : is_odd (period t j) ≡ true = (and_parts _ _ (sym (flips-suc t j) ∙ flip)).1 in
    is_over-suc (suc t) j ∙ is_odd-next_flip t j (flips-above t j flip) ∙ not_from_true _ odd

-- a window that is neither over nor ends now is not over at the next clock
pub not_over-next : (t j : ℕ) → is_over t (suc j) ≡ false → ends t (suc j) ≡ false → is_over (suc t) (suc j) ≡ false
not_over-next t j over goes_on =
    let even : is_odd (period t j) ≡ false = sym (is_over-suc t j) ∙ over in
    let stay : flips t j ≡ false = keeps_even t j even goes_on in
    is_over-suc (suc t) j ∙ is_odd-next_stay t j stay ∙ even

-- a window's first mutation is its mutation 0: a window that is still to come and begins next begins there
pub window_step-first : (t j : ℕ) → works t (suc j) ≡ false → works (suc t) (suc j) ≡ true → window_step (suc t) (suc j) ≡ 0
unfolding window_step works
window_step-first t zero was is = refl
window_step-first t (suc j) was is =
    let begun : 2 ^ j ≤ elapsed (suc t) (suc (suc j)) = leb-true _ _ (and_parts _ _ is).0 in
    let open_yet : elapsed (suc t) (suc (suc j)) < 2 ^ suc j = ltb-true _ _ (and_parts _ _ is).1 in
    elim (cases_Bool (flips t (suc (suc j)))) [
      | inl flip ↦ let new : elapsed (suc t) (suc (suc j)) ≡ 0 = elapsed-next_flip t (suc (suc j)) flip in omega arith
      | inr stay ↦
          let next : elapsed (suc t) (suc (suc j)) ≡ suc (elapsed t (suc (suc j))) = elapsed-next_stay t (suc (suc j)) stay in
          elim (and_cases _ _ was) [
            | inl early ↦ let h : elapsed t (suc (suc j)) < 2 ^ j = leb-false _ _ early in omega arith
            | inr late ↦ let h : 2 ^ suc j ≤ elapsed t (suc (suc j)) = ltb-false _ _ late in absurd (omega arith)
          ]
    ]

-- ---- one window

-- a period of a level is two periods of the level above
pub period-suc : (t j : ℕ) → period t (suc j) ≡ period t j / 2
unfolding period
period-suc t j = sym (shr-shr t j 1 ∙ ap (λ k. t / 2 ^ k) (add-one j))

even_half : (n : ℕ) → is_odd n ≡ false → n ≡ n / 2 * 2
unfolding is_odd
even_half n even =
    elim (bit_cases n) [
      | inl zero_bit ↦ let parts : n / 2 * 2 + n % 2 ≡ n = div-add-mod' n 2 in omega arith
      | inr one_bit ↦ let no : eqb (n % 2) 1 ≡ true = eq-eqb _ _ one_bit in absurd (false≢true (sym even ∙ no))
    ]

-- inside its window a level's period began with the period of the level above
pub works-period : (t j : ℕ) → works t (suc j) ≡ true → period t j ≡ period t (suc j) * 2
works-period t j h = rw (period-suc t j) (even_half (period t j) (works-even t j h))

-- throughout a window the sources stay
pub sources-stay : (t u j : ℕ) → InOneWindow t u (suc j) → SourcesStay t u j
sources-stay t u j h = record {
  incoming = works-period t j h.works_first ∙ ap (λ q. q * 2) h.same_period ∙ sym (works-period u j h.works_second);
  own = h.same_period;
  sampled = period-suc t (suc j) ∙ ap (λ q. q / 2) h.same_period ∙ sym (period-suc u (suc j));
  finished_first = λ odd. is_over-suc t (suc j) ∙ odd;
  finished_second = λ odd. is_over-suc u (suc j) ∙ odd;
}

-- ---- the flips of one mutation

-- the levels that flip are those from 0 to a highest one
pub flips-closed : (t i k : ℕ) → flips t (i + k) ≡ true → flips t i ≡ true
flips-closed t i zero h = rw (sym (add-zero i)) h
flips-closed t i (suc k) h = flips-closed t i k (flips-above t (i + k) (rw (sym (add-suc i k)) h))

pub flips-up_to : (t i j : ℕ) → i ≤ j → flips t j ≡ true → flips t i ≡ true
flips-up_to t i j h flip =
    let parts : j ≡ i + (j - i) = omega arith in
    flips-closed t i (j - i) (subst (λ (k : ℕ). flips t k ≡ true) parts flip)

-- where h is the highest level that flips, the window of level h + 1 ends
pub ends-highest : (t h : ℕ) → flips t h ≡ true → flips t (suc h) ≡ false → ends t (suc h) ≡ true
ends-highest t h flip stay = ends-flips t h ∙ and_from _ _ flip (not_from_false _ stay)

-- and no other
pub ends-only : (t h j : ℕ) → flips t h ≡ true → flips t (suc h) ≡ false → ends t (suc j) ≡ true → j ≡ h
ends-only t h j flip stay end =
    let both : (flips t j && not (flips t (suc j))) ≡ true = sym (ends-flips t j) ∙ end in
    let j_flips : flips t j ≡ true = (and_parts _ _ both).0 in
    let j_stays : flips t (suc j) ≡ false = not-true _ (and_parts _ _ both).1 in
    elim (cases_order j h) [
      | inl same ↦ same
      | inr apart ↦ elim apart [
        | inl below ↦ absurd (false≢true (sym j_stays ∙ flips-up_to t (suc j) h (omega arith) flip))
        | inr above ↦ absurd (false≢true (sym stay ∙ flips-up_to t (suc h) j (omega arith) j_flips))
      ]
    ]

-- where a level flips, no window of a level up to it ends
pub ends-none : (t bottom j : ℕ) → flips t bottom ≡ true → j < bottom → ends t (suc j) ≡ false
ends-none t bottom j flip below =
    ends-flips t j ∙ and_right _ _ (not_from_true _ (flips-up_to t (suc j) bottom (omega arith) flip))
