-- The marks of a header's levels, by the number of a level; and those of an empty store.
use Rattle.std.proofs.Common.{◌≡◌, ℕ, zero, suc, ◌+◌, ◌-◌, ◌/◌, ◌^◌, ◌<◌, ◌≤◌, ◌⊎◌, inl, inr, ◌↔◌, Bool, true, false, List, length, replicate, drop, refl, ◌∙◌, subst, sym, ap, arith}
use Rattle.std.proofs.Math.Numerals.{add-one}
use Rattle.std.proofs.Math.ListN.{get_or-map}
use Rattle.std.proofs.lemmas.List.{length-map}
use Rattle.cola_clock.specs.Clock.{period, is_odd}
use Rattle.cola_clock.specs.Marks.{Marks as LevelMarks, AreMarksInside, AreLevelMarks, AreAllMarks, sample_end, marks_at, above_at, no_marks as nothing}
use Rattle.cola_clock.proofs.MarkLaws.{marks-each, end-at, end-past}
use Rattle.cola_layout.specs.declared.marks.Marks.{Marks}
use Rattle.cola_layout.proofs.Phases.{then}
use Rattle.cola_layout.specs.Marks.{AreMarks, FitsAt, numbers_of, all_numbers, marks_of, no_marks}

-- the numbers of a level's marks, by its number
pub number-at : (levels : List Marks) (j : ℕ) → marks_at (all_numbers levels) j ≡ numbers_of (marks_of levels j)
number-at levels j = get_or-map numbers_of levels j no_marks

pub numbers-length : (levels : List Marks) → length (all_numbers levels) ≡ length levels
numbers-length levels = length-map levels numbers_of

-- the visible length above a level of 1 and more
pub above-is : (levels : List Marks) (j : ℕ) → 1 ≤ j → above_at 0 (all_numbers levels) j ≡ (marks_of levels (j - 1)).visible
above-is levels zero some = absurd (omega arith)
above-is levels (suc j) some =
    let back : suc j - 1 ≡ j = omega arith in
    rw back (ap (λ (m : LevelMarks). m.visible) (number-at levels j))

-- a level of a header with marks that it may have
pub fits-here : (t : ℕ) (levels : List Marks) → AreMarks t levels → (j : ℕ) → j < length levels →
    AreLevelMarks 0 t j (above_at 0 (all_numbers levels) j) (numbers_of (marks_of levels j)) (drop (suc j) (all_numbers levels))
fits-here t levels fit j within =
    let size : length (all_numbers levels) ≡ length levels = numbers-length levels in
    subst (λ (m : LevelMarks). AreLevelMarks 0 t j (above_at 0 (all_numbers levels) j) m (drop (suc j) (all_numbers levels))) (number-at levels j)
    (marks-each t (all_numbers levels) fit j (omega arith))

-- the marks of a level of 1 and more, read beside the level above it; those of level 0; and those that fit no slot
pub at-number : {A B : Type 0} (t : ℕ) (levels : List Marks) (j : ℕ) → 1 ≤ j → A ↔ B →
    B ↔ AreLevelMarks 0 t j (marks_of levels (j - 1)).visible (numbers_of (marks_of levels j)) (drop (suc j) (all_numbers levels)) → A ↔ FitsAt t levels j
at-number t levels j some tests fits = rw (above-is levels j some, number-at levels j) (then tests fits)

pub at-first : {A B : Type 0} (t : ℕ) (levels : List Marks) (j : ℕ) → A ↔ B →
    B ↔ AreLevelMarks 0 t j (above_at 0 (all_numbers levels) j) (numbers_of (marks_of levels j)) (drop (suc j) (all_numbers levels)) → A ↔ FitsAt t levels j
at-first t levels j tests fits = rw (number-at levels j) (then tests fits)

pub too-long : (t : ℕ) (levels : List Marks) (j : ℕ) → (2 ^ (j + 2) < (marks_of levels j).visible) ⊎ (2 ^ (j + 2) < (marks_of levels j).shadow) →
    FitsAt t levels j → ⊥
too-long t levels j long fits =
    let here : AreLevelMarks 0 t j (above_at 0 (all_numbers levels) j) (numbers_of (marks_of levels j)) (drop (suc j) (all_numbers levels)) =
    subst (λ (m : LevelMarks). AreLevelMarks 0 t j (above_at 0 (all_numbers levels) j) m (drop (suc j) (all_numbers levels))) (number-at levels j) fits in
    elim long [
      | inl more ↦ (let within : (marks_of levels j).visible ≤ 2 ^ (j + 2) = here.visible_fits in omega arith)
      | inr more ↦ (let within : (marks_of levels j).shadow ≤ 2 ^ (j + 2) = here.shadow_fits in omega arith)
    ]

-- ---- what a level samples

module _ (t j : ℕ) (levels : List Marks) where
  pub end-visible : is_odd (period t j) ≡ false → suc j < length levels →
      sample_end (is_odd (period t j)) (drop (suc j) (all_numbers levels)) ≡ (marks_of levels (j + 1)).visible / 8
  end-visible even within =
      let size : length (all_numbers levels) ≡ length levels = numbers-length levels in
      rw even (end-at false (suc j) (all_numbers levels) (omega arith) ∙ ap (λ (m : LevelMarks). m.visible / 8) (number-at levels (suc j) ∙ ap (λ (k : ℕ). numbers_of (marks_of levels k)) (sym (add-one j))))

  pub end-shadow : is_odd (period t j) ≡ true → suc j < length levels →
      sample_end (is_odd (period t j)) (drop (suc j) (all_numbers levels)) ≡ (marks_of levels (j + 1)).shadow / 8
  end-shadow odd within =
      let size : length (all_numbers levels) ≡ length levels = numbers-length levels in
      rw odd (end-at true (suc j) (all_numbers levels) (omega arith) ∙ ap (λ (m : LevelMarks). m.shadow / 8) (number-at levels (suc j) ∙ ap (λ (k : ℕ). numbers_of (marks_of levels k)) (sym (add-one j))))

  pub end-nothing : length levels ≤ suc j → sample_end (is_odd (period t j)) (drop (suc j) (all_numbers levels)) ≡ 0
  end-nothing past =
      let size : length (all_numbers levels) ≡ length levels = numbers-length levels in
      end-past (is_odd (period t j)) (suc j) (all_numbers levels) (omega arith)

-- ---- an empty store

empty-end : (odd : Bool) (n : ℕ) → sample_end odd (all_numbers (replicate n no_marks)) ≡ 0
empty-end true zero = refl
empty-end false zero = refl
empty-end true (suc n) = refl
empty-end false (suc n) = refl

empty-works : (due sampled_end : ℕ) → sampled_end ≡ 0 → AreMarksInside due 0 sampled_end nothing
empty-works due sampled_end none = record {
  own_within = omega arith;
  incoming_within = omega arith;
  sampled_within = omega arith;
  enough = omega arith;
  sampled_done = omega arith;
  done_consumed = omega arith;
}

-- a level of an empty store, at any clock
empty-fits : (t j n : ℕ) → AreLevelMarks 0 t j 0 nothing (all_numbers (replicate n no_marks))
empty-fits t j n =
    let room : 0 ≤ 2 ^ (j + 2) = omega arith in
    record {
      visible_fits = room;
      shadow_fits = room;
      first = λ _. record { empty = refl; at_rest = record { own_rests = refl; incoming_rests = refl; sampled_rests = refl } };
      before = λ _. record { empty = refl; at_rest = record { own_rests = refl; incoming_rests = refl; sampled_rests = refl } };
      inside = λ _ _. empty-works _ (sample_end (is_odd (period t j)) (all_numbers (replicate n no_marks))) (empty-end (is_odd (period t j)) n);
      after = λ _. record { own_rests = refl; incoming_rests = refl; sampled_rests = refl };
    }

empty-from : (t j n : ℕ) → AreAllMarks 0 t j 0 (all_numbers (replicate n no_marks))
empty-from t j zero = tt
empty-from t j (suc n) = (empty-fits t j n, empty-from t (suc j) n)

-- the marks of a store with nothing in it
pub marks-empty : (t n : ℕ) → AreMarks t (replicate n no_marks)
marks-empty t n = empty-from t 0 n
