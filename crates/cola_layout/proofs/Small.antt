-- The marks of a sound header are small numbers, so that 32 bits hold each.
use Rattle.std.proofs.Common.{◌≡◌, ℕ, suc, ◌+◌, ◌-◌, ◌^◌, ◌≤◌, inl, inr, List, length, drop, refl, sym, subst, arith}
use Rattle.std.proofs.lemmas.Bool.{cases_Bool, cases_lt}
use Rattle.std.proofs.lemmas.List.{get_or_past}
use Rattle.cola_clock.specs.Clock.{period, is_odd, works, is_over}
use Rattle.cola_layout.specs.declared.marks.Marks.{Marks}
use Rattle.cola_layout.specs.Marks.{AreMarks, numbers_of, all_numbers, marks_of, no_marks}
use Rattle.cola_clock.specs.Marks.{AreMarksIdle, AreCursorsAtRest, sample_end}
use Rattle.cola_layout.proofs.Levels.{above-is, fits-here, end-visible, end-shadow, end-nothing}
use Rattle.cola_layout.specs.Header.{Fields, IsSound}
use Rattle.cola_layout.proofs.Powers.{power-le, bottom-shallow}
use Rattle.cola_layout.proofs.Phases.{to_come}
use Rattle.cola_layout.proofs.Readings.{AreSmall}

-- a level of a store has at most 2^24 cells in a run
run-small : (j n : ℕ) → j ≤ 22 → n ≤ 2 ^ (j + 2) → n ≤ 2 ^ 24
run-small j n within fits =
    let more : 2 ^ (j + 2) ≤ 2 ^ 24 = power-le (j + 2) 24 (omega arith) in omega arith

-- what a level samples is part of a run of the level below it, or nothing
sampled-small : (t bottom j : ℕ) (levels : List Marks) → bottom ≤ 22 → length levels ≡ bottom + 1 → AreMarks t levels →
    sample_end (is_odd (period t j)) (drop (suc j) (all_numbers levels)) ≤ 2 ^ 24
sampled-small t bottom j levels shallow one_each fit =
    elim (cases_lt (suc j) (length levels)) [
      | inr past ↦ rw (end-nothing t j levels past) (omega arith)
      | inl within ↦
          let next : suc j ≡ j + 1 = omega arith in
          let below = fits-here t levels fit (j + 1) (omega arith) in
          elim (cases_Bool (is_odd (period t j))) [
            | inl odd ↦
                let small : (marks_of levels (j + 1)).shadow ≤ 2 ^ 24 = run-small (j + 1) (marks_of levels (j + 1)).shadow (omega arith) below.shadow_fits in
                rw (end-shadow t j levels odd within) (omega arith)
            | inr even ↦
                let small : (marks_of levels (j + 1)).visible ≤ 2 ^ 24 = run-small (j + 1) (marks_of levels (j + 1)).visible (omega arith) below.visible_fits in
                rw (end-visible t j levels even within) (omega arith)
          ]
    ]

idle-small : (m : Marks) → m.visible ≤ 2 ^ 24 → m.shadow ≤ 2 ^ 24 → m.own ≡ 0 → m.incoming ≡ 0 → m.sample ≡ 0 → AreSmall m
idle-small m v s o i p = record { visible = omega arith; shadow = omega arith; own = omega arith; incoming = omega arith; sample = omega arith }

working-small : (m : Marks) (incoming sampled : ℕ) → m.visible ≤ 2 ^ 24 → m.shadow ≤ 2 ^ 24 → incoming ≤ 2 ^ 24 → sampled ≤ 2 ^ 24 →
    m.own ≤ m.visible → m.incoming ≤ incoming → m.sample ≤ sampled → AreSmall m
working-small m incoming sampled v s i p own_within incoming_within sample_within =
    record { visible = omega arith; shadow = omega arith; own = omega arith; incoming = omega arith; sample = omega arith }

-- a level's marks
level-small : (t bottom j : ℕ) (levels : List Marks) → bottom ≤ 22 → length levels ≡ bottom + 1 → j ≤ bottom → AreMarks t levels → AreSmall (marks_of levels j)
level-small t bottom j levels shallow one_each within fit =
    let fits = fits-here t levels fit j (omega arith) in
    let visible : (marks_of levels j).visible ≤ 2 ^ 24 = run-small j (marks_of levels j).visible (omega arith) fits.visible_fits in
    let shadow : (marks_of levels j).shadow ≤ 2 ^ 24 = run-small j (marks_of levels j).shadow (omega arith) fits.shadow_fits in
    elim (cases_lt 0 j) [
      | inr first ↦
          let idle : AreMarksIdle (numbers_of (marks_of levels j)) = fits.first (omega arith) in
          idle-small (marks_of levels j) visible shadow idle.at_rest.own_rests idle.at_rest.incoming_rests idle.at_rest.sampled_rests
      | inl some ↦ elim (cases_Bool (works t j)) [
        | inl works_now ↦
            let w = rw (above-is levels j some) at (fits.inside some works_now) in
            let above = fits-here t levels fit (j - 1) (omega arith) in
            let incoming : (marks_of levels (j - 1)).visible ≤ 2 ^ 24 = run-small (j - 1) (marks_of levels (j - 1)).visible (omega arith) above.visible_fits in
            working-small (marks_of levels j) (marks_of levels (j - 1)).visible (sample_end (is_odd (period t j)) (drop (suc j) (all_numbers levels))) visible shadow incoming
            (sampled-small t bottom j levels shallow one_each fit) w.own_within w.incoming_within w.sampled_within
        | inr rests ↦ elim (cases_Bool (is_over t j)) [
          | inl over ↦
              let done : AreCursorsAtRest (numbers_of (marks_of levels j)) = fits.after over in
              idle-small (marks_of levels j) visible shadow done.own_rests done.incoming_rests done.sampled_rests
          | inr early ↦
              let idle : AreMarksIdle (numbers_of (marks_of levels j)) = fits.before (to_come t j some rests early) in
              idle-small (marks_of levels j) visible shadow idle.at_rest.own_rests idle.at_rest.incoming_rests idle.at_rest.sampled_rests
        ]
      ]
    ]

-- the marks of a sound header, also of levels that it has not
pub sound-small : (f : Fields) → IsSound f → (j : ℕ) → AreSmall (marks_of f.levels j)
sound-small f sound j =
    elim (cases_lt f.bottom j) [
      | inr within ↦ level-small f.clock f.bottom j f.levels (bottom-shallow f.keys f.bottom sound.keys_in_range.few sound.bottom_fits) sound.one_each within sound.marks_fit
      | inl past ↦
          let long : length f.levels ≡ f.bottom + 1 = sound.one_each in
          let none : marks_of f.levels j ≡ no_marks = get_or_past f.levels j no_marks (omega arith) in
          subst AreSmall (sym none) (idle-small no_marks (omega arith) (omega arith) refl refl refl)
    ]
