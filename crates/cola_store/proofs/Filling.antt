-- The level of a number, by the marks of a header and by the levels of a chain.
use Rattle.std.proofs.Common.{◌≡◌, ◌∙◌, sym, ap, ℕ, zero, suc, ◌+◌, ◌*◌, ◌%◌, ◌^◌, ◌<◌, ◌≤◌, length, get_or, arith, List, [], ◌∷◌, Option, Some, None, option_map, refl}
use Rattle.std.proofs.Math.Pow.{pow_mono}
use Rattle.std.proofs.lemmas.Option.{slice_get-get_or}
use Rattle.std.specs.Prelude.{slice_get}
use Rattle.cola_clock.specs.Marks.{Marks as LevelMarks}
use Rattle.cola_layout.specs.declared.marks.Marks.{Marks}
use Rattle.cola_layout.specs.Marks.{numbers_of, all_numbers, no_marks}
use Rattle.cola_level.specs.declared.level.Level.{Level}
use Rattle.cola_level.specs.Marks.{marks_of, all_marks_of}
use Rattle.cola_store.specs.declared.told.LevelInfo.{LevelInfo}
use Rattle.cola_store.specs.Told.{level_told}

-- what marks tell of a level
abbrev pub marks_told : ℕ → LevelMarks → LevelInfo
marks_told number m = record { visible = m.visible; shadow = m.shadow; room = 2 ^ (number + 2) }

get-numbers : (ms : List Marks) (k : ℕ) → slice_get (all_numbers ms) k ≡ option_map numbers_of (slice_get ms k)
get-numbers [] k = refl
get-numbers (m ∷ ms) zero = refl
get-numbers (m ∷ ms) (suc k) = get-numbers ms k

get-marks : (ls : List Level) (k : ℕ) → slice_get (all_marks_of ls) k ≡ option_map marks_of (slice_get ls k)
get-marks [] k = refl
get-marks (l ∷ ls) zero = refl
get-marks (l ∷ ls) (suc k) = get-marks ls k

told-of-level : (number : ℕ) (o : Option Level) → option_map (marks_told number) (option_map marks_of o) ≡ option_map (level_told number) o
told-of-level number None = refl
told-of-level number (Some l) = refl

-- a header with the marks of the levels tells the same of each level
same-told : (number : ℕ) (ms : List Marks) (ls : List Level) → all_numbers ms ≡ all_marks_of ls →
    option_map (marks_told number) (option_map numbers_of (slice_get ms number)) ≡ option_map (level_told number) (slice_get ls number)
same-told number ms ls same =
    ap (option_map (marks_told number)) (sym (get-numbers ms number) ∙ ap (λ (ns : List LevelMarks). slice_get ns number) same ∙ get-marks ls number)
    ∙ told-of-level number (slice_get ls number)

-- the marks at a place of such a header tell of the level there
pub told-at : (number : ℕ) (ms : List Marks) (ls : List Level) → all_numbers ms ≡ all_marks_of ls → number < length ms → (visible shadow room : ℕ) →
    visible ≡ (get_or ms number no_marks).visible → shadow ≡ (get_or ms number no_marks).shadow → room ≡ 2 ^ (number + 2) →
    Some (let told : LevelInfo = record { visible = visible; shadow = shadow; room = room } in told) ≡ option_map (level_told number) (slice_get ls number)
told-at number ms ls same within visible shadow room visible_is shadow_is room_is =
    let m : Marks = get_or ms number no_marks in
    ap (λ (v : ℕ). Some (let told : LevelInfo = record { visible = v; shadow = shadow; room = room } in told)) visible_is
    ∙ ap (λ (v : ℕ). Some (let told : LevelInfo = record { visible = m.visible; shadow = v; room = room } in told)) shadow_is
    ∙ ap (λ (v : ℕ). Some (let told : LevelInfo = record { visible = m.visible; shadow = m.shadow; room = v } in told)) room_is
    ∙ ap (λ (o : Option Marks). option_map (marks_told number) (option_map numbers_of o)) (sym (slice_get-get_or ms number no_marks within))
    ∙ same-told number ms ls same

-- the room of a level is no more than 64 bits tell
pub room-told : (number : ℕ) → number ≤ 22 → 1 * 2 ^ (number + 2) % 2 ^ 64 ≡ 2 ^ (number + 2)
room-told number few =
    let e : number + 2 ≤ 24 = omega (arith, few) in
    let p : 2 ^ (number + 2) ≤ 2 ^ 24 = pow_mono e in
    omega (arith, p)

-- behind the last level there is none
pub past-levels : (number at : ℕ) (ls : List Level) → length ls ≤ at → None ≡ option_map (level_told number) (slice_get ls at)
past-levels number at [] past = refl
past-levels number zero (l ∷ ls) past = absurd (omega arith)
past-levels number (suc at) (l ∷ ls) past = past-levels number at ls (omega arith)
