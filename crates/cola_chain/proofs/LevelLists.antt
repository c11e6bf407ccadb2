-- Lists that a loop makes level by level.
use Rattle.std.proofs.Common.{◌≡◌, ℕ, suc, ◌+◌, ◌<◌, List, [], ◌∷◌, ◌++◌, length, take, get_or, length-append, refl, sym, ap, ◌∙◌, arith}
use Rattle.std.proofs.lemmas.List.{map-append, take_more, length-take-le}
use Rattle.cola_clock.specs.Marks.{Marks as LevelMarks}
use Rattle.cola_cell.specs.declared.cell.Run.{Run}
use Rattle.cola_layout.specs.declared.marks.Marks.{Marks}
use Rattle.cola_layout.specs.Marks.{numbers_of, all_numbers}
use Rattle.cola_level.specs.declared.level.Level.{Level}
use Rattle.cola_level.specs.Aims.{visible_run}
use Rattle.cola_level.specs.Marks.{marks_of, all_marks_of, level_with}
use Rattle.cola_mutation.specs.Levels.{levels_with}
use Rattle.cola_chain.specs.Runs.{visible_runs}

pub levels-append : (ms : List LevelMarks) (m : LevelMarks) → levels_with (ms ++ m ∷ []) ≡ levels_with ms ++ level_with m ∷ []
levels-append [] m = refl
levels-append (n ∷ ms) m = ap (λ (xs : List Level). level_with n ∷ xs) (levels-append ms m)

pub levels-more : (ms : List Marks) (i : ℕ) (d : Marks) → i < length ms → levels_with (all_numbers (take (i + 1) ms)) ≡ levels_with (all_numbers (take i ms)) ++ level_with (numbers_of (get_or ms i d)) ∷ []
levels-more ms i d h = ap (λ (xs : List Marks). levels_with (all_numbers xs)) (take_more ms i d h) ∙ ap levels_with (map-append numbers_of (take i ms) (get_or ms i d ∷ [])) ∙ levels-append (all_numbers (take i ms)) (numbers_of (get_or ms i d))

pub marks-append : (ls : List Level) (l : Level) → all_marks_of (ls ++ l ∷ []) ≡ all_marks_of ls ++ marks_of l ∷ []
marks-append [] l = refl
marks-append (n ∷ ls) l = ap (λ (xs : List LevelMarks). marks_of n ∷ xs) (marks-append ls l)

pub marks-more : (ls : List Level) (i : ℕ) (d : Level) → i < length ls → all_marks_of (take (i + 1) ls) ≡ all_marks_of (take i ls) ++ marks_of (get_or ls i d) ∷ []
marks-more ls i d h = ap all_marks_of (take_more ls i d h) ∙ marks-append (take i ls) (get_or ls i d)

pub marks-length : (ls : List Level) → length (all_marks_of ls) ≡ length ls
marks-length [] = refl
marks-length (l ∷ ls) = ap suc (marks-length ls)

pub runs-append : (t j : ℕ) (ls : List Level) (l : Level) → visible_runs t j (ls ++ l ∷ []) ≡ visible_runs t j ls ++ visible_run t (j + length ls) l.visible ∷ []
runs-append t j [] l = ap (λ (n : ℕ). visible_run t n l.visible ∷ []) (let e : j ≡ j + 0 = omega arith in e)
runs-append t j (n ∷ ls) l =
    let e : suc j + length ls ≡ j + suc (length ls) = omega arith in
    ap (λ xs. visible_run t j n.visible ∷ xs) (runs-append t (suc j) ls l ∙ ap (λ (k : ℕ). visible_runs t (suc j) ls ++ visible_run t k l.visible ∷ []) e)

-- ---- what a push adds

pub pushed-length : {X : Type 0} (xs now : List X) (x : X) (n : ℕ) → now ≡ xs ++ x ∷ [] → length xs ≡ n → length now ≡ n + 1
pushed-length xs now x n e h = let f = ap length e in let g = length-append xs (x ∷ []) in omega (arith, f, g, h)

pub levels-push : (ms : List Marks) (xs now : List Level) (x : Level) (i : ℕ) (d : Marks) → i < length ms → now ≡ xs ++ x ∷ [] → x ≡ level_with (numbers_of (get_or ms i d)) → xs ≡ levels_with (all_numbers (take i ms)) →
    now ≡ levels_with (all_numbers (take (i + 1) ms))
levels-push ms xs now x i d h e f built =
    e ∙ ap (λ (ys : List Level). ys ++ x ∷ []) built ∙ ap (λ (y : Level). levels_with (all_numbers (take i ms)) ++ y ∷ []) f ∙ sym (levels-more ms i d h)

pub marks-push : (ls : List Level) (xs now : List Marks) (x : Marks) (i : ℕ) (l : Level) → i < length ls → l ≡ get_or ls i l → now ≡ xs ++ x ∷ [] → numbers_of x ≡ marks_of l → all_numbers xs ≡ all_marks_of (take i ls) →
    all_numbers now ≡ all_marks_of (take (i + 1) ls)
marks-push ls xs now x i l h at e f built =
    ap all_numbers e ∙ map-append numbers_of xs (x ∷ []) ∙ ap (λ (ys : List LevelMarks). ys ++ numbers_of x ∷ []) built
    ∙ ap (λ (y : LevelMarks). all_marks_of (take i ls) ++ y ∷ []) (f ∙ ap marks_of at) ∙ sym (marks-more ls i l h)

pub runs-push : (t : ℕ) (ls : List Level) (xs now : List Run) (x : Run) (i : ℕ) (l : Level) → i < length ls → l ≡ get_or ls i l → now ≡ xs ++ x ∷ [] → x ≡ visible_run t i l.visible → xs ≡ visible_runs t 0 (take i ls) →
    now ≡ visible_runs t 0 (take (i + 1) ls)
runs-push t ls xs now x i l h at e f built =
    let n : length (take i ls) ≡ i = length-take-le i ls (omega (arith, h)) in
    let m : 0 + length (take i ls) ≡ i = omega (arith, n) in
    e ∙ ap (λ (ys : List Run). ys ++ x ∷ []) built ∙ ap (λ (y : Run). visible_runs t 0 (take i ls) ++ y ∷ []) (f ∙ ap (λ (k : Level). visible_run t i k.visible) at)
    ∙ ap (λ (k : ℕ). visible_runs t 0 (take i ls) ++ visible_run t k (get_or ls i l).visible ∷ []) (sym m)
    ∙ sym (runs-append t 0 (take i ls) (get_or ls i l)) ∙ ap (visible_runs t 0) (sym (take_more ls i l h))
