-- A byte set in a list, and a mark.
use Rattle.std.proofs.Common.{◌≡◌, ◌∙◌, ℕ, ◌+◌, ◌<◌, List, [], ◌∷◌, ◌++◌, length, take, drop, slice_set, Option, Some, None, sym, ap, subst, arith}
use Rattle.std.proofs.lemmas.List.{take-append-drop, take-set, drop-set, drop-drop}
use Rattle.cola_device.specs.Bytes.{splice}
use Rattle.cola_mapped.specs.declared.lent.Lent.{Lent}
use Rattle.cola_mapped.specs.Region.{bytes_in}
use Rattle.cola_handle.specs.Marks.{marks_in}

-- one byte written is the byte that is set
spliced-is-set : (xs : List ℕ) (i y : ℕ) → i < length xs → splice xs i (y ∷ []) ≡ slice_set xs i y
spliced-is-set xs i y inside =
    ap (λ (behind : List ℕ). take i xs ++ y ∷ behind) (drop-drop 1 i xs)
    ∙ (sym (ap (λ (front : List ℕ). front ++ drop i (slice_set xs i y)) (take-set xs i y) ∙ ap (λ (behind : List ℕ). take i xs ++ behind) (drop-set xs i y inside))
    ∙ take-append-drop i (slice_set xs i y))

pub marked-some : (now before : Option Lent) (lent written : Lent) (page : ℕ) → now ≡ Some written → before ≡ Some lent → written.bytes ≡ Some (splice (bytes_in lent.bytes) page (1 ∷ [])) → page < length (marks_in before) →
    marks_in now ≡ slice_set (marks_in before) page 1
marked-some now before lent written page is was wrote inside =
    ap marks_in is ∙ (ap bytes_in wrote
    ∙ (spliced-is-set (bytes_in lent.bytes) page 1 (subst (λ (o : Option Lent). page < length (marks_in o)) was inside)
    ∙ ap (λ (o : Option Lent). slice_set (marks_in o) page 1) (sym was)))

-- where there are no marks, there is no page to mark
pub none-inside : (before : Option Lent) (page : ℕ) → before ≡ None → page < length (marks_in before) → ⊥
none-inside before page was inside = omega (arith, subst (λ (o : Option Lent). page < length (marks_in o)) was inside)
