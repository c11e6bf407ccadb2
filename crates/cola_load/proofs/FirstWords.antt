-- The first word of a list of lines and the lines before it, and what the answer to a line tells.
use Rattle.std.proofs.Common.{◌≡◌, List, [], ◌∷◌, ◌++◌, Option, Some, None, refl, sym, ap, ◌∙◌, append_assoc, ℕ, Bool, true, false, not, nat_eq, ◌⊎◌, inl, inr, ◌+◌, subst, if◌then◌else◌, ◌||◌}
use Rattle.std.specs.Option.{option_or}
use Rattle.std.proofs.lemmas.List.{append-nil}
use Rattle.cola_spec.specs.Map.{Shape}
use Rattle.cola_spec.specs.Lines.{Line}
use Rattle.cola_load.specs.declared.answer.Word.{Word}
use Rattle.cola_load.specs.Rows.{word_behind, first_word, lines_before_word, unless, Standing, word_at}
use Rattle.std.proofs.lemmas.Bool.{eqb-true}
use Rattle.cola_load.specs.declared.said.Said.{Said}
use Rattle.cola_load.specs.declared.said.Said.TheVariants as saying
use Rattle.cola_load.specs.declared.answer.Word.TheVariants as word
use Rattle.cola_load.specs.declared.answer.RowLine.TheVariants.{Row, Nothing}
use Rattle.cola_load.specs.Judged.{answer_of}

-- where no line has a word, all are before it
pub all_without_word : (shape : Shape) (before lines : List Line) → first_word shape before lines ≡ None → lines_before_word shape before lines ≡ lines
all_without_word shape before [] none = refl
all_without_word shape before (line ∷ lines) none =
    let left = lines_before_word shape (before ++ line ∷ []) lines in
    elim (word_behind shape before line) as (λ w. option_or w (first_word shape (before ++ line ∷ []) lines) ≡ None → unless w (line ∷ left) ≡ line ∷ lines) [
      | None ↦ λ rest. ap (λ l. line ∷ l) (all_without_word shape (before ++ line ∷ []) lines rest)
      | Some found ↦ λ some. cc
    ] none

-- behind lines without a word the next has its own
pub next_word : (shape : Shape) (before lines : List Line) (next : Line) → first_word shape before lines ≡ None → first_word shape before (lines ++ next ∷ []) ≡ word_behind shape (before ++ lines) next
next_word shape before [] next none =
    elim (word_behind shape before next) as (λ w. option_or w None ≡ w) [ None ↦ refl | Some found ↦ refl ] ∙ ap (λ l. word_behind shape l next) (sym (append-nil before))
next_word shape before (line ∷ lines) next none =
    elim (word_behind shape before line) as (λ w. option_or w (first_word shape (before ++ line ∷ []) lines) ≡ None → option_or w (first_word shape (before ++ line ∷ []) (lines ++ next ∷ [])) ≡ word_behind shape (before ++ line ∷ lines) next) [
      | None ↦ λ rest. next_word shape (before ++ line ∷ []) lines next rest ∙ ap (λ l. word_behind shape l next) (append_assoc before (line ∷ []) lines)
      | Some found ↦ λ some. cc
    ] none

-- a word stays the first whatever lines come behind it, and so do the lines before it
pub word_stays : (shape : Shape) (before lines more : List Line) (found : Word) → first_word shape before lines ≡ Some found →
    (first_word shape before (lines ++ more) ≡ Some found) × (lines_before_word shape before (lines ++ more) ≡ lines_before_word shape before lines)
word_stays shape before [] more found is = cc
word_stays shape before (line ∷ lines) more found is =
    let left = lines_before_word shape (before ++ line ∷ []) lines in
    let longer = lines_before_word shape (before ++ line ∷ []) (lines ++ more) in
    elim (word_behind shape before line) as (λ w. option_or w (first_word shape (before ++ line ∷ []) lines) ≡ Some found →
    (option_or w (first_word shape (before ++ line ∷ []) (lines ++ more)) ≡ Some found) × (unless w (line ∷ longer) ≡ unless w (line ∷ left))) [
      | None ↦ λ rest. let h = word_stays shape (before ++ line ∷ []) lines more found rest in (h.0, ap (λ l. line ∷ l) h.1)
      | Some first ↦ λ same. (same, refl)
    ] is

-- ---- what an answer tells of a line and of those before it

pub row_told : (found : Option Word) (says : Said) (key value : List ℕ) → Row key value ≡ answer_of found says → (says ≡ saying.Row key value) × (found ≡ None)
row_told None (saying.Row k v) key value is = (cc, refl)
row_told (Some (word.Bad n)) says key value is = cc
row_told found says key value is = cc

nothing_of_none : (found : Option Word) (says : Said) → Nothing ≡ answer_of found says → found ≡ None
nothing_of_none None says is = refl
nothing_of_none (Some (word.Bad n)) says is = cc
nothing_of_none found says is = cc

right_end : (ended : Bool) (number rows line : ℕ) → (if ended || not (nat_eq number rows) then Some (word.Bad line) else None) ≡ None → number ≡ rows
right_end true number rows line none = cc
right_end false number rows line none =
    elim (nat_eq number rows) as (λ t. nat_eq number rows ≡ t → (if not t then Some (word.Bad line) else None) ≡ None → number ≡ rows) [
      | true ↦ λ same h. eqb-true number rows same
      | false ↦ λ other h. cc
    ] refl none

pub nothing_told : (limit : ℕ) (before : Standing) (says : Said) → Nothing ≡ answer_of (word_at limit before says) says → (says ≡ saying.Nothing) ⊎ (says ≡ saying.End before.rows)
nothing_told limit before saying.Nothing is = inl refl
nothing_told limit before (saying.Row key value) is =
    let none = nothing_of_none (word_at limit before (saying.Row key value)) (saying.Row key value) is in
    let other : Nothing ≡ Row key value = subst (λ w. Nothing ≡ answer_of w (saying.Row key value)) none is in cc
nothing_told limit before (saying.End number) is =
    inr (ap saying.End (right_end before.ended number before.rows (before.lines + 1) (nothing_of_none (word_at limit before (saying.End number)) (saying.End number) is)))
nothing_told limit before saying.Other is = cc
