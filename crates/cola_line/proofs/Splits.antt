-- A list that is cut at the first place that passes a test, and one in which none does.
use Rattle.std.proofs.Common.{◌≡◌, ℕ, zero, suc, ◌+◌, ◌-◌, ◌<◌, Bool, true, false, List, [], ◌∷◌, length, get_or, take, drop, refl, ap, ◌∙◌, sym, arith, add-one, length-drop, Option, Some, None, cond, nat_eq}
use Rattle.std.specs.List.{slice_split, onto_first, position, position_from}
use Rattle.cola_spec.specs.Command.{Command, words_of, alone}
use Rattle.cola_line.specs.Words.{only_word, words_left}
use Rattle.std.proofs.lemmas.List.Splits.{slice_split-cons_yes, slice_split-cons_no, length-slice_split}
use Rattle.std.proofs.lemmas.List.Quantifiers.{position-Some}
use Rattle.std.proofs.lemmas.List.{take_all}
use Rattle.std.proofs.lemmas.Iterator.Adapters.{position_from-zero}

-- the parts of a list whose first passing place is i
pub slice_split_place : (p : ℕ → Bool) (xs : List ℕ) (i : ℕ) → i < length xs → p (get_or xs i 0) ≡ true → ((k : ℕ) → k < i → p (get_or xs k 0) ≡ false) → slice_split p xs ≡ take i xs ∷ slice_split p (drop (suc i) xs)
slice_split_place p [] i within here before = absurd (omega arith)
slice_split_place p (x ∷ xs) zero within here before = slice_split-cons_yes p x xs here
slice_split_place p (x ∷ xs) (suc i) within here before =
    slice_split-cons_no p x xs (before 0 (omega arith))
    ∙ ap (onto_first x) (slice_split_place p xs i (omega arith) here (λ k below. before (suc k) (omega arith)))

-- the same, as `position` and a slice's ends give it
pub slice_split_position : (p : ℕ → Bool) (xs : List ℕ) (i : ℕ) → position p xs ≡ Some i → slice_split p xs ≡ take i xs ∷ slice_split p (take (length xs - (i + 1)) (drop (i + 1) xs))
slice_split_position p xs i found =
    let facts = position-Some p xs i 0 found in
    slice_split_place p xs i facts.0 facts.1 facts.2
    ∙ ap (λ rest. take i xs ∷ slice_split p rest) (rw add-one (sym (take_all (length xs - suc i) (drop (suc i) xs) (simp length-drop (omega arith)))))

none_from : (p : ℕ → Bool) (i : ℕ) (xs : List ℕ) → position_from p i xs ≡ None → slice_split p xs ≡ xs ∷ []
none_from p i [] none = refl
none_from p i (x ∷ xs) none =
    elim (p x) as (λ b. p x ≡ b → cond b (Some i) (position_from p (i + 1) xs) ≡ None → slice_split p (x ∷ xs) ≡ (x ∷ xs) ∷ []) [
      | true ↦ λ is found. cc
      | false ↦ λ is rest. slice_split-cons_no p x xs is ∙ ap (onto_first x) (none_from p (i + 1) xs rest)
    ] refl none

-- where no place passes there is one part
pub slice_split_whole : (p : ℕ → Bool) (xs : List ℕ) → position p xs ≡ None → slice_split p xs ≡ xs ∷ []
slice_split_whole p xs none = none_from p 0 xs (sym (position_from-zero p xs) ∙ none)

two_or_more : (word : List ℕ) (parts : List (List ℕ)) → 0 < length parts → only_word (word ∷ parts) ≡ None
two_or_more word [] some = absurd (omega arith)
two_or_more word (part ∷ parts) some = refl

-- a word with another text behind it is not the only one
pub only_word_more : (word text : List ℕ) → only_word (word ∷ words_of text) ≡ None
only_word_more word text = two_or_more word (words_of text) (omega (arith, length-slice_split (λ byte. nat_eq byte 32) text))

-- a text whose first word ends at a space has more words than one
pub not_only_word : (text word : List ℕ) (rest : Option (List ℕ)) (more : List ℕ) → words_of text ≡ word ∷ words_left rest → rest ≡ Some more → None ≡ only_word (words_of text)
not_only_word text word rest more is some =
    sym (ap only_word (is ∙ ap (λ r. word ∷ words_left r) some) ∙ only_word_more word more)

not_alone : (command : Command) (parts : List (List ℕ)) → 0 < length parts → None ≡ alone command parts
not_alone command [] some = absurd (omega arith)
not_alone command (part ∷ parts) some = refl

-- a verb with a text behind it does not stand alone
pub alone_not : (command : Command) (text : List ℕ) → None ≡ alone command (words_of text)
alone_not command text = not_alone command (words_of text) (omega (arith, length-slice_split (λ byte. nat_eq byte 32) text))
