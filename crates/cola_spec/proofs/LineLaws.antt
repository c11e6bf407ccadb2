-- The laws of lines: they are the bytes again, and fall apart at each line feed.
use Rattle.std.proofs.Common.{ℕ, ◌≡◌, ◌≢◌, true, false, cond, refl, sym, ◌∙◌, ap, List, [], ◌∷◌, ◌++◌, All, append_assoc}
use Rattle.std.proofs.lemmas.Bool.{eqb-true, eqb-false, ne_eqb}
use Rattle.std.proofs.lemmas.List.Elements.{All-cons, All-nil, All-head, All-tail}
use Rattle.std.specs.List.{slice_split, onto_first, flat_map}
use Rattle.cola_spec.specs.Lines.{is_line_feed, all_but_last, without_empty_last, raw_lines, ended_lines}
use Rattle.cola_spec.specs.Reply.{line}

abbrev parts_of : List ℕ → List (List ℕ)
parts_of bytes = slice_split is_line_feed bytes

-- a list of bytes has a first part
first_part : (bytes : List ℕ) → (part : List ℕ) × (parts : List (List ℕ)) × (parts_of bytes ≡ part ∷ parts)
first_part [] = ([], [], refl)
first_part (byte ∷ bytes) =
    let rest = first_part bytes in
    elim (is_line_feed byte) as (λ b. (part : List ℕ) × (parts : List (List ℕ)) × (cond b ([] ∷ parts_of bytes) (onto_first byte (parts_of bytes)) ≡ part ∷ parts)) [
      | true ↦ ([], parts_of bytes, refl)
      | false ↦ (byte ∷ rest.0, rest.1, ap (onto_first byte) rest.2)
    ]

onto_first_of_both : (byte : ℕ) (xs ys : List (List ℕ)) (part : List ℕ) (parts : List (List ℕ)) → xs ≡ part ∷ parts → onto_first byte (xs ++ ys) ≡ onto_first byte xs ++ ys
onto_first_of_both byte [] ys part parts is = cc
onto_first_of_both byte (x ∷ xs) ys part parts is = refl

-- at a line feed the parts are those before and those after
parts_of_both : (xs ys : List ℕ) → parts_of (xs ++ 10 ∷ ys) ≡ parts_of xs ++ parts_of ys
parts_of_both [] ys = refl
parts_of_both (byte ∷ xs) ys =
    let rest = first_part xs in
    elim (is_line_feed byte) as (λ b. cond b ([] ∷ parts_of (xs ++ 10 ∷ ys)) (onto_first byte (parts_of (xs ++ 10 ∷ ys))) ≡ cond b ([] ∷ parts_of xs) (onto_first byte (parts_of xs)) ++ parts_of ys) [
      | true ↦ ap (λ parts. [] ∷ parts) (parts_of_both xs ys)
      | false ↦ ap (onto_first byte) (parts_of_both xs ys) ∙ onto_first_of_both byte (parts_of xs) (parts_of ys) rest.0 rest.1 rest.2
    ]

without_at_both : (xs : List (List ℕ)) (part : List ℕ) (parts : List (List ℕ)) → without_empty_last (xs ++ part ∷ parts) ≡ xs ++ without_empty_last (part ∷ parts)
without_at_both [] part parts = refl
without_at_both (x ∷ []) part parts = refl
without_at_both (x ∷ y ∷ xs) part parts = ap (λ rest. x ∷ rest) (without_at_both (y ∷ xs) part parts)

but_last_at_both : (xs : List (List ℕ)) (part : List ℕ) (parts : List (List ℕ)) → all_but_last (xs ++ part ∷ parts) ≡ xs ++ all_but_last (part ∷ parts)
but_last_at_both [] part parts = refl
but_last_at_both (x ∷ []) part parts = refl
but_last_at_both (x ∷ y ∷ xs) part parts = ap (λ rest. x ∷ rest) (but_last_at_both (y ∷ xs) part parts)

-- the lines up to a line feed are the parts before it, and those after it are lines of their own
pub lines_at_both : (xs ys : List ℕ) → raw_lines (xs ++ 10 ∷ ys) ≡ parts_of xs ++ raw_lines ys
lines_at_both xs ys =
    let last = first_part ys in
    ap without_empty_last (parts_of_both xs ys ∙ ap (λ parts. parts_of xs ++ parts) last.2) ∙ without_at_both (parts_of xs) last.0 last.1 ∙ ap (λ parts. parts_of xs ++ without_empty_last parts) (sym last.2)

ended_at_both : (xs ys : List ℕ) → ended_lines (xs ++ 10 ∷ ys) ≡ parts_of xs ++ ended_lines ys
ended_at_both xs ys =
    let last = first_part ys in
    ap all_but_last (parts_of_both xs ys ∙ ap (λ parts. parts_of xs ++ parts) last.2) ∙ but_last_at_both (parts_of xs) last.0 last.1 ∙ ap (λ parts. parts_of xs ++ all_but_last parts) (sym last.2)

append_none : (xs : List (List ℕ)) → xs ++ [] ≡ xs
append_none [] = refl
append_none (x ∷ xs) = ap (λ rest. x ∷ rest) (append_none xs)

ended_lines_are_parts : (bytes : List ℕ) → raw_lines (bytes ++ 10 ∷ []) ≡ parts_of bytes
ended_lines_are_parts bytes = lines_at_both bytes [] ∙ append_none (parts_of bytes)

-- where the bytes end in a line feed, it ends every line
pub all_lines_ended : (bytes : List ℕ) → raw_lines (bytes ++ 10 ∷ []) ≡ ended_lines (bytes ++ 10 ∷ [])
all_lines_ended bytes = lines_at_both bytes [] ∙ sym (ended_at_both bytes [])

-- the lines of bytes that go on after a line feed
pub lines_after_line_feed : (xs ys : List ℕ) → raw_lines (xs ++ 10 ∷ ys) ≡ raw_lines (xs ++ 10 ∷ []) ++ raw_lines ys
lines_after_line_feed xs ys = lines_at_both xs ys ∙ ap (λ lines. lines ++ raw_lines ys) (sym (ended_lines_are_parts xs))

pub ended_lines_after_line_feed : (xs ys : List ℕ) → ended_lines (xs ++ 10 ∷ ys) ≡ raw_lines (xs ++ 10 ∷ []) ++ ended_lines ys
ended_lines_after_line_feed xs ys = ended_at_both xs ys ∙ ap (λ lines. lines ++ ended_lines ys) (sym (ended_lines_are_parts xs))

text_onto_first : (byte : ℕ) (xs : List (List ℕ)) (part : List ℕ) (parts : List (List ℕ)) → xs ≡ part ∷ parts → flat_map line (onto_first byte xs) ≡ byte ∷ flat_map line xs
text_onto_first byte [] part parts is = cc
text_onto_first byte (x ∷ xs) part parts is = refl

-- the parts, each with a line feed, are the bytes with one
text_of_parts : (bytes : List ℕ) → flat_map line (parts_of bytes) ≡ bytes ++ 10 ∷ []
text_of_parts [] = refl
text_of_parts (byte ∷ bytes) =
    let rest = first_part bytes in
    elim (is_line_feed byte) as (λ b. is_line_feed byte ≡ b → flat_map line (cond b ([] ∷ parts_of bytes) (onto_first byte (parts_of bytes))) ≡ byte ∷ (bytes ++ 10 ∷ [])) [
      | true ↦ λ is. λ i. sym (eqb-true byte 10 is) i ∷ text_of_parts bytes i
      | false ↦ λ _. text_onto_first byte (parts_of bytes) rest.0 rest.1 rest.2 ∙ ap (λ text. byte ∷ text) (text_of_parts bytes)
    ] refl

pub text_of_ended_lines : (bytes : List ℕ) → flat_map line (raw_lines (bytes ++ 10 ∷ [])) ≡ bytes ++ 10 ∷ []
text_of_ended_lines bytes = ap (flat_map line) (ended_lines_are_parts bytes) ∙ text_of_parts bytes

last_onto_first : (byte : ℕ) (xs : List (List ℕ)) (part : List ℕ) (parts : List (List ℕ)) → xs ≡ part ∷ parts → without_empty_last xs ≡ xs → without_empty_last (onto_first byte xs) ≡ onto_first byte xs
last_onto_first byte [] part parts is h = cc
last_onto_first byte (x ∷ []) part parts is h = refl
last_onto_first byte (x ∷ y ∷ xs) part parts is h = let rest : without_empty_last (y ∷ xs) ≡ y ∷ xs = cc in ap (λ more. (byte ∷ x) ∷ more) rest

last_after_empty : (xs : List (List ℕ)) (part : List ℕ) (parts : List (List ℕ)) → xs ≡ part ∷ parts → without_empty_last xs ≡ xs → without_empty_last ([] ∷ xs) ≡ [] ∷ xs
last_after_empty [] part parts is h = cc
last_after_empty (x ∷ xs) part parts is h = ap (λ more. [] ∷ more) h

last_part_kept : (bytes : List ℕ) (byte : ℕ) → is_line_feed byte ≡ false → without_empty_last (parts_of (bytes ++ byte ∷ [])) ≡ parts_of (bytes ++ byte ∷ [])
last_part_kept [] byte apart = ap (λ b. without_empty_last (cond b ([] ∷ [] ∷ []) ((byte ∷ []) ∷ []))) apart ∙ sym (ap (λ b. cond b ([] ∷ [] ∷ []) ((byte ∷ []) ∷ [])) apart)
last_part_kept (first ∷ bytes) byte apart =
    let rest = first_part (bytes ++ byte ∷ []) in
    let parts : List (List ℕ) = parts_of (bytes ++ byte ∷ []) in
    elim (is_line_feed first) as (λ b. without_empty_last (cond b ([] ∷ parts) (onto_first first parts)) ≡ cond b ([] ∷ parts) (onto_first first parts)) [
      | true ↦ last_after_empty parts rest.0 rest.1 rest.2 (last_part_kept bytes byte apart)
      | false ↦ last_onto_first first parts rest.0 rest.1 rest.2 (last_part_kept bytes byte apart)
    ]

no_line_feed : (byte : ℕ) → byte ≢ 10 → is_line_feed byte ≡ false
no_line_feed byte apart = ne_eqb byte 10 apart

-- where the bytes do not end in a line feed, one is added
pub text_of_lines : (bytes : List ℕ) (byte : ℕ) → byte ≢ 10 → flat_map line (raw_lines (bytes ++ byte ∷ [])) ≡ bytes ++ byte ∷ 10 ∷ []
text_of_lines bytes byte apart = ap (flat_map line) (last_part_kept bytes byte (no_line_feed byte apart)) ∙ text_of_parts (bytes ++ byte ∷ []) ∙ append_assoc bytes (byte ∷ []) (10 ∷ [])

-- and all lines but the last are those that a line feed ends
pub all_but_last_ended : (bytes : List ℕ) (byte : ℕ) → byte ≢ 10 → ended_lines (bytes ++ byte ∷ []) ≡ all_but_last (raw_lines (bytes ++ byte ∷ []))
all_but_last_ended bytes byte apart = ap all_but_last (sym (last_part_kept bytes byte (no_line_feed byte apart)))

-- no line has a line feed

abbrev HasNone : List ℕ → Type 0
HasNone part = All (λ byte. byte ≢ 10) part

none_onto_first : (byte : ℕ) (xs : List (List ℕ)) → byte ≢ 10 → All HasNone xs → All HasNone (onto_first byte xs)
none_onto_first byte [] apart h = All-cons HasNone (byte ∷ []) [] (All-cons (λ b. b ≢ 10) byte [] apart (All-nil (λ b. b ≢ 10))) (All-nil HasNone)
none_onto_first byte (x ∷ xs) apart h = All-cons HasNone (byte ∷ x) xs (All-cons (λ b. b ≢ 10) byte x apart (All-head HasNone x xs h)) (All-tail HasNone x xs h)

none_in_parts : (bytes : List ℕ) → All HasNone (parts_of bytes)
none_in_parts [] = All-cons HasNone [] [] (All-nil (λ b. b ≢ 10)) (All-nil HasNone)
none_in_parts (byte ∷ bytes) =
    elim (is_line_feed byte) as (λ b. is_line_feed byte ≡ b → All HasNone (cond b ([] ∷ parts_of bytes) (onto_first byte (parts_of bytes)))) [
      | true ↦ λ _. All-cons HasNone [] (parts_of bytes) (All-nil (λ b. b ≢ 10)) (none_in_parts bytes)
      | false ↦ λ other. none_onto_first byte (parts_of bytes) (eqb-false byte 10 other) (none_in_parts bytes)
    ] refl

all_without_last : (P : List ℕ → Type 0) (xs : List (List ℕ)) → All P xs → All P (without_empty_last xs)
all_without_last P [] h = h
all_without_last P ([] ∷ []) h = All-nil P
all_without_last P ((byte ∷ bytes) ∷ []) h = h
all_without_last P (x ∷ y ∷ xs) h = All-cons P x (without_empty_last (y ∷ xs)) (All-head P x (y ∷ xs) h) (all_without_last P (y ∷ xs) (All-tail P x (y ∷ xs) h))

pub no_line_feed_in_lines : (bytes : List ℕ) → All (λ text. All (λ byte. byte ≢ 10) text) (raw_lines bytes)
no_line_feed_in_lines bytes = all_without_last HasNone (parts_of bytes) (none_in_parts bytes)
