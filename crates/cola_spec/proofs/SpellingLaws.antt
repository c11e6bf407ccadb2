-- The laws of commands: which texts spell one, and how a line is read.
use Rattle.std.proofs.Common.{ℕ, ◌≡◌, ◌≢◌, ◌≤◌, ◌<◌, ◌+◌, ◌^◌, ◌↔◌, Bool, true, false, cond, refl, sym, ◌∙◌, ap, subst, List, [], ◌∷◌, ◌++◌, Option, Some, None, All, map, length, nat_eq, nat_le, leb, ◌&&◌, not, bytes_eq, codes, decimal, append_assoc, length-append, arith, Decides}
use Rattle.std.specs.List.{onto_first, flat_map, list_any, list_all, join_with_byte}
use Rattle.std.specs.Int.{IsInRange}
use Rattle.std.specs.Char.{is_ascii_digit, digit_value}
use Rattle.std.specs.Str.Parse.{digits_value, AllDigits}
use Rattle.std.proofs.Math.Nat.{pow-le-pow_right}
use Rattle.std.proofs.lemmas.Bool.{and_parts, and_from, leb-true, le-leb, lt-leb, eqb-false, ne_eqb, cond-true, cond-false, or_parts}
use Rattle.std.proofs.lemmas.Bool.Decides.{Decides-by_and, Decides-and, Decides-not, Decides-eqb}
use Rattle.std.proofs.lemmas.List.Elements.{All-cons, All-nil, All-head, All-tail, All-append, All-weaker}
use Rattle.std.proofs.lemmas.List.Folds.{list_any_none, list_any-append}
use Rattle.std.proofs.lemmas.List.Splits.{join_with_byte-slice_split, slice_split_none, slice_split_at}
use Rattle.std.proofs.lemmas.Slice.Eq.{bytes_eq-Decides}
use Rattle.std.proofs.lemmas.Fmt.{decimal_is_IsNumeral_wide, length-decimal-le_wide}
use Rattle.std.proofs.lemmas.Str.Parse.{digit_from_value}
use Rattle.std.proofs.lemmas.Str.{digit_value_digit}
use Rattle.std.proofs.lemmas.Int.Digits.{digits_value-lt}
use Rattle.cola_spec.specs.Map.{Shape, is_key, is_value}
use Rattle.cola_spec.specs.Lines.{Text, TooLong, line_of, without_return, raw_lines, line_limit}
use Rattle.cola_spec.specs.Command.{Command, Put, PutIf, Del, Get, Stamp, Range, Scan, Count, Close, Reopen, command_of, words_command, verb_of, put_of, put_if_of, del_of, get_of, stamp_of, range_of, scan_of, alone, when, words_of, text_requests, line_requests, requests, is_number, number_of}
use Rattle.cola_spec.specs.Reply.{line}
use Rattle.cola_spec.specs.Spelling.{IsWord, IsKeyWord, IsValueWord, IsNumberWord, IsAskable, IsOneLine, Spells, command_text, command_lines}
use Rattle.cola_spec.proofs.LineLaws.{lines_at_both}

-- Bytes, keys, values and numbers by their tests

abbrev pub is_zero : ℕ → Bool
is_zero byte = nat_eq byte 0

abbrev pub is_space : ℕ → Bool
is_space byte = nat_eq byte 32

abbrev IsWordByte : ℕ → Type 0
IsWordByte byte = (byte ≢ 0) × (byte ≢ 32)

abbrev is_word_byte : ℕ → Bool
is_word_byte byte = not (is_zero byte) && not (is_space byte)

word_byte_decides : (byte : ℕ) → Decides (is_word_byte byte) (IsWordByte byte)
word_byte_decides byte = Decides-and (not (is_zero byte)) (not (is_space byte)) (Decides-not (is_zero byte) (Decides-eqb byte 0)) (Decides-not (is_space byte) (Decides-eqb byte 32))

-- a word by the test of its bytes
word_by_test : (word : List ℕ) → list_all is_word_byte word ≡ true → IsWord word
word_by_test word = (Decides-by_and is_word_byte IsWordByte (list_all is_word_byte) word_byte_decides refl (λ _ _. refl) word).0

digit_decides : (byte : ℕ) → Decides (is_ascii_digit byte) (IsInRange 48 57 byte)
digit_decides byte = Decides-and (leb 48 byte) (leb byte 57) (leb-true 48 byte, le-leb 48 byte) (leb-true byte 57, le-leb byte 57)

digits_decide : (digits : List ℕ) → Decides (list_all is_ascii_digit digits) (All (IsInRange 48 57) digits)
digits_decide = Decides-by_and is_ascii_digit (IsInRange 48 57) (list_all is_ascii_digit) digit_decides refl (λ _ _. refl)

number_word : (most : ℕ) (digits : List ℕ) → is_number most digits ≡ true → IsNumberWord most (number_of digits) digits
number_word most digits h =
    let all = and_parts (nat_le 1 (length digits) && nat_le (length digits) most) (list_all is_ascii_digit digits) h in
    let ends = and_parts (nat_le 1 (length digits)) (nat_le (length digits) most) all.0 in
    ((digits_decide digits).0 all.1, leb-true 1 (length digits) ends.0, leb-true (length digits) most ends.1, refl)

number_tested : (most number : ℕ) (digits : List ℕ) → IsNumberWord most number digits → is_number most digits ≡ true
number_tested most number digits h =
    and_from (nat_le 1 (length digits) && nat_le (length digits) most) (list_all is_ascii_digit digits)
    (and_from (nat_le 1 (length digits)) (nat_le (length digits) most) (le-leb 1 (length digits) h.1) (le-leb (length digits) most h.2)) ((digits_decide digits).1 h.0)

pub digits_range : (digits : List ℕ) → AllDigits 10 digits → All (IsInRange 48 57) digits
digits_range [] h = All-nil (IsInRange 48 57)
digits_range (digit ∷ digits) h = All-cons (IsInRange 48 57) digit digits (digit_from_value digit h.0) (digits_range digits h.1)

digit_is_word_byte : (byte : ℕ) → IsInRange 48 57 byte → IsWordByte byte
digit_is_word_byte byte range = (λ e. absurd (omega arith), λ e. absurd (omega arith))

digits_are_word : (most number : ℕ) (digits : List ℕ) → IsNumberWord most number digits → IsWord digits
digits_are_word most number digits h = All-weaker (IsInRange 48 57) IsWordByte digit_is_word_byte digits h.0

pub key_word : (shape : Shape) (key : List ℕ) → (is_key shape key ≡ true) ↔ ((1 ≤ length key) × (length key ≤ shape.key_limit))
key_word shape key = Decides-and (nat_le 1 (length key)) (nat_le (length key) shape.key_limit) (leb-true 1 (length key), le-leb 1 (length key)) (leb-true (length key) shape.key_limit, le-leb (length key) shape.key_limit)

pub value_word : (shape : Shape) (value : List ℕ) → (is_value shape value ≡ true) ↔ (length value ≤ shape.value_limit)
value_word shape value = (leb-true (length value) shape.value_limit, le-leb (length value) shape.value_limit)

-- The words of a text

words_onto_first : (byte : ℕ) (words : List (List ℕ)) → IsWordByte byte → All IsWord words → All IsWord (onto_first byte words)
words_onto_first byte [] good all = All-cons IsWord (byte ∷ []) [] (All-cons IsWordByte byte [] good (All-nil IsWordByte)) all
words_onto_first byte (word ∷ words) good all =
    All-cons IsWord (byte ∷ word) words (All-cons IsWordByte byte word good (All-head IsWord word words all)) (All-tail IsWord word words all)

any_parts : (byte : ℕ) (bytes : List ℕ) → list_any is_zero (byte ∷ bytes) ≡ false → (is_zero byte ≡ false) × (list_any is_zero bytes ≡ false)
any_parts byte bytes = or_parts (is_zero byte) (list_any is_zero bytes)

-- the parts between spaces are words, where no byte is NUL
parts_are_words : (text : List ℕ) → list_any is_zero text ≡ false → All IsWord (words_of text)
parts_are_words [] h = All-cons IsWord [] [] (All-nil IsWordByte) (All-nil IsWord)
parts_are_words (byte ∷ bytes) h =
    let both = any_parts byte bytes h in
    elim (is_space byte) as (λ b. is_space byte ≡ b → All IsWord (cond b ([] ∷ words_of bytes) (onto_first byte (words_of bytes)))) [
      | true ↦ λ _. All-cons IsWord [] (words_of bytes) (All-nil IsWordByte) (parts_are_words bytes both.1)
      | false ↦ λ other. words_onto_first byte (words_of bytes) (eqb-false byte 0 both.0, eqb-false byte 32 other) (parts_are_words bytes both.1)
    ] refl

no_zero : (word : List ℕ) → IsWord word → list_any is_zero word ≡ false
no_zero word good = list_any_none is_zero word (All-weaker IsWordByte (λ b. is_zero b ≡ false) (λ b h. ne_eqb b 0 h.0) word good)

no_space : (word : List ℕ) → IsWord word → All (λ b. is_space b ≡ false) word
no_space word good = All-weaker IsWordByte (λ b. is_space b ≡ false) (λ b h. ne_eqb b 32 h.1) word good

abbrev joined : List (List ℕ) → List ℕ
joined words = join_with_byte 32 words

-- words with one space between each two have no NUL byte, and are the words of the text
joined_has_no_zero : (word : List ℕ) (words : List (List ℕ)) → All IsWord (word ∷ words) → list_any is_zero (joined (word ∷ words)) ≡ false
joined_has_no_zero word [] all = no_zero word (All-head IsWord word [] all)
joined_has_no_zero word (next ∷ words) all =
    let rest = joined_has_no_zero next words (All-tail IsWord word (next ∷ words) all) in
    list_any-append is_zero word (32 ∷ joined (next ∷ words)) ∙ simp (no_zero word (All-head IsWord word (next ∷ words) all), rest)

words_of_joined : (word : List ℕ) (words : List (List ℕ)) → All IsWord (word ∷ words) → words_of (joined (word ∷ words)) ≡ word ∷ words
words_of_joined word [] all = slice_split_none is_space word (no_space word (All-head IsWord word [] all))
words_of_joined word (next ∷ words) all =
    slice_split_at is_space word 32 (joined (next ∷ words)) (no_space word (All-head IsWord word (next ∷ words) all)) refl
    ∙ ap (λ rest. word ∷ rest) (words_of_joined next words (All-tail IsWord word (next ∷ words) all))

command_of_words : (shape : Shape) (word : List ℕ) (words : List (List ℕ)) → All IsWord (word ∷ words) → command_of shape (joined (word ∷ words)) ≡ words_command shape (word ∷ words)
command_of_words shape word words all =
    cond-false (list_any is_zero (joined (word ∷ words))) None (words_command shape (words_of (joined (word ∷ words)))) (joined_has_no_zero word words all)
    ∙ ap (words_command shape) (words_of_joined word words all)

-- A command is spelt by its text

key_is : (shape : Shape) (key : List ℕ) → IsWord key → is_key shape key ≡ true → IsKeyWord shape key
key_is shape key word h = let ends = (key_word shape key).0 h in (word, ends.0, ends.1)

key_tested : (shape : Shape) (key : List ℕ) → IsKeyWord shape key → is_key shape key ≡ true
key_tested shape key h = (key_word shape key).1 (h.1, h.2)

value_is : (shape : Shape) (value : List ℕ) → IsWord value → is_value shape value ≡ true → IsValueWord shape value
value_is shape value word h = (word, (value_word shape value).0 h)

value_tested : (shape : Shape) (value : List ℕ) → IsValueWord shape value → is_value shape value ≡ true
value_tested shape value h = (value_word shape value).1 h.1

when_is : (b : Bool) (made command : Command) → when b made ≡ Some command → (b ≡ true) × (made ≡ command)
when_is true made command h = (refl, cc)
when_is false made command h = absurd (cc)

second_word : (first second : List ℕ) (words : List (List ℕ)) → All IsWord (first ∷ second ∷ words) → IsWord second
second_word first second words all = All-head IsWord second words (All-tail IsWord first (second ∷ words) all)

put_spelt : (shape : Shape) (words : List (List ℕ)) (text : List ℕ) (command : Command) → text ≡ joined (codes "put" ∷ words) → All IsWord words → put_of shape words ≡ Some command → Spells shape command text
put_spelt shape (key ∷ value ∷ []) text command is all made =
    let h = when_is (is_key shape key && is_value shape value) (Put key value) command made in
    let both = and_parts (is_key shape key) (is_value shape value) h.0 in
    subst (λ c. Spells shape c text) h.1 (is, key_is shape key (All-head IsWord key (value ∷ []) all) both.0, value_is shape value (second_word key value [] all) both.1)
put_spelt shape _ text command is all made = absurd (cc)

put_if_spelt : (shape : Shape) (words : List (List ℕ)) (text : List ℕ) (command : Command) → text ≡ joined (codes "putif" ∷ words) → All IsWord words → put_if_of shape words ≡ Some command → Spells shape command text
put_if_spelt shape (key ∷ seen ∷ value ∷ []) text command is all made =
    let h = when_is (shape.stamped && is_key shape key && is_number 19 seen && is_value shape value) (PutIf key (number_of seen) value) command made in
    let last = and_parts (shape.stamped && is_key shape key && is_number 19 seen) (is_value shape value) h.0 in
    let number = and_parts (shape.stamped && is_key shape key) (is_number 19 seen) last.0 in
    let first = and_parts shape.stamped (is_key shape key) number.0 in
    subst (λ c. Spells shape c text) h.1
    (seen, is, first.0, key_is shape key (All-head IsWord key (seen ∷ value ∷ []) all) first.1, number_word 19 seen number.1, value_is shape value (second_word seen value [] (All-tail IsWord key (seen ∷ value ∷ []) all)) last.1)
put_if_spelt shape _ text command is all made = absurd (cc)

del_spelt : (shape : Shape) (words : List (List ℕ)) (text : List ℕ) (command : Command) → text ≡ joined (codes "del" ∷ words) → All IsWord words → del_of shape words ≡ Some command → Spells shape command text
del_spelt shape (key ∷ []) text command is all made =
    let h = when_is (is_key shape key) (Del key) command made in subst (λ c. Spells shape c text) h.1 (is, key_is shape key (All-head IsWord key [] all) h.0)
del_spelt shape _ text command is all made = absurd (cc)

get_spelt : (shape : Shape) (words : List (List ℕ)) (text : List ℕ) (command : Command) → text ≡ joined (codes "get" ∷ words) → All IsWord words → get_of shape words ≡ Some command → Spells shape command text
get_spelt shape (key ∷ []) text command is all made =
    let h = when_is (is_key shape key) (Get key) command made in subst (λ c. Spells shape c text) h.1 (is, key_is shape key (All-head IsWord key [] all) h.0)
get_spelt shape _ text command is all made = absurd (cc)

stamp_spelt : (shape : Shape) (words : List (List ℕ)) (text : List ℕ) (command : Command) → text ≡ joined (codes "stamp" ∷ words) → All IsWord words → stamp_of shape words ≡ Some command → Spells shape command text
stamp_spelt shape (key ∷ []) text command is all made =
    let h = when_is (shape.stamped && is_key shape key) (Stamp key) command made in
    let both = and_parts shape.stamped (is_key shape key) h.0 in
    subst (λ c. Spells shape c text) h.1 (is, both.0, key_is shape key (All-head IsWord key [] all) both.1)
stamp_spelt shape _ text command is all made = absurd (cc)

range_spelt : (shape : Shape) (words : List (List ℕ)) (text : List ℕ) (command : Command) → text ≡ joined (codes "range" ∷ words) → All IsWord words → range_of shape words ≡ Some command → Spells shape command text
range_spelt shape (low ∷ high ∷ []) text command is all made =
    let h = when_is (is_key shape low && is_key shape high) (Range low high) command made in
    let both = and_parts (is_key shape low) (is_key shape high) h.0 in
    subst (λ c. Spells shape c text) h.1 (is, key_is shape low (All-head IsWord low (high ∷ []) all) both.0, key_is shape high (second_word low high [] all) both.1)
range_spelt shape _ text command is all made = absurd (cc)

scan_spelt : (shape : Shape) (words : List (List ℕ)) (text : List ℕ) (command : Command) → text ≡ joined (codes "scan" ∷ words) → All IsWord words → scan_of shape words ≡ Some command → Spells shape command text
scan_spelt shape (low ∷ most ∷ []) text command is all made =
    let h = when_is (is_key shape low && is_number 10 most) (Scan low (number_of most)) command made in
    let both = and_parts (is_key shape low) (is_number 10 most) h.0 in
    subst (λ c. Spells shape c text) h.1 (most, is, key_is shape low (All-head IsWord low (most ∷ []) all) both.0, number_word 10 most both.1)
scan_spelt shape _ text command is all made = absurd (cc)

alone_spelt : (shape : Shape) (word : List ℕ) (words : List (List ℕ)) (text : List ℕ) (made command : Command) → text ≡ joined (word ∷ words) → (text ≡ word → Spells shape made text) → alone made words ≡ Some command → Spells shape command text
alone_spelt shape word [] text made command is spelt h = let same : made ≡ command = cc in subst (λ c. Spells shape c text) same (spelt is)
alone_spelt shape word (more ∷ words) text made command is spelt h = absurd (cc)

-- where a request is the command, the text spells it
record IsSpelt (shape : Shape) (text : List ℕ) (command : Command) (request : Option Command) : Type 0 where
  spelt : request ≡ Some command → Spells shape command text

either_spelt : {shape : Shape} {text : List ℕ} {command : Command} (b : Bool) (x : Option Command) {y : Option Command} → (b ≡ true → x ≡ Some command → Spells shape command text) → IsSpelt shape text command y → IsSpelt shape text command (cond b x y)
either_spelt true x first other = record { spelt = first refl }
either_spelt false x first other = other

-- the text with its verb written out
by_verb : (text verb word : List ℕ) (words : List (List ℕ)) → text ≡ joined (verb ∷ words) → bytes_eq verb word ≡ true → text ≡ joined (word ∷ words)
by_verb text verb word words is same = is ∙ ap (λ v. joined (v ∷ words)) ((bytes_eq-Decides verb word).0 same)

verb_spelt : (shape : Shape) (verb : List ℕ) (words : List (List ℕ)) (text : List ℕ) (command : Command) → text ≡ joined (verb ∷ words) → All IsWord words → IsSpelt shape text command (verb_of shape verb words)
verb_spelt shape verb words text command is all =
    either_spelt (bytes_eq verb (codes "put")) (put_of shape words) (λ same. put_spelt shape words text command (by_verb text verb (codes "put") words is same) all)
    (either_spelt (bytes_eq verb (codes "putif")) (put_if_of shape words) (λ same. put_if_spelt shape words text command (by_verb text verb (codes "putif") words is same) all)
    (either_spelt (bytes_eq verb (codes "del")) (del_of shape words) (λ same. del_spelt shape words text command (by_verb text verb (codes "del") words is same) all)
    (either_spelt (bytes_eq verb (codes "get")) (get_of shape words) (λ same. get_spelt shape words text command (by_verb text verb (codes "get") words is same) all)
    (either_spelt (bytes_eq verb (codes "stamp")) (stamp_of shape words) (λ same. stamp_spelt shape words text command (by_verb text verb (codes "stamp") words is same) all)
    (either_spelt (bytes_eq verb (codes "range")) (range_of shape words) (λ same. range_spelt shape words text command (by_verb text verb (codes "range") words is same) all)
    (either_spelt (bytes_eq verb (codes "scan")) (scan_of shape words) (λ same. scan_spelt shape words text command (by_verb text verb (codes "scan") words is same) all)
    (either_spelt (bytes_eq verb (codes "count")) (alone Count words) (λ same. alone_spelt shape (codes "count") words text Count command (by_verb text verb (codes "count") words is same) (λ h. h))
    (either_spelt (bytes_eq verb (codes "close")) (alone Close words) (λ same. alone_spelt shape (codes "close") words text Close command (by_verb text verb (codes "close") words is same) (λ h. h))
    (either_spelt (bytes_eq verb (codes "open")) (alone Reopen words) (λ same. alone_spelt shape (codes "open") words text Reopen command (by_verb text verb (codes "open") words is same) (λ h. h)) (record { spelt = λ h. absurd (cc) }))))))))))

words_spelt : (shape : Shape) (words : List (List ℕ)) (text : List ℕ) (command : Command) → text ≡ joined words → All IsWord words → words_command shape words ≡ Some command → Spells shape command text
words_spelt shape [] text command is all h = absurd (cc)
words_spelt shape (verb ∷ words) text command is all h = (verb_spelt shape verb words text command is (All-tail IsWord verb words all)).spelt h

pub command_is_spelt : (shape : Shape) (text : List ℕ) (command : Command) → command_of shape text ≡ Some command → Spells shape command text
command_is_spelt shape text command =
    elim (list_any is_zero text) as (λ b. list_any is_zero text ≡ b → cond b None (words_command shape (words_of text)) ≡ Some command → Spells shape command text) [
      | true ↦ λ _ h. absurd (cc)
      | false ↦ λ none h. words_spelt shape (words_of text) text command (sym (join_with_byte-slice_split 32 text)) (parts_are_words text none) h
    ] refl

-- And a text that spells a command is that command

two_words : (first second : List ℕ) → IsWord first → IsWord second → All IsWord (first ∷ second ∷ [])
two_words first second one two = All-cons IsWord first (second ∷ []) one (All-cons IsWord second [] two (All-nil IsWord))

three_words : (first second third : List ℕ) → IsWord first → IsWord second → IsWord third → All IsWord (first ∷ second ∷ third ∷ [])
three_words first second third one two three = All-cons IsWord first (second ∷ third ∷ []) one (two_words second third two three)

made : (b : Bool) (command : Command) → b ≡ true → when b command ≡ Some command
made b command h = cond-true b (Some command) None h

pub spelt_is_command : (shape : Shape) (text : List ℕ) (command : Command) → Spells shape command text → command_of shape text ≡ Some command
spelt_is_command shape text (Put key value) h =
    ap (command_of shape) h.0 ∙ command_of_words shape (codes "put") (key ∷ value ∷ []) (three_words (codes "put") key value (word_by_test (codes "put") refl) h.1.0 h.2.0)
    ∙ made (is_key shape key && is_value shape value) (Put key value) (and_from (is_key shape key) (is_value shape value) (key_tested shape key h.1) (value_tested shape value h.2))
spelt_is_command shape text (PutIf key seen value) h =
    ap (command_of shape) h.1
    ∙ command_of_words shape (codes "putif") (key ∷ h.0 ∷ value ∷ []) (All-cons IsWord (codes "putif") (key ∷ h.0 ∷ value ∷ []) (word_by_test (codes "putif") refl) (three_words key h.0 value h.3.0 (digits_are_word 19 seen h.0 h.4) h.5.0))
    ∙ made (shape.stamped && is_key shape key && is_number 19 h.0 && is_value shape value) (PutIf key (number_of h.0) value)
    (and_from (shape.stamped && is_key shape key && is_number 19 h.0) (is_value shape value)
    (and_from (shape.stamped && is_key shape key) (is_number 19 h.0) (and_from shape.stamped (is_key shape key) h.2 (key_tested shape key h.3)) (number_tested 19 seen h.0 h.4)) (value_tested shape value h.5))
    ∙ ap (λ n. Some (PutIf key n value)) h.4.3
spelt_is_command shape text (Del key) h =
    ap (command_of shape) h.0 ∙ command_of_words shape (codes "del") (key ∷ []) (two_words (codes "del") key (word_by_test (codes "del") refl) h.1.0) ∙ made (is_key shape key) (Del key) (key_tested shape key h.1)
spelt_is_command shape text (Get key) h =
    ap (command_of shape) h.0 ∙ command_of_words shape (codes "get") (key ∷ []) (two_words (codes "get") key (word_by_test (codes "get") refl) h.1.0) ∙ made (is_key shape key) (Get key) (key_tested shape key h.1)
spelt_is_command shape text (Stamp key) h =
    ap (command_of shape) h.0 ∙ command_of_words shape (codes "stamp") (key ∷ []) (two_words (codes "stamp") key (word_by_test (codes "stamp") refl) h.2.0)
    ∙ made (shape.stamped && is_key shape key) (Stamp key) (and_from shape.stamped (is_key shape key) h.1 (key_tested shape key h.2))
spelt_is_command shape text (Range low high) h =
    ap (command_of shape) h.0 ∙ command_of_words shape (codes "range") (low ∷ high ∷ []) (three_words (codes "range") low high (word_by_test (codes "range") refl) h.1.0 h.2.0)
    ∙ made (is_key shape low && is_key shape high) (Range low high) (and_from (is_key shape low) (is_key shape high) (key_tested shape low h.1) (key_tested shape high h.2))
spelt_is_command shape text (Scan low most) h =
    ap (command_of shape) h.1 ∙ command_of_words shape (codes "scan") (low ∷ h.0 ∷ []) (three_words (codes "scan") low h.0 (word_by_test (codes "scan") refl) h.2.0 (digits_are_word 10 most h.0 h.3))
    ∙ made (is_key shape low && is_number 10 h.0) (Scan low (number_of h.0)) (and_from (is_key shape low) (is_number 10 h.0) (key_tested shape low h.2) (number_tested 10 most h.0 h.3))
    ∙ ap (λ n. Some (Scan low n)) h.3.3
spelt_is_command shape text Count h = ap (command_of shape) h
spelt_is_command shape text Close h = ap (command_of shape) h
spelt_is_command shape text Reopen h = ap (command_of shape) h

-- The text that asks a command

number_is_written : (most number : ℕ) → 0 < most → most ≤ 64 → number < 10 ^ most → IsNumberWord most number (decimal number)
number_is_written most number some few small =
    let wide : 10 ^ most ≤ 10 ^ 64 = pow-le-pow_right (omega arith) few in
    let below : number < 10 ^ 64 = omega arith in
    let is = decimal_is_IsNumeral_wide number below in
    (digits_range (decimal number) is.0.1, is.0.0, length-decimal-le_wide most number some small below, is.1)

pub text_spells : (shape : Shape) (command : Command) → IsAskable shape command → Spells shape command (command_text command)
text_spells shape (Put key value) h = (refl, h.0, h.1)
text_spells shape (PutIf key seen value) h = (decimal seen, refl, h.0, h.1, number_is_written 19 seen (omega arith) (omega arith) h.2, h.3)
text_spells shape (Del key) h = (refl, h)
text_spells shape (Get key) h = (refl, h)
text_spells shape (Stamp key) h = (refl, h.0, h.1)
text_spells shape (Range low high) h = (refl, h.0, h.1)
text_spells shape (Scan low most) h = (decimal most, refl, h.0, number_is_written 10 most (omega arith) (omega arith) h.1)
text_spells shape Count h = refl
text_spells shape Close h = refl
text_spells shape Reopen h = refl

pub text_is_command : (shape : Shape) (command : Command) → IsAskable shape command → command_of shape (command_text command) ≡ Some command
text_is_command shape command h = spelt_is_command shape (command_text command) command (text_spells shape command h)

digits_by_range : (digits : List ℕ) → All (IsInRange 48 57) digits → AllDigits 10 digits
digits_by_range [] all = tt
digits_by_range (digit ∷ digits) all =
    let range : IsInRange 48 57 digit = All-head (IsInRange 48 57) digit digits all in
    let value : digit_value digit + 48 ≡ digit = digit_value_digit digit range in
    (omega arith, digits_by_range digits (All-tail (IsInRange 48 57) digit digits all))

-- a number of at most so many digits
number_below : (most number : ℕ) (digits : List ℕ) → IsNumberWord most number digits → number < 10 ^ most
number_below most number digits h =
    let below : digits_value 10 digits < 10 ^ length digits = digits_value-lt 10 digits (digits_by_range digits h.0) in
    let wide : 10 ^ length digits ≤ 10 ^ most = pow-le-pow_right (omega arith) h.2 in
    let same : digits_value 10 digits ≡ number = h.3 in
    omega arith

spelt_is_askable : (shape : Shape) (command : Command) (text : List ℕ) → Spells shape command text → IsAskable shape command
spelt_is_askable shape (Put key value) text h = (h.1, h.2)
spelt_is_askable shape (PutIf key seen value) text h = (h.2, h.3, number_below 19 seen h.0 h.4, h.5)
spelt_is_askable shape (Del key) text h = h.1
spelt_is_askable shape (Get key) text h = h.1
spelt_is_askable shape (Stamp key) text h = (h.1, h.2)
spelt_is_askable shape (Range low high) text h = (h.1, h.2)
spelt_is_askable shape (Scan low most) text h = (h.2, number_below 10 most h.0 h.3)
spelt_is_askable shape Count text h = tt
spelt_is_askable shape Close text h = tt
spelt_is_askable shape Reopen text h = tt

-- a text asks the command exactly where it is askable
pub asked_is_askable : (shape : Shape) (command : Command) → ((text : List ℕ) × (command_of shape text ≡ Some command)) ↔ IsAskable shape command
asked_is_askable shape command = (λ asked. spelt_is_askable shape command asked.0 (command_is_spelt shape asked.0 command asked.1), λ h. (command_text command, text_is_command shape command h))

pub text_is_short : (shape : Shape) (command : Command) → shape.key_limit ≤ 40 → shape.value_limit ≤ 72 → IsAskable shape command → length (command_text command) ≤ 139
text_is_short shape (Put key value) keys values h = simp (length-append) (omega (arith, h.0.2, h.1.1))
text_is_short shape (PutIf key seen value) keys values h =
    let digits = number_is_written 19 seen (omega arith) (omega arith) h.2 in
    simp (length-append) (omega (arith, h.1.2, h.3.1, digits.2))
text_is_short shape (Del key) keys values h = omega (arith, h.2)
text_is_short shape (Get key) keys values h = omega (arith, h.2)
text_is_short shape (Stamp key) keys values h = omega (arith, h.1.2)
text_is_short shape (Range low high) keys values h = simp (length-append) (omega (arith, h.0.2, h.1.2))
text_is_short shape (Scan low most) keys values h =
    let digits = number_is_written 10 most (omega arith) (omega arith) h.1 in
    simp (length-append) (omega (arith, h.0.2, digits.2))
text_is_short shape Count keys values h = omega arith
text_is_short shape Close keys values h = omega arith
text_is_short shape Reopen keys values h = omega arith

-- How a line is read

without_its_return : (text : List ℕ) → without_return (text ++ 13 ∷ []) ≡ text
without_its_return [] = refl
without_its_return (byte ∷ []) = refl
without_its_return (byte ∷ next ∷ bytes) = ap (λ rest. byte ∷ rest) (without_its_return (next ∷ bytes))

without_no_return : (text : List ℕ) (byte : ℕ) → byte ≢ 13 → without_return (text ++ byte ∷ []) ≡ text ++ byte ∷ []
without_no_return [] byte apart = cond-false (nat_eq byte 13) [] (byte ∷ []) (ne_eqb byte 13 apart)
without_no_return (first ∷ []) byte apart = ap (λ rest. first ∷ rest) (without_no_return [] byte apart)
without_no_return (first ∷ next ∷ bytes) byte apart = ap (λ rest. first ∷ rest) (without_no_return (next ∷ bytes) byte apart)

short_line : (raw : List ℕ) → length raw ≤ 160 → line_of raw ≡ Text (without_return raw)
short_line raw few = cond-true (nat_le (length raw) line_limit) (Text (without_return raw)) TooLong (le-leb (length raw) 160 few)

pub line_too_long : (raw : List ℕ) → 160 < length raw → line_of raw ≡ TooLong
line_too_long raw many = cond-false (nat_le (length raw) line_limit) (Text (without_return raw)) TooLong (lt-leb (length raw) 160 many)

one_more : (text : List ℕ) (byte : ℕ) → length text < 160 → length (text ++ byte ∷ []) ≤ 160
one_more text byte few = simp length-append (omega arith)

pub line_with_return : (text : List ℕ) → length text < 160 → line_of (text ++ 13 ∷ []) ≡ Text text
line_with_return text few = short_line (text ++ 13 ∷ []) (one_more text 13 few) ∙ ap Text (without_its_return text)

pub line_without_return : (text : List ℕ) (byte : ℕ) → byte ≢ 13 → length text < 160 → line_of (text ++ byte ∷ []) ≡ Text (text ++ byte ∷ [])
line_without_return text byte apart few = short_line (text ++ byte ∷ []) (one_more text byte few) ∙ ap Text (without_no_return text byte apart)

abbrev is_line_feed : ℕ → Bool
is_line_feed byte = nat_eq byte 10

-- a text that is written as a line is the first line
pub first_line : (text rest : List ℕ) → IsOneLine text → raw_lines (line text ++ rest) ≡ text ∷ raw_lines rest
first_line text rest one =
    ap raw_lines (append_assoc text (10 ∷ []) rest) ∙ lines_at_both text rest
    ∙ ap (λ parts. parts ++ raw_lines rest) (slice_split_none is_line_feed text (All-weaker (λ b. b ≢ 10) (λ b. is_line_feed b ≡ false) (λ b h. ne_eqb b 10 h) text one))

pub written_lines : (texts : List (List ℕ)) → All IsOneLine texts → raw_lines (flat_map line texts) ≡ texts
written_lines [] all = refl
written_lines (text ∷ texts) all =
    first_line text (flat_map line texts) (All-head IsOneLine text texts all) ∙ ap (λ rest. text ∷ rest) (written_lines texts (All-tail IsOneLine text texts all))

-- The lines of commands ask these commands

pub requests_of_both : (shape : Shape) (front rest : List (List ℕ)) → requests shape (front ++ rest) ≡ requests shape front ++ requests shape rest
requests_of_both shape [] rest = refl
requests_of_both shape (raw ∷ front) rest = ap (λ more. line_requests shape (line_of raw) ++ more) (requests_of_both shape front rest) ∙ sym (append_assoc (line_requests shape (line_of raw)) (requests shape front) (requests shape rest))

text_asks : (shape : Shape) (text : List ℕ) (command : Command) → command_of shape text ≡ Some command → text_requests shape text ≡ Some command ∷ []
text_asks shape [] command h = absurd (cc)
text_asks shape (byte ∷ bytes) command h = ap (λ request. request ∷ []) h

line_asks : (shape : Shape) (command : Command) → shape.key_limit ≤ 40 → shape.value_limit ≤ 72 → IsAskable shape command → line_requests shape (line_of (command_text command ++ 13 ∷ [])) ≡ Some command ∷ []
line_asks shape command keys values askable =
    let short = text_is_short shape command keys values askable in
    ap (line_requests shape) (line_with_return (command_text command) (omega arith)) ∙ text_asks shape (command_text command) command (text_is_command shape command askable)

one_line_and_return : (text : List ℕ) → IsOneLine text → IsOneLine (text ++ 13 ∷ [])
one_line_and_return text one = All-append (λ b. b ≢ 10) text (13 ∷ []) one (All-cons (λ b. b ≢ 10) 13 [] (λ e. absurd (cc)) (All-nil (λ b. b ≢ 10)))

pub lines_ask_commands : (shape : Shape) (commands : List Command) → shape.key_limit ≤ 40 → shape.value_limit ≤ 72 → All (IsAskable shape) commands → All (λ command. IsOneLine (command_text command)) commands → requests shape (raw_lines (command_lines commands)) ≡ map Some commands
lines_ask_commands shape [] keys values askable one = refl
lines_ask_commands shape (command ∷ commands) keys values askable one =
    ap (requests shape) (first_line (command_text command ++ 13 ∷ []) (command_lines commands) (one_line_and_return (command_text command) (All-head (λ c. IsOneLine (command_text c)) command commands one)))
    ∙ ap (λ first. first ++ requests shape (raw_lines (command_lines commands))) (line_asks shape command keys values (All-head (IsAskable shape) command commands askable))
    ∙ ap (λ rest. Some command ∷ rest) (lines_ask_commands shape commands keys values (All-tail (IsAskable shape) command commands askable) (All-tail (λ c. IsOneLine (command_text c)) command commands one))
