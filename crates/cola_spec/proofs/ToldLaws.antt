-- The laws of the texts of replies: a text is read back as what it tells.
use Rattle.std.proofs.Common.{ℕ, ◌≡◌, ◌≢◌, Bool, true, false, cond, refl, sym, ◌∙◌, ap, List, [], ◌∷◌, ◌++◌, Some, None, All, map, take, drop, length, nat_eq, ◌&&◌, not, bytes_eq, codes, decimal, append_assoc, arith}
use Rattle.std.specs.List.{flat_map, list_any, list_all}
use Rattle.std.specs.Int.{IsInRange}
use Rattle.std.specs.Str.Parse.{digits_value}
use Rattle.std.proofs.lemmas.Bool.{cond-true, cond-false, or_right, ne_eqb}
use Rattle.std.proofs.lemmas.Bool.Decides.{Decides-by_and, Decides-not, Decides-eqb}
use Rattle.std.proofs.lemmas.List.{append-nil}
use Rattle.std.proofs.lemmas.List.Concat.{flat_map-append}
use Rattle.std.proofs.lemmas.List.Elements.{All-cons, All-nil, All-head, All-tail, All-append, All-weaker, All-map}
use Rattle.std.proofs.lemmas.List.Folds.{list_any_none, list_any-append}
use Rattle.std.proofs.lemmas.Fmt.{decimal_is_IsNumeral_wide}
use Rattle.cola_spec.specs.Map.{PutOutcome, New, Old, Full, Worn, Other}
use Rattle.cola_spec.specs.Lines.{raw_lines}
use Rattle.cola_spec.specs.Reply.{Reply, Failure, Fault, Damaged, Overfull, NotStore, NotClosed, Small, Memory, Put, Deleted, Got, Stamped, Rows, Cut, Counted, Failed, Closed, Opened, Refused, Already, Shut, Bad, line, cost_suffix, outcome_text, outcome_suffix, value_text, stamp_text, failure_text, refusal_text, row_text, rows_text, reply_text}
use Rattle.cola_spec.specs.Machine.{Turn, turns_text}
use Rattle.cola_spec.specs.Spelling.{IsOneLine}
use Rattle.cola_spec.specs.Told.{IsReadable, IsReadableOutcome, IsReadableFailure, IsReadableTurn, IsRowLine, IsWritten, is_costed, told, told_turn}
use Rattle.cola_spec.proofs.SpellingLaws.{is_space, digits_range, written_lines}

abbrev Row : Type 0
Row = List ℕ × List ℕ

-- Lines without a line feed

abbrev is_kept : ℕ → Bool
is_kept byte = not (nat_eq byte 10)

one_line_by_test : (text : List ℕ) → list_all is_kept text ≡ true → IsOneLine text
one_line_by_test text = (Decides-by_and is_kept (λ b. b ≢ 10) (list_all is_kept) (λ b. Decides-not (nat_eq b 10) (Decides-eqb b 10)) refl (λ _ _. refl) text).0

both_one_line : (front rest : List ℕ) → IsOneLine front → IsOneLine rest → IsOneLine (front ++ rest)
both_one_line = All-append (λ b. b ≢ 10)

after_word : (word rest : List ℕ) → list_all is_kept word ≡ true → IsOneLine rest → IsOneLine (word ++ rest)
after_word word rest test one = both_one_line word rest (one_line_by_test word test) one

no_bytes : IsOneLine []
no_bytes = All-nil (λ b. b ≢ 10)

digits_of_number : (number : ℕ) → IsWritten number → All (IsInRange 48 57) (decimal number)
digits_of_number number small = digits_range (decimal number) (decimal_is_IsNumeral_wide number small).0.1

number_is_line : (number : ℕ) → IsWritten number → IsOneLine (decimal number)
number_is_line number small = All-weaker (IsInRange 48 57) (λ b. b ≢ 10) (λ b range e. absurd (omega arith)) (decimal number) (digits_of_number number small)

no_space_in_number : (number : ℕ) → IsWritten number → list_any is_space (decimal number) ≡ false
no_space_in_number number small =
    list_any_none is_space (decimal number) (All-weaker (IsInRange 48 57) (λ b. is_space b ≡ false) (λ b range. ne_eqb b 32 (λ e. absurd (omega arith))) (decimal number) (digits_of_number number small))

number_back : (number : ℕ) → IsWritten number → digits_value 10 (decimal number) ≡ number
number_back number small = (decimal_is_IsNumeral_wide number small).1

-- The cost behind a text

abbrev to_last_space : List ℕ → List ℕ
to_last_space [] = []
to_last_space (byte ∷ bytes) = cond (list_any is_space bytes) (byte ∷ to_last_space bytes) []

abbrev past_last_space : List ℕ → List ℕ
past_last_space [] = []
past_last_space (byte ∷ bytes) = cond (list_any is_space bytes) (past_last_space bytes) bytes

some_space : (text rest : List ℕ) → list_any is_space (text ++ 32 ∷ rest) ≡ true
some_space text rest = list_any-append is_space text (32 ∷ rest) ∙ or_right (list_any is_space text) true refl

to_last : (text rest : List ℕ) → list_any is_space rest ≡ false → to_last_space (text ++ 32 ∷ rest) ≡ text
to_last [] rest none = cond-false (list_any is_space rest) (32 ∷ to_last_space rest) [] none
to_last (byte ∷ text) rest none = cond-true (list_any is_space (text ++ 32 ∷ rest)) (byte ∷ to_last_space (text ++ 32 ∷ rest)) [] (some_space text rest) ∙ ap (λ t. byte ∷ t) (to_last text rest none)

past_last : (text rest : List ℕ) → list_any is_space rest ≡ false → past_last_space (text ++ 32 ∷ rest) ≡ rest
past_last [] rest none = cond-false (list_any is_space rest) (past_last_space rest) rest none
past_last (byte ∷ text) rest none = cond-true (list_any is_space (text ++ 32 ∷ rest)) (past_last_space (text ++ 32 ∷ rest)) (text ++ 32 ∷ rest) (some_space text rest) ∙ past_last text rest none

abbrev without_cost : Bool → List ℕ → List ℕ
without_cost true text = to_last_space (to_last_space text)
without_cost false text = text

abbrev cost_in : Bool → List ℕ → ℕ
cost_in true text = digits_value 10 (past_last_space text)
cost_in false text = 0

cost_taken : (cost : Bool) (text : List ℕ) (ticks : ℕ) → IsWritten ticks → without_cost cost (text ++ cost_suffix cost ticks) ≡ text
cost_taken true text ticks small =
    ap (λ t. to_last_space (to_last_space t)) (sym (append_assoc text (32 ∷ 35 ∷ []) (32 ∷ decimal ticks)))
    ∙ ap to_last_space (to_last (text ++ 32 ∷ 35 ∷ []) (decimal ticks) (no_space_in_number ticks small)) ∙ to_last text (35 ∷ []) refl
cost_taken false text ticks small = append-nil text

cost_read : (cost : Bool) (text : List ℕ) (ticks : ℕ) → IsWritten ticks → cost_in cost (text ++ cost_suffix cost ticks) ≡ cond (cost && true) ticks 0
cost_read true text ticks small =
    ap (λ t. digits_value 10 (past_last_space t)) (sym (append_assoc text (32 ∷ 35 ∷ []) (32 ∷ decimal ticks)))
    ∙ ap (digits_value 10) (past_last (text ++ 32 ∷ 35 ∷ []) (decimal ticks) (no_space_in_number ticks small)) ∙ number_back ticks small
cost_read false text ticks small = refl

no_cost : (cost : Bool) (ticks : ℕ) → 0 ≡ cond (cost && false) ticks 0
no_cost true ticks = refl
no_cost false ticks = refl

suffix_is_line : (cost : Bool) (ticks : ℕ) → IsWritten ticks → IsOneLine (cost_suffix cost ticks)
suffix_is_line true ticks small = after_word (codes " # ") (decimal ticks) refl (number_is_line ticks small)
suffix_is_line false ticks small = no_bytes

-- Rows

abbrev row_line : Row → List ℕ
row_line row = codes "row " ++ row.0 ++ 32 ∷ row.1

abbrev is_row : List ℕ → Bool
is_row text = bytes_eq (take 4 text) (codes "row ")

abbrev to_space : List ℕ → List ℕ
to_space [] = []
to_space (byte ∷ bytes) = cond (is_space byte) [] (byte ∷ to_space bytes)

abbrev past_space : List ℕ → List ℕ
past_space [] = []
past_space (byte ∷ bytes) = cond (is_space byte) bytes (past_space bytes)

to_first : (text rest : List ℕ) → All (λ b. b ≢ 32) text → to_space (text ++ 32 ∷ rest) ≡ text
to_first [] rest all = refl
to_first (byte ∷ text) rest all =
    cond-false (is_space byte) [] (byte ∷ to_space (text ++ 32 ∷ rest)) (ne_eqb byte 32 (All-head (λ b. b ≢ 32) byte text all)) ∙ ap (λ t. byte ∷ t) (to_first text rest (All-tail (λ b. b ≢ 32) byte text all))

past_first : (text rest : List ℕ) → All (λ b. b ≢ 32) text → past_space (text ++ 32 ∷ rest) ≡ rest
past_first [] rest all = refl
past_first (byte ∷ text) rest all =
    cond-false (is_space byte) (text ++ 32 ∷ rest) (past_space (text ++ 32 ∷ rest)) (ne_eqb byte 32 (All-head (λ b. b ≢ 32) byte text all)) ∙ past_first text rest (All-tail (λ b. b ≢ 32) byte text all)

abbrev row_in : List ℕ → Row
row_in text = (to_space (drop 4 text), past_space (drop 4 text))

row_back : (row : Row) → IsRowLine row → row_in (row_line row) ≡ row
row_back row h = λ i. (to_first row.0 row.1 h.1 i, past_first row.0 row.1 h.1 i)

row_is_line : (row : Row) → IsRowLine row → IsOneLine (row_line row)
row_is_line row h = both_one_line (codes "row " ++ row.0) (32 ∷ row.1) (after_word (codes "row ") row.0 refl h.0) (after_word (32 ∷ []) row.1 refl h.2)

-- Lines of replies

abbrev answer_rows : Reply → List Row
answer_rows (Rows rows) = rows
answer_rows (Cut rows failure) = rows
answer_rows _ = []

abbrev last_line : Bool → ℕ → Reply → List ℕ
last_line cost ticks (Put outcome) = outcome_text outcome ++ outcome_suffix cost ticks outcome
last_line cost ticks (Deleted value) = value_text (codes "gone ") value ++ cost_suffix cost ticks
last_line cost ticks (Got value) = value_text (codes "val ") value ++ cost_suffix cost ticks
last_line cost ticks (Stamped stamp) = stamp_text stamp ++ cost_suffix cost ticks
last_line cost ticks (Rows rows) = codes "end " ++ decimal (length rows)
last_line cost ticks (Cut rows failure) = failure_text failure
last_line cost ticks (Counted keys) = codes "count " ++ decimal keys
last_line cost ticks (Failed failure) = failure_text failure
last_line cost ticks Closed = codes "closed"
last_line cost ticks (Opened keys) = codes "open " ++ decimal keys
last_line cost ticks (Refused refusal) = refusal_text refusal
last_line cost ticks Already = codes "already"
last_line cost ticks Shut = codes "shut"
last_line cost ticks Bad = codes "bad"

abbrev answer_lines : Bool → Turn → List (List ℕ)
answer_lines cost turn = map row_line (answer_rows turn.answer) ++ last_line cost turn.ticks turn.answer ∷ []

rows_then : (rows : List Row) (last : List ℕ) → rows_text rows ++ line last ≡ flat_map line (map row_line rows ++ last ∷ [])
rows_then [] last = sym (append-nil (line last))
rows_then (row ∷ rows) last = append_assoc (row_text row) (rows_text rows) (line last) ∙ ap (λ t. row_text row ++ t) (rows_then rows last)

text_of_lines : (cost : Bool) (ticks : ℕ) (answer : Reply) → reply_text cost ticks answer ≡ flat_map line (map row_line (answer_rows answer) ++ last_line cost ticks answer ∷ [])
text_of_lines cost ticks (Put outcome) = rows_then [] (last_line cost ticks (Put outcome))
text_of_lines cost ticks (Deleted value) = rows_then [] (last_line cost ticks (Deleted value))
text_of_lines cost ticks (Got value) = rows_then [] (last_line cost ticks (Got value))
text_of_lines cost ticks (Stamped stamp) = rows_then [] (last_line cost ticks (Stamped stamp))
text_of_lines cost ticks (Rows rows) = rows_then rows (last_line cost ticks (Rows rows))
text_of_lines cost ticks (Cut rows failure) = rows_then rows (failure_text failure)
text_of_lines cost ticks (Counted keys) = rows_then [] (last_line cost ticks (Counted keys))
text_of_lines cost ticks (Failed failure) = rows_then [] (failure_text failure)
text_of_lines cost ticks Closed = refl
text_of_lines cost ticks (Opened keys) = rows_then [] (last_line cost ticks (Opened keys))
text_of_lines cost ticks (Refused refusal) = rows_then [] (refusal_text refusal)
text_of_lines cost ticks Already = refl
text_of_lines cost ticks Shut = refl
text_of_lines cost ticks Bad = refl

text_of_all : (cost : Bool) (turns : List Turn) → turns_text cost turns ≡ flat_map line (flat_map (answer_lines cost) turns)
text_of_all cost [] = refl
text_of_all cost (turn ∷ turns) =
    (λ i. text_of_lines cost turn.ticks turn.answer i ++ text_of_all cost turns i) ∙ sym (flat_map-append line (answer_lines cost turn) (flat_map (answer_lines cost) turns))

outcome_is_line : (cost : Bool) (ticks : ℕ) (outcome : PutOutcome) → IsReadableOutcome outcome → IsWritten ticks → IsOneLine (outcome_text outcome ++ outcome_suffix cost ticks outcome)
outcome_is_line cost ticks New h small = after_word (codes "new") (cost_suffix cost ticks) refl (suffix_is_line cost ticks small)
outcome_is_line cost ticks (Old value) h small = both_one_line (codes "old " ++ value) (cost_suffix cost ticks) (after_word (codes "old ") value refl h) (suffix_is_line cost ticks small)
outcome_is_line cost ticks Full h small = one_line_by_test (codes "full") refl
outcome_is_line cost ticks Worn h small = one_line_by_test (codes "worn") refl
outcome_is_line cost ticks (Other stamp) h small = both_one_line (codes "other " ++ decimal stamp) (cost_suffix cost ticks) (after_word (codes "other ") (decimal stamp) refl (number_is_line stamp h)) (suffix_is_line cost ticks small)

failure_is_line : (failure : Failure) → IsReadableFailure failure → IsOneLine (failure_text failure)
failure_is_line Fault h = one_line_by_test (codes "fault") refl
failure_is_line (Damaged cell) h = after_word (codes "damaged ") (decimal cell) refl (number_is_line cell h)
failure_is_line (Overfull level) h = after_word (codes "overfull ") (decimal level) refl (number_is_line level h)

last_is_line : (cost : Bool) (ticks : ℕ) (answer : Reply) → IsReadable answer → IsWritten ticks → IsOneLine (last_line cost ticks answer)
last_is_line cost ticks (Put outcome) h small = outcome_is_line cost ticks outcome h small
last_is_line cost ticks (Deleted None) h small = after_word (codes "none") (cost_suffix cost ticks) refl (suffix_is_line cost ticks small)
last_is_line cost ticks (Deleted (Some value)) h small = both_one_line (codes "gone " ++ value) (cost_suffix cost ticks) (after_word (codes "gone ") value refl h) (suffix_is_line cost ticks small)
last_is_line cost ticks (Got None) h small = after_word (codes "none") (cost_suffix cost ticks) refl (suffix_is_line cost ticks small)
last_is_line cost ticks (Got (Some value)) h small = both_one_line (codes "val " ++ value) (cost_suffix cost ticks) (after_word (codes "val ") value refl h) (suffix_is_line cost ticks small)
last_is_line cost ticks (Stamped None) h small = after_word (codes "none") (cost_suffix cost ticks) refl (suffix_is_line cost ticks small)
last_is_line cost ticks (Stamped (Some stamp)) h small = both_one_line (codes "at " ++ decimal stamp) (cost_suffix cost ticks) (after_word (codes "at ") (decimal stamp) refl (number_is_line stamp h)) (suffix_is_line cost ticks small)
last_is_line cost ticks (Rows rows) h small = after_word (codes "end ") (decimal (length rows)) refl (number_is_line (length rows) h.1)
last_is_line cost ticks (Cut rows failure) h small = failure_is_line failure h.1
last_is_line cost ticks (Counted keys) h small = after_word (codes "count ") (decimal keys) refl (number_is_line keys h)
last_is_line cost ticks (Failed failure) h small = failure_is_line failure h
last_is_line cost ticks Closed h small = one_line_by_test (codes "closed") refl
last_is_line cost ticks (Opened keys) h small = after_word (codes "open ") (decimal keys) refl (number_is_line keys h)
last_is_line cost ticks (Refused NotStore) h small = one_line_by_test (codes "notstore") refl
last_is_line cost ticks (Refused NotClosed) h small = one_line_by_test (codes "notclosed") refl
last_is_line cost ticks (Refused Small) h small = one_line_by_test (codes "small") refl
last_is_line cost ticks (Refused Memory) h small = one_line_by_test (codes "memory") refl
last_is_line cost ticks Already h small = one_line_by_test (codes "already") refl
last_is_line cost ticks Shut h small = one_line_by_test (codes "shut") refl
last_is_line cost ticks Bad h small = one_line_by_test (codes "bad") refl

rows_of_readable : (answer : Reply) → IsReadable answer → All IsRowLine (answer_rows answer)
rows_of_readable (Rows rows) h = h.0
rows_of_readable (Cut rows failure) h = h.0
rows_of_readable _ h = All-nil IsRowLine

all_are_lines : (cost : Bool) (turns : List Turn) → All IsReadableTurn turns → All IsOneLine (flat_map (answer_lines cost) turns)
all_are_lines cost [] all = All-nil IsOneLine
all_are_lines cost (turn ∷ turns) all =
    let first = All-head IsReadableTurn turn turns all in
    let rows = All-map IsOneLine row_line (answer_rows turn.answer) (All-weaker IsRowLine (λ r. IsOneLine (row_line r)) row_is_line (answer_rows turn.answer) (rows_of_readable turn.answer first.0)) in
    let last = All-cons IsOneLine (last_line cost turn.ticks turn.answer) [] (last_is_line cost turn.ticks turn.answer first.0 first.1) (All-nil IsOneLine) in
    All-append IsOneLine (answer_lines cost turn) (flat_map (answer_lines cost) turns) (All-append IsOneLine (map row_line (answer_rows turn.answer)) (last_line cost turn.ticks turn.answer ∷ []) rows last) (all_are_lines cost turns (All-tail IsReadableTurn turn turns all))

-- Reading back

abbrev begins : List ℕ → List ℕ → Bool
begins word text = bytes_eq (take 4 text) word

abbrev cut_told : List Row → Failure → Reply
cut_told [] failure = Failed failure
cut_told (row ∷ rows) failure = Cut (row ∷ rows) failure

abbrev number_in : List ℕ → ℕ
number_in text = digits_value 10 text

-- a reply's last line, by the letters that it begins with, after its rows
abbrev read_line : Bool → List Row → List ℕ → Reply × ℕ
read_line cost rows text =
    cond (bytes_eq (take 3 text) (codes "new")) (Put New, cost_in cost text)
    (cond (begins (codes "old ") text) (Put (Old (without_cost cost (drop 4 text))), cost_in cost text)
    (cond (begins (codes "full") text) (Put Full, 0)
    (cond (begins (codes "worn") text) (Put Worn, 0)
    (cond (begins (codes "othe") text) (Put (Other (number_in (without_cost cost (drop 6 text)))), cost_in cost text)
    (cond (begins (codes "gone") text) (Deleted (Some (without_cost cost (drop 5 text))), cost_in cost text)
    (cond (begins (codes "none") text) (Got None, cost_in cost text)
    (cond (begins (codes "val ") text) (Got (Some (without_cost cost (drop 4 text))), cost_in cost text)
    (cond (bytes_eq (take 3 text) (codes "at ")) (Stamped (Some (number_in (without_cost cost (drop 3 text)))), cost_in cost text)
    (cond (begins (codes "end ") text) (Rows rows, 0)
    (cond (begins (codes "coun") text) (Counted (number_in (drop 6 text)), 0)
    (cond (begins (codes "faul") text) (cut_told rows Fault, 0)
    (cond (begins (codes "dama") text) (cut_told rows (Damaged (number_in (drop 8 text))), 0)
    (cond (begins (codes "over") text) (cut_told rows (Overfull (number_in (drop 9 text))), 0)
    (cond (begins (codes "clos") text) (Closed, 0)
    (cond (begins (codes "open") text) (Opened (number_in (drop 5 text)), 0)
    (cond (begins (codes "nots") text) (Refused NotStore, 0)
    (cond (begins (codes "notc") text) (Refused NotClosed, 0)
    (cond (begins (codes "smal") text) (Refused Small, 0)
    (cond (begins (codes "memo") text) (Refused Memory, 0)
    (cond (begins (codes "alre") text) (Already, 0)
    (cond (begins (codes "shut") text) (Shut, 0) (Bad, 0))))))))))))))))))))))

abbrev read_lines : Bool → List Row → List (List ℕ) → List (Reply × ℕ)
read_lines cost rows [] = []
read_lines cost rows (text ∷ texts) = cond (is_row text) (read_lines cost (rows ++ row_in text ∷ []) texts) (read_line cost rows text ∷ read_lines cost [] texts)

-- the last line of a reply is no row, and is read as what it tells
abbrev IsReadBack : Bool → ℕ → Reply → Type 0
IsReadBack cost ticks answer =
    (is_row (last_line cost ticks answer) ≡ false) × (read_line cost (answer_rows answer) (last_line cost ticks answer) ≡ (told answer, cond (cost && is_costed answer) ticks 0))

outcome_back : (cost : Bool) (ticks : ℕ) (outcome : PutOutcome) → IsReadableOutcome outcome → IsWritten ticks → IsReadBack cost ticks (Put outcome)
outcome_back true ticks New h small = (refl, ap (λ n. (Put New, n)) (cost_read true (codes "new") ticks small))
outcome_back false ticks New h small = (refl, refl)
outcome_back cost ticks (Old value) h small = (refl, λ i. (Put (Old (cost_taken cost value ticks small i)), cost_read cost (codes "old " ++ value) ticks small i))
outcome_back cost ticks Full h small = (refl, ap (λ n. (Put Full, n)) (no_cost cost ticks))
outcome_back cost ticks Worn h small = (refl, ap (λ n. (Put Worn, n)) (no_cost cost ticks))
outcome_back cost ticks (Other stamp) h small =
    (refl, λ i. (Put (Other ((ap number_in (cost_taken cost (decimal stamp) ticks small) ∙ number_back stamp h) i)), cost_read cost (codes "other " ++ decimal stamp) ticks small i))

none_back : (cost : Bool) (ticks : ℕ) → IsWritten ticks → (rows : List Row) → read_line cost rows (codes "none" ++ cost_suffix cost ticks) ≡ (Got None, cond (cost && true) ticks 0)
none_back true ticks small rows = ap (λ n. (Got None, n)) (cost_read true (codes "none") ticks small)
none_back false ticks small rows = refl

cut_back : (rows : List Row) (failure : Failure) → cut_told rows failure ≡ told (Cut rows failure)
cut_back [] failure = refl
cut_back (row ∷ rows) failure = refl

failure_back : (cost : Bool) (ticks : ℕ) (rows : List Row) (failure : Failure) → IsReadableFailure failure → (is_row (failure_text failure) ≡ false) × (read_line cost rows (failure_text failure) ≡ (cut_told rows failure, cond (cost && false) ticks 0))
failure_back cost ticks rows Fault h = (refl, ap (λ n. (cut_told rows Fault, n)) (no_cost cost ticks))
failure_back cost ticks rows (Damaged cell) h = (refl, λ i. (cut_told rows (Damaged (number_back cell h i)), no_cost cost ticks i))
failure_back cost ticks rows (Overfull level) h = (refl, λ i. (cut_told rows (Overfull (number_back level h i)), no_cost cost ticks i))

answer_back : (cost : Bool) (ticks : ℕ) (answer : Reply) → IsReadable answer → IsWritten ticks → IsReadBack cost ticks answer
answer_back cost ticks (Put outcome) h small = outcome_back cost ticks outcome h small
answer_back cost ticks (Deleted None) h small = (refl, none_back cost ticks small [])
answer_back cost ticks (Deleted (Some value)) h small = (refl, λ i. (Deleted (Some (cost_taken cost value ticks small i)), cost_read cost (codes "gone " ++ value) ticks small i))
answer_back cost ticks (Got None) h small = (refl, none_back cost ticks small [])
answer_back cost ticks (Got (Some value)) h small = (refl, λ i. (Got (Some (cost_taken cost value ticks small i)), cost_read cost (codes "val " ++ value) ticks small i))
answer_back cost ticks (Stamped None) h small = (refl, none_back cost ticks small [])
answer_back cost ticks (Stamped (Some stamp)) h small =
    (refl, λ i. (Stamped (Some ((ap number_in (cost_taken cost (decimal stamp) ticks small) ∙ number_back stamp h) i)), cost_read cost (codes "at " ++ decimal stamp) ticks small i))
answer_back cost ticks (Rows rows) h small = (refl, ap (λ n. (Rows rows, n)) (no_cost cost ticks))
answer_back cost ticks (Cut rows failure) h small = let back = failure_back cost ticks rows failure h.1 in (back.0, back.1 ∙ ap (λ r. (r, cond (cost && false) ticks 0)) (cut_back rows failure))
answer_back cost ticks (Counted keys) h small = (refl, λ i. (Counted (number_back keys h i), no_cost cost ticks i))
answer_back cost ticks (Failed failure) h small = failure_back cost ticks [] failure h
answer_back cost ticks Closed h small = (refl, ap (λ n. (Closed, n)) (no_cost cost ticks))
answer_back cost ticks (Opened keys) h small = (refl, λ i. (Opened (number_back keys h i), no_cost cost ticks i))
answer_back cost ticks (Refused NotStore) h small = (refl, ap (λ n. (Refused NotStore, n)) (no_cost cost ticks))
answer_back cost ticks (Refused NotClosed) h small = (refl, ap (λ n. (Refused NotClosed, n)) (no_cost cost ticks))
answer_back cost ticks (Refused Small) h small = (refl, ap (λ n. (Refused Small, n)) (no_cost cost ticks))
answer_back cost ticks (Refused Memory) h small = (refl, ap (λ n. (Refused Memory, n)) (no_cost cost ticks))
answer_back cost ticks Already h small = (refl, ap (λ n. (Already, n)) (no_cost cost ticks))
answer_back cost ticks Shut h small = (refl, ap (λ n. (Shut, n)) (no_cost cost ticks))
answer_back cost ticks Bad h small = (refl, ap (λ n. (Bad, n)) (no_cost cost ticks))

rows_back : (cost : Bool) (rows more : List Row) (last : List ℕ) (rest : List (List ℕ)) → All IsRowLine more → is_row last ≡ false
    → read_lines cost rows (map row_line more ++ last ∷ rest) ≡ read_line cost (rows ++ more) last ∷ read_lines cost [] rest
rows_back cost rows [] last rest all none =
    cond-false (is_row last) (read_lines cost (rows ++ row_in last ∷ []) rest) (read_line cost rows last ∷ read_lines cost [] rest) none
    ∙ ap (λ r. read_line cost r last ∷ read_lines cost [] rest) (sym (append-nil rows))
rows_back cost rows (row ∷ more) last rest all none =
    ap (λ r. read_lines cost (rows ++ r ∷ []) (map row_line more ++ last ∷ rest)) (row_back row (All-head IsRowLine row more all))
    ∙ rows_back cost (rows ++ row ∷ []) more last rest (All-tail IsRowLine row more all) none
    ∙ ap (λ r. read_line cost r last ∷ read_lines cost [] rest) (append_assoc rows (row ∷ []) more)

all_back : (cost : Bool) (turns : List Turn) → All IsReadableTurn turns → read_lines cost [] (flat_map (answer_lines cost) turns) ≡ map (told_turn cost) turns
all_back cost [] all = refl
all_back cost (turn ∷ turns) all =
    let first = All-head IsReadableTurn turn turns all in
    let back = answer_back cost turn.ticks turn.answer first.0 first.1 in
    ap (read_lines cost []) (append_assoc (map row_line (answer_rows turn.answer)) (last_line cost turn.ticks turn.answer ∷ []) (flat_map (answer_lines cost) turns))
    ∙ rows_back cost [] (answer_rows turn.answer) (last_line cost turn.ticks turn.answer) (flat_map (answer_lines cost) turns) (rows_of_readable turn.answer first.0) back.0
    ∙ (λ i. back.1 i ∷ all_back cost turns (All-tail IsReadableTurn turn turns all) i)

lines_back : (cost : Bool) (turns : List Turn) → All IsReadableTurn turns → raw_lines (turns_text cost turns) ≡ flat_map (answer_lines cost) turns
lines_back cost turns all = ap raw_lines (text_of_all cost turns) ∙ written_lines (flat_map (answer_lines cost) turns) (all_are_lines cost turns all)

-- two texts that are the same tell the same
pub told_by_texts : (cost : Bool) (turns others : List Turn) → All IsReadableTurn turns → All IsReadableTurn others → turns_text cost turns ≡ turns_text cost others → map (told_turn cost) turns ≡ map (told_turn cost) others
told_by_texts cost turns others all other_all same =
    sym (all_back cost turns all) ∙ ap (read_lines cost []) (sym (lines_back cost turns all) ∙ ap raw_lines same ∙ lines_back cost others other_all) ∙ all_back cost others other_all

-- And a text tells no more

outcome_told : (cost : Bool) (ticks : ℕ) (outcome : PutOutcome) → reply_text cost ticks (Put outcome) ≡ reply_text cost (cond (cost && is_costed (Put outcome)) ticks 0) (Put outcome)
outcome_told true ticks New = refl
outcome_told true ticks (Old value) = refl
outcome_told true ticks Full = refl
outcome_told true ticks Worn = refl
outcome_told true ticks (Other stamp) = refl
outcome_told false ticks New = refl
outcome_told false ticks (Old value) = refl
outcome_told false ticks Full = refl
outcome_told false ticks Worn = refl
outcome_told false ticks (Other stamp) = refl

text_of_told : (cost : Bool) (ticks : ℕ) (answer : Reply) → reply_text cost ticks answer ≡ reply_text cost (cond (cost && is_costed answer) ticks 0) (told answer)
text_of_told cost ticks (Put outcome) = outcome_told cost ticks outcome
text_of_told true ticks (Deleted None) = refl
text_of_told false ticks (Deleted None) = refl
text_of_told true ticks (Deleted (Some value)) = refl
text_of_told false ticks (Deleted (Some value)) = refl
text_of_told true ticks (Got value) = refl
text_of_told false ticks (Got value) = refl
text_of_told true ticks (Stamped None) = refl
text_of_told false ticks (Stamped None) = refl
text_of_told true ticks (Stamped (Some stamp)) = refl
text_of_told false ticks (Stamped (Some stamp)) = refl
text_of_told cost ticks (Cut [] failure) = refl
text_of_told cost ticks (Cut (row ∷ rows) failure) = refl
text_of_told cost ticks _ = refl

text_of_all_told : (cost : Bool) (turns : List Turn) → turns_text cost turns ≡ flat_map (λ tell. reply_text cost tell.1 tell.0) (map (told_turn cost) turns)
text_of_all_told cost [] = refl
text_of_all_told cost (turn ∷ turns) = λ i. text_of_told cost turn.ticks turn.answer i ++ text_of_all_told cost turns i

pub texts_by_told : (cost : Bool) (turns others : List Turn) → map (told_turn cost) turns ≡ map (told_turn cost) others → turns_text cost turns ≡ turns_text cost others
texts_by_told cost turns others same = text_of_all_told cost turns ∙ ap (flat_map (λ tell. reply_text cost tell.1 tell.0)) same ∙ sym (text_of_all_told cost others)

-- One reply

abbrev alone : ℕ → Reply → Turn
alone ticks answer = record { request = None; answer = answer; ticks = ticks }

abbrev first_told : List (Reply × ℕ) → Reply
first_told [] = Bad
first_told (tell ∷ tells) = tell.0

pub told_by_text : (cost : Bool) (ticks others : ℕ) (answer other : Reply) → IsReadable answer → IsWritten ticks → IsReadable other → IsWritten others → reply_text cost ticks answer ≡ reply_text cost others other → told answer ≡ told other
told_by_text cost ticks others answer other readable small other_readable other_small same =
    ap first_told (told_by_texts cost (alone ticks answer ∷ []) (alone others other ∷ []) (All-cons IsReadableTurn (alone ticks answer) [] (readable, small) (All-nil IsReadableTurn))
    (All-cons IsReadableTurn (alone others other) [] (other_readable, other_small) (All-nil IsReadableTurn)) (ap (λ text. text ++ []) same))
