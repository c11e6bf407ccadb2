-- Lines that say rows: judged one after another against the whole list, read by the plain slow program, sound, and printed.
use Rattle.std.proofs.Common.{◌≡◌, ℕ, Bool, true, false, ◌||◌, List, [], ◌∷◌, ◌++◌, length, Option, Some, None, refl, sym, ap, ◌∙◌, length-append, subst, suc, ◌+◌, ◌-◌, ◌<◌, take, get_or, option_map, option_copied, arith, ◌≤◌, All, nat_le, if◌then◌else◌, ◌⊎◌, inl, inr, ◌&&◌, nat_eq, bytes_eq, codes, ◌≢◌, ◌==◌}
use Rattle.std.proofs.Math.Bool.{or-false}
use Rattle.std.specs.List.{list_any, slice_get}
use Rattle.std.specs.Option.{option_or, MatchOption}
use Rattle.std.proofs.lemmas.Grind.{flat_map-append}
use Rattle.std.proofs.lemmas.List.Concat.{flat_map-cons}
use Rattle.std.proofs.lemmas.List.Folds.{list_any-append, list_any_none}
use Rattle.std.proofs.lemmas.List.{append-nil, append_assoc, map_more}
use Rattle.cola_cell.specs.declared.format.Format.{Format}
use Rattle.cola_shapes.specs.Shapes.{shape_of}
use Rattle.cola_spec.specs.Map.{Shape, key_cmp, is_key, is_value}
use Rattle.cola_spec.specs.Lines.{Line, Text, TooLong}
use Rattle.cola_load.specs.declared.said.Said.{Said}
use Rattle.cola_load.specs.declared.said.Said.TheVariants as saying
use Rattle.cola_load.specs.declared.answer.Word.{Word}
use Rattle.cola_load.specs.declared.answer.Word.TheVariants as word
use Rattle.cola_load.specs.declared.answer.RowLine.{RowLine}
use Rattle.cola_load.specs.Said.{said, as_line, words_said, row_said, pair_said, end_said, text_said}
use Rattle.cola_load.specs.Rows.{standing, rows_said, is_end, row_of, last_key, word_behind, first_word, lines_before_word, unless, has_end, is_not_above, word_at, PairFits}
use Rattle.cola_load.specs.Judged.{Judging, Judged, AllJudged, counted, key_after, settled, answer_of, given, telling, row_given, rows_given}
use Rattle.std.specs.Borrow.{Bor}
use Rattle.cola_load.specs.PlainLines.{lines_of}
use Rattle.std.specs.declared.cmp.Ordering.{Ordering}
use Rattle.std.specs.declared.cmp.Ordering.TheVariants.{Less, Greater}
use Rattle.std.specs.Ordering.{is_le}
use Rattle.std.specs.Cmp.Lexicographic.{nat_list_cmp_total}
use Rattle.std.proofs.lemmas.Bool.{leb-false, and_parts, and_from, le-leb, ne_eqb, cond-true, cond-false, eqb-false}
use Rattle.std.proofs.lemmas.List.Elements.{All-nil, All-push, All-weaker, All-get_or, All-cons, All-append}
use Rattle.std.proofs.lemmas.List.Quantifiers.{all_pairs_push}
use Rattle.cola_spec.specs.Laws.{Rises}
use Rattle.cola_spec.proofs.OrderLaws.{turned}
use Rattle.cola_spec.specs.Command.{words_of, is_number, number_of}
use Rattle.cola_load.specs.declared.said.Said.TheVariants.{Row, End, Other}
use Rattle.std.proofs.lemmas.List.Splits.{slice_split_none, slice_split_at}
use Rattle.cola_spec.specs.Spelling.{IsWord, IsKeyWord, IsValueWord}
use Rattle.cola_line.specs.Words.{only_two}

pub last_more : (rows : List (List ℕ × List ℕ)) (row : List ℕ × List ℕ) → last_key (rows ++ row ∷ []) ≡ Some row.0
last_more [] row = refl
last_more (first ∷ []) row = refl
last_more (first ∷ next ∷ rows) row = last_more (next ∷ rows) row

key_more : (rows : List (List ℕ × List ℕ)) (says : Said) → last_key (rows ++ row_of says) ≡ key_after (last_key rows) says
key_more rows (saying.Row key value) = last_more rows (key, value)
key_more rows says = ap last_key (append-nil rows)

pub rows_more : (shape : Shape) (lines : List Line) (line : Line) → rows_said shape (lines ++ line ∷ []) ≡ rows_said shape lines ++ row_of (said shape line)
rows_more shape lines line =
    flat_map-append (λ l. row_of (said shape l)) lines (line ∷ []) ∙ ap (λ r. rows_said shape lines ++ r) (flat_map-cons (λ l. row_of (said shape l)) line [] ∙ append-nil (row_of (said shape line)))

pub any_more : {A : Type 0} (p : A → Bool) (xs : List A) (x : A) → list_any p (xs ++ x ∷ []) ≡ (list_any p xs || p x)
any_more p xs x = list_any-append p xs (x ∷ []) ∙ ap (λ b. list_any p xs || b) (or-false (p x))

-- what lines come to with one more behind them
pub standing_more : (shape : Shape) (lines : List Line) (line : Line) → standing shape (lines ++ line ∷ []) ≡ counted (standing shape lines) (said shape line)
standing_more shape lines line = λ i. record {
  lines = length-append lines (line ∷ []) i;
  rows = (ap length (rows_more shape lines line) ∙ length-append (rows_said shape lines) (row_of (said shape line))) i;
  last = (ap last_key (rows_more shape lines line) ∙ key_more (rows_said shape lines) (said shape line)) i;
  ended = any_more (λ l. is_end (said shape l)) lines line i;
}

-- behind lines of which none had a word
abbrev pub behind : ℕ → Format → List Line → Judging
behind keys format before = record { keys = keys; format = format; before = standing (shape_of format keys) before; word = None }

-- what lines that were judged behind others come to
pub record Comes (keys : ℕ) (format : Format) (earlier lines : List Line) (answers : List RowLine) (new : Judging) : Type 0 where
  pub rows : rows_given answers ≡ rows_said (shape_of format keys) (lines_before_word (shape_of format keys) earlier lines)
  pub word : new.word ≡ first_word (shape_of format keys) earlier lines
  pub stands : new.before ≡ standing (shape_of format keys) (earlier ++ lines_before_word (shape_of format keys) earlier lines)

-- nothing is judged behind a word
no_more : (old : Judging) (found : Word) (lines : List Line) (answers : List RowLine) (new : Judging) → old.word ≡ Some found → AllJudged old lines answers new → (answers ≡ []) × (new ≡ old)
no_more old found [] [] new is all = (refl, all)
no_more old found (line ∷ lines) (answer ∷ answers) new is all = let none : old.word ≡ None = all.0 in cc
no_more old found lines answers new is all = absurd all

row_of_given : (says : Said) → row_given (given says) ≡ row_of says
row_of_given (saying.Row key value) = refl
row_of_given says = refl

row_of_telling : (found : Word) → row_given (telling found) ≡ []
row_of_telling (word.Bad line) = refl
row_of_telling found = refl

one_more : (keys : ℕ) (format : Format) (before : List Line) (line : Line) (lines : List Line) (answer : RowLine) (answers : List RowLine) (next new : Judging) (found : Option Word) →
    word_behind (shape_of format keys) before line ≡ found → answer ≡ answer_of found (said (shape_of format keys) line) → next ≡ settled found (behind keys format before) (said (shape_of format keys) line) →
    AllJudged next lines answers new → (next ≡ behind keys format (before ++ line ∷ []) → Comes keys format (before ++ line ∷ []) lines answers new) → Comes keys format before (line ∷ lines) (answer ∷ answers) new
one_more keys format before line lines answer answers next new None is answered after all more =
    let sh = shape_of format keys in
    let left = lines_before_word sh (before ++ line ∷ []) lines in
    let kept : lines_before_word sh before (line ∷ lines) ≡ line ∷ left = ap (λ w. unless w (line ∷ left)) is in
    let rest = more (after ∙ ap (λ s. record { keys = keys; format = format; before = s; word = None }) (sym (standing_more sh before line))) in
    record {
      rows =
          flat_map-cons row_given answer answers ∙ ap (λ r. r ++ rows_given answers) (ap row_given answered ∙ row_of_given (said sh line))
          ∙ ap (λ r. row_of (said sh line) ++ r) rest.rows
          ∙ sym (ap (rows_said sh) kept ∙ flat_map-cons (λ l. row_of (said sh l)) line left);
      word = rest.word ∙ sym (ap (λ w. option_or w (first_word sh (before ++ line ∷ []) lines)) is);
      stands = rest.stands ∙ ap (standing sh) (append_assoc before (line ∷ []) left ∙ ap (λ l. before ++ l) (sym kept));
    }
one_more keys format before line lines answer answers next new (Some found) is answered after all more =
    let sh = shape_of format keys in
    let left = lines_before_word sh (before ++ line ∷ []) lines in
    let kept : lines_before_word sh before (line ∷ lines) ≡ [] = ap (λ w. unless w (line ∷ left)) is in
    let ended = no_more next found lines answers new (ap (λ s. s.word) after) all in
    record {
      rows =
          flat_map-cons row_given answer answers ∙ ap (λ r. r ++ rows_given answers) (ap row_given answered ∙ row_of_telling found)
          ∙ ap rows_given ended.0 ∙ sym (ap (rows_said sh) kept);
      word = ap (λ s. s.word) (ended.1 ∙ after) ∙ sym (ap (λ w. option_or w (first_word sh (before ++ line ∷ []) lines)) is);
      stands = ap (λ s. s.before) (ended.1 ∙ after) ∙ ap (standing sh) (sym (ap (λ l. before ++ l) kept ∙ append-nil before));
    }

pub comes : (keys : ℕ) (format : Format) (before lines : List Line) (answers : List RowLine) (old new : Judging) → old ≡ behind keys format before → AllJudged old lines answers new → Comes keys format before lines answers new
comes keys format before [] [] old new is all = record {
  rows = refl;
  word = ap (λ s. s.word) (all ∙ is);
  stands = ap (λ s. s.before) (all ∙ is) ∙ ap (standing (shape_of format keys)) (sym (append-nil before));
}
comes keys format before (line ∷ lines) (answer ∷ answers) old new is all =
    let judged : Judged (behind keys format before) line answer all.1.0 = subst (λ o. Judged o line answer all.1.0) is all.1.1.0 in
    one_more keys format before line lines answer answers all.1.0 new (word_behind (shape_of format keys) before line) refl judged.answered judged.after all.1.1.1
    (λ next. comes keys format (before ++ line ∷ []) lines answers all.1.0 new next all.1.1.1)
comes keys format before lines answers old new is all = absurd all

-- ---- what the plain slow program has read of a list of lines

-- a text, or none
abbrev pub Given : Type 0
Given = Option (Bor (List ℕ))

-- ---- one line more

-- the text at an index
abbrev pub text_at : List Given → ℕ → Given
text_at texts at = get_or texts at None

lines-more : (texts : List Given) (at : ℕ) → at < length texts → lines_of (take (at + 1) texts) ≡ lines_of (take at texts) ++ as_line (option_copied (text_at texts at)) ∷ []
lines-more texts at within = map_more (λ (text : Given). as_line (option_copied text)) texts at None within

pub rows-more : (shape : Shape) (texts : List Given) (at : ℕ) → at < length texts →
    rows_said shape (lines_of (take (at + 1) texts)) ≡ rows_said shape (lines_of (take at texts)) ++ row_of (said shape (as_line (option_copied (text_at texts at))))
rows-more shape texts at within = ap (rows_said shape) (lines-more texts at within) ∙ rows_more shape (lines_of (take at texts)) (as_line (option_copied (text_at texts at)))

pub end-more : (shape : Shape) (texts : List Given) (at : ℕ) → at < length texts →
    has_end shape (lines_of (take (at + 1) texts)) ≡ (has_end shape (lines_of (take at texts)) || is_end (said shape (as_line (option_copied (text_at texts at)))))
end-more shape texts at within =
    ap (has_end shape) (lines-more texts at within) ∙ any_more (λ (l : Line). is_end (said shape l)) (lines_of (take at texts)) (as_line (option_copied (text_at texts at)))

-- the last of some rows
pub last-got : (rows : List (List ℕ × List ℕ)) → last_key rows ≡ option_map (λ (row : List ℕ × List ℕ). row.0) (slice_get rows (length rows - 1))
last-got [] = refl
last-got (row ∷ []) = refl
last-got (row ∷ next ∷ rows) =
    let here : length (next ∷ rows) ≡ length (row ∷ next ∷ rows) - 1 = omega arith in
    let below : length (next ∷ rows) - 1 ≡ length rows = omega arith in
    last-got (next ∷ rows)
    ∙ ap (λ (at : ℕ). option_map (λ (row : List ℕ × List ℕ). row.0) (slice_get (next ∷ rows) at)) below
    ∙ ap (λ (at : ℕ). option_map (λ (row : List ℕ × List ℕ). row.0) (slice_get (row ∷ next ∷ rows) at)) here

-- a line for each text
pub many-lines : (texts : List Given) → length (lines_of texts) ≡ length texts
many-lines [] = refl
many-lines (text ∷ texts) = ap suc (many-lines texts)

-- ---- the rows of a list rise, and are no more than there may be

-- the key of the row is this one, or below it
abbrev UpTo : List ℕ → List ℕ × List ℕ → Type 0
UpTo key row = (row.0 ≡ key) ⊎ (key_cmp row.0 key ≡ Less)

abbrev IsBelow : List ℕ → List ℕ × List ℕ → Type 0
IsBelow key row = key_cmp row.0 key ≡ Less

-- rows that rise, each with a key up to the last
pub record Sound (limit : ℕ) (rows : List (List ℕ × List ℕ)) : Type 0 where
  pub rises : Rises rows
  pub few : length rows ≤ limit
  pub up : MatchOption (last_key rows) (rows ≡ []) (λ last. All (UpTo last) rows)

not_le : (o : Ordering) → is_le o ≡ false → o ≡ Greater
not_le Greater h = refl
not_le o h = cc

-- a key that is above the last is above all
all_below : (limit : ℕ) (rows : List (List ℕ × List ℕ)) (key : List ℕ) → Sound limit rows → is_not_above (last_key rows) key ≡ false → All (IsBelow key) rows
all_below limit rows key sound higher =
    elim (last_key rows) as (λ k. MatchOption k (rows ≡ []) (λ last. All (UpTo last) rows) → is_not_above k key ≡ false → All (IsBelow key) rows) [
      | None ↦ λ none h. subst (All (IsBelow key)) (sym none) (All-nil (IsBelow key))
      | Some last ↦ λ up h.
          let less = (turned key last).0 (not_le (key_cmp key last) h) in
          All-weaker (UpTo last) (IsBelow key) (λ row up. elim up [ inl same ↦ rw same less | inr below ↦ nat_list_cmp_total.trans row.0 last key below less ]) rows up
    ] sound.up higher

push : (limit : ℕ) (rows : List (List ℕ × List ℕ)) (key value : List ℕ) → Sound limit rows → is_not_above (last_key rows) key ≡ false → nat_le limit (length rows) ≡ false → Sound limit (rows ++ (key, value) ∷ [])
push limit rows key value sound higher room =
    let below = all_below limit rows key sound higher in
    record {
      rises = all_pairs_push (λ a b. key_cmp a.0 b.0 ≡ Less) rows (key, value) sound.rises (λ k d within. All-get_or (IsBelow key) rows k d within below);
      few = omega (arith, leb-false limit (length rows) room, length-append rows ((key, value) ∷ []));
      up = rw (last_more rows (key, value)) (All-push (UpTo key) rows (key, value) (All-weaker (IsBelow key) (UpTo key) (λ row less. inr less) rows below) (inl refl));
    }

no_test : (a b c : Bool) (x y z : Word) → (if a then Some x else if b then Some y else if c then Some z else None) ≡ None → (b ≡ false) × (c ≡ false)
no_test false false false x y z none = (refl, refl)
no_test a b c x y z none = cc

one_said : (shape : Shape) (before : List Line) (says : Said) → word_at shape.limit (standing shape before) says ≡ None → Sound shape.limit (rows_said shape before) → Sound shape.limit (rows_said shape before ++ row_of says)
one_said shape before (saying.Row key value) none sound =
    let passed = no_test _ _ _ _ _ _ none in push shape.limit (rows_said shape before) key value sound passed.0 passed.1
one_said shape before says none sound = subst (Sound shape.limit) (sym (append-nil (rows_said shape before))) sound

-- lines without a word keep rows sound
pub sound_from : (shape : Shape) (before lines : List Line) → Sound shape.limit (rows_said shape before) → Sound shape.limit (rows_said shape (before ++ lines_before_word shape before lines))
sound_from shape before [] sound = subst (λ l. Sound shape.limit (rows_said shape l)) (sym (append-nil before)) sound
sound_from shape before (line ∷ lines) sound =
    let left = lines_before_word shape (before ++ line ∷ []) lines in
    elim (word_behind shape before line) as (λ w. word_behind shape before line ≡ w → Sound shape.limit (rows_said shape (before ++ unless w (line ∷ left)))) [
      | None ↦ λ none. subst (λ l. Sound shape.limit (rows_said shape l)) (append_assoc before (line ∷ []) left)
          (sound_from shape (before ++ line ∷ []) lines (subst (Sound shape.limit) (sym (rows_more shape before line)) (one_said shape before (said shape line) none sound)))
      | Some found ↦ λ some. subst (λ l. Sound shape.limit (rows_said shape l)) (sym (append-nil before)) sound
    ] refl

-- the rows of a list are sound
pub sound_rows : (shape : Shape) (lines : List Line) → Sound shape.limit (rows_said shape (lines_before_word shape [] lines))
sound_rows shape lines = sound_from shape [] lines (record { rises = λ i j d before within. absurd (omega (arith, within)); few = omega arith; up = refl })

-- ---- the rows that lines say fit the shape

abbrev Fit : Shape → Said → Type 0
Fit shape says = All (PairFits shape) (row_of says)

pair_fits : (shape : Shape) (key value : List ℕ) → Fit shape (pair_said shape key value)
pair_fits shape key value =
    elim (is_key shape key && is_value shape value) as (λ t. (is_key shape key && is_value shape value) ≡ t → Fit shape (if t then Row key value else Other)) [
      | true ↦ λ both. All-cons (PairFits shape) (key, value) [] (and_parts (is_key shape key) (is_value shape value) both) (All-nil (PairFits shape))
      | false ↦ λ _. All-nil (PairFits shape)
    ] refl

row_fits : (shape : Shape) (words : List (List ℕ)) → Fit shape (row_said shape words)
row_fits shape (key ∷ value ∷ []) = pair_fits shape key value
row_fits shape words = All-nil (PairFits shape)

if_fits : (shape : Shape) (t : Bool) (first second : Said) → Fit shape first → Fit shape second → Fit shape (if t then first else second)
if_fits shape true first second one other = one
if_fits shape false first second one other = other

end_fits : (shape : Shape) (words : List (List ℕ)) → Fit shape (end_said words)
end_fits shape (word ∷ []) = if_fits shape (is_number 10 word) (End (number_of word)) Other (All-nil (PairFits shape)) (All-nil (PairFits shape))
end_fits shape words = All-nil (PairFits shape)

words_fit : (shape : Shape) (words : List (List ℕ)) → Fit shape (words_said shape words)
words_fit shape [] = All-nil (PairFits shape)
words_fit shape (verb ∷ words) =
    if_fits shape (bytes_eq verb (codes "row")) (row_said shape words) (if bytes_eq verb (codes "end") then end_said words else Other) (row_fits shape words)
    (if_fits shape (bytes_eq verb (codes "end")) (end_said words) Other (end_fits shape words) (All-nil (PairFits shape)))

line_fits : (shape : Shape) (line : Line) → Fit shape (said shape line)
line_fits shape (Text []) = All-nil (PairFits shape)
line_fits shape (Text (byte ∷ bytes)) =
    if_fits shape (list_any (λ b. nat_eq b 0) (byte ∷ bytes)) Other (words_said shape (words_of (byte ∷ bytes))) (All-nil (PairFits shape)) (words_fit shape (words_of (byte ∷ bytes)))
line_fits shape TooLong = All-nil (PairFits shape)

-- the rows that lines say fit the shape
pub rows_fit : (shape : Shape) (lines : List Line) → All (PairFits shape) (rows_said shape lines)
rows_fit shape [] = All-nil (PairFits shape)
rows_fit shape (line ∷ lines) =
    subst (All (PairFits shape)) (sym (flat_map-cons (λ l. row_of (said shape l)) line lines))
    (All-append (PairFits shape) (row_of (said shape line)) (rows_said shape lines) (line_fits shape line) (rows_fit shape lines))

-- ---- the lines that rows are printed as

abbrev is_zero : ℕ → Bool
is_zero byte = nat_eq byte 0

abbrev is_space : ℕ → Bool
is_space byte = nat_eq byte 32

no_zero : (word : List ℕ) → IsWord word → list_any is_zero word ≡ false
no_zero word good = list_any_none is_zero word (All-weaker (λ b. (b ≢ 0) × (b ≢ 32)) (λ b. is_zero b ≡ false) (λ b h. ne_eqb b 0 h.0) word good)

no_space : (word : List ℕ) → IsWord word → All (λ b. is_space b ≡ false) word
no_space word good = All-weaker (λ b. (b ≢ 0) × (b ≢ 32)) (λ b. is_space b ≡ false) (λ b h. ne_eqb b 32 h.1) word good

-- a key and a value with a space between them
abbrev pair_text : List ℕ → List ℕ → List ℕ
pair_text key value = key ++ 32 ∷ value

pair_has_no_zero : (key value : List ℕ) → IsWord key → IsWord value → list_any is_zero (pair_text key value) ≡ false
pair_has_no_zero key value first second = list_any-append is_zero key (32 ∷ value) ∙ simp (no_zero key first, no_zero value second)

pair_words : (key value : List ℕ) → IsWord key → IsWord value → words_of (pair_text key value) ≡ key ∷ value ∷ []
pair_words key value first second =
    slice_split_at is_space key 32 value (no_space key first) refl ∙ ap (λ rest. key ∷ rest) (slice_split_none is_space value (no_space value second))

key_tested : (shape : Shape) (key : List ℕ) → IsKeyWord shape key → is_key shape key ≡ true
key_tested shape key h = and_from (nat_le 1 (length key)) (nat_le (length key) shape.key_limit) (le-leb 1 (length key) h.1) (le-leb (length key) shape.key_limit h.2)

-- the line that a row is printed as is that row
pub a_printed_row : (shape : Shape) (key value : List ℕ) → IsKeyWord shape key → IsValueWord shape value → said shape (Text (codes "row " ++ key ++ 32 ∷ value)) ≡ Row key value
a_printed_row shape key value first second =
    cond-false (list_any is_zero (codes "row " ++ pair_text key value)) Other (words_said shape (words_of (codes "row " ++ pair_text key value))) (pair_has_no_zero key value first.0 second.0)
    ∙ (ap (λ words. words_said shape (codes "row" ∷ words)) (pair_words key value first.0 second.0)
    ∙ cond-true (is_key shape key && is_value shape value) (Row key value) Other (and_from (is_key shape key) (is_value shape value) (key_tested shape key first) (le-leb (length value) shape.value_limit second.1)))

-- ---- what a line says, as its words are taken and tested one by one

-- a word that is there where its test passes
abbrev pub tested : Bool → List ℕ → Option (List ℕ)
tested b word = if b then Some word else None

abbrev paired : Option (List ℕ) → Option (List ℕ) → Said
paired None value = Other
paired (Some key) None = Other
paired (Some key) (Some value) = Row key value

tests_pair : (a b : Bool) (key value : List ℕ) → (if a && b then Row key value else Other) ≡ paired (tested a key) (tested b value)
tests_pair true true key value = refl
tests_pair a b key value = refl

-- a row of words by what testing the two gave
pub pair_tested : (shape : Shape) (key value : List ℕ) (k v : Option (List ℕ)) → k ≡ tested (is_key shape key) key → v ≡ tested (is_value shape value) value → paired k v ≡ pair_said shape key value
pair_tested shape key value k v first second = (λ i. paired (first i) (second i)) ∙ sym (tests_pair (is_key shape key) (is_value shape value) key value)

abbrev pub pair_in : Shape → Option (List ℕ × List ℕ) → Said
pair_in shape None = Other
pair_in shape (Some words) = pair_said shape words.0 words.1

-- a row says what its only two words say
pub row_taken : (shape : Shape) (words : List (List ℕ)) → row_said shape words ≡ pair_in shape (only_two words)
row_taken shape (key ∷ value ∷ []) = refl
row_taken shape words = refl

-- a text that is not empty
pub some_said : (shape : Shape) (text : List ℕ) → (length text == 0) ≡ false → text_said shape text ≡ said shape (Text text)
some_said shape [] some = absurd (eqb-false 0 0 some refl)
some_said shape (byte ∷ bytes) some = refl
