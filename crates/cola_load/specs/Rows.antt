-- The rows of a list of lines, and the first line that breaks them.
use Rattle.std.specs.Prelude.{ℕ, ◌≡◌, ◌+◌, Bool, true, false, not, nat_eq, nat_le, ◌||◌, if◌then◌else◌, List, [], ◌∷◌, ◌++◌, length, Option, Some, None}
use Rattle.std.specs.List.{flat_map, list_any}
use Rattle.std.specs.Option.{option_or}
use Rattle.std.specs.Ordering.{is_le}
use Rattle.cola_spec.specs.Map.{Shape, key_cmp, is_key, is_value}
use Rattle.cola_spec.specs.Lines.{Line}
use Rattle.cola_load.specs.declared.said.Said.{Said}
use Rattle.cola_load.specs.declared.said.Said.TheVariants.{Nothing, Row, End, Other}
use Rattle.cola_load.specs.declared.answer.Word.{Word}
use Rattle.cola_load.specs.declared.answer.Word.TheVariants.{Bad, Order, Full}
use Rattle.cola_load.specs.Said.{said}

-- the row that is said, where one is
abbrev pub row_of : Said → List (List ℕ × List ℕ)
row_of Nothing = []
row_of (Row key value) = (key, value) ∷ []
row_of (End rows) = []
row_of Other = []

abbrev pub is_end : Said → Bool
is_end Nothing = false
is_end (Row key value) = false
is_end (End rows) = true
is_end Other = false

-- the rows that lines say, in order
abbrev pub rows_said : Shape → List Line → List (List ℕ × List ℕ)
rows_said shape lines = flat_map (λ line. row_of (said shape line)) lines

-- one of the lines is an end
abbrev pub has_end : Shape → List Line → Bool
has_end shape lines = list_any (λ line. is_end (said shape line)) lines

-- the key of the last row
abbrev pub last_key : List (List ℕ × List ℕ) → Option (List ℕ)
last_key [] = None
last_key (row ∷ []) = Some row.0
last_key (row ∷ next ∷ rows) = last_key (next ∷ rows)

-- what lines come to: how many there are, how many rows they say, the key of the last of these, and whether an end is among them
pub record Standing : Type 0 where
  pub lines : ℕ
  pub rows : ℕ
  pub last : Option (List ℕ)
  pub ended : Bool

abbrev pub standing : Shape → List Line → Standing
standing shape lines =
    record { lines = length lines; rows = length (rows_said shape lines); last = last_key (rows_said shape lines); ended = has_end shape lines }

-- what breaks the form: an end with another number of rows than stand before it, what is neither a row nor an end, and all but an empty line behind an end
abbrev pub is_bad : Standing → Said → Bool
is_bad before Nothing = false
is_bad before (Row key value) = before.ended
is_bad before (End rows) = before.ended || not (nat_eq rows before.rows)
is_bad before Other = true

-- a key that is not above the last one
abbrev pub is_not_above : Option (List ℕ) → List ℕ → Bool
is_not_above None key = false
is_not_above (Some last) key = is_le (key_cmp key last)

-- a row whose key is not above that of the row before
abbrev pub is_out_of_order : Standing → Said → Bool
is_out_of_order before Nothing = false
is_out_of_order before (Row key value) = is_not_above before.last key
is_out_of_order before (End rows) = false
is_out_of_order before Other = false

-- a row behind as many as there may be
abbrev pub is_too_many : ℕ → Standing → Said → Bool
is_too_many limit before Nothing = false
is_too_many limit before (Row key value) = nat_le limit before.rows
is_too_many limit before (End rows) = false
is_too_many limit before Other = false

-- the word of a line that says this behind lines that come to this: the first that applies, with the line's number
abbrev pub word_at : ℕ → Standing → Said → Option Word
word_at limit before says =
    if is_bad before says then Some (Bad (before.lines + 1))
    else if is_out_of_order before says then Some (Order (before.lines + 1))
    else if is_too_many limit before says then Some (Full (before.lines + 1))
    else None

-- the word of a line behind these lines
abbrev pub word_behind : Shape → List Line → Line → Option Word
word_behind shape before line = word_at shape.limit (standing shape before) (said shape line)

-- the first word of lines that stand behind others
abbrev pub first_word : Shape → List Line → List Line → Option Word
first_word shape before [] = None
first_word shape before (line ∷ lines) = option_or (word_behind shape before line) (first_word shape (before ++ line ∷ []) lines)

-- a line and those after it, where the line has no word
abbrev pub unless : Option Word → List Line → List Line
unless None lines = lines
unless (Some word) lines = []

-- of lines that stand behind others those before the first with a word
abbrev pub lines_before_word : Shape → List Line → List Line → List Line
lines_before_word shape before [] = []
lines_before_word shape before (line ∷ lines) = unless (word_behind shape before line) (line ∷ lines_before_word shape (before ++ line ∷ []) lines)

-- the word of a list of lines: that of the first line that has one
abbrev pub word_of : Shape → List Line → Option Word
word_of shape lines = first_word shape [] lines

-- the rows of a list of lines: those before the first line that has a word
abbrev pub rows_of : Shape → List Line → List (List ℕ × List ℕ)
rows_of shape lines = rows_said shape (lines_before_word shape [] lines)

-- the key and the value of a row are within the shape's limits
abbrev pub PairFits : Shape → List ℕ × List ℕ → Type 0
PairFits shape row = (is_key shape row.0 ≡ true) × (is_value shape row.1 ≡ true)
