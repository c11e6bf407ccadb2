-- Lines judged one after another.
use Rattle.std.specs.Prelude.{ℕ, ◌≡◌, ◌+◌, ◌||◌, false, List, [], ◌∷◌, length, Option, Some, None}
use Rattle.std.specs.List.{flat_map}
use Rattle.cola_cell.specs.declared.format.Format.{Format}
use Rattle.cola_cell.specs.Format.{KeyFits, ValueFits}
use Rattle.cola_shapes.specs.Shapes.{shape_of}
use Rattle.cola_spec.specs.Map.{Shape}
use Rattle.cola_spec.specs.Lines.{Line}
use Rattle.cola_load.specs.declared.said.Said.{Said}
use Rattle.cola_load.specs.declared.said.Said.TheVariants as saying
use Rattle.cola_load.specs.declared.answer.Word.{Word}
use Rattle.cola_load.specs.declared.answer.Word.TheVariants as word
use Rattle.cola_load.specs.declared.answer.RowLine.{RowLine}
use Rattle.cola_load.specs.declared.answer.RowLine.TheVariants.{Row, Nothing, Bad, Order, Full}
use Rattle.cola_load.specs.Said.{said}
use Rattle.cola_load.specs.Rows.{Standing, word_at, is_end, row_of}

-- for how many keys and in which format rows are judged, what the lines before the first word come to, and that word
pub record Judging : Type 0 where
  pub keys : ℕ
  pub format : Format
  pub before : Standing
  pub word : Option Word

-- what no line comes to
abbrev pub no_lines : Standing
no_lines = record { lines = 0; rows = 0; last = None; ended = false }

-- before the first line
abbrev pub start : ℕ → Format → Judging
start keys format = record { keys = keys; format = format; before = no_lines; word = None }

-- the limits of the rows
abbrev pub shape : Judging → Shape
shape state = shape_of state.format state.keys

-- the last key once this is said
abbrev pub key_after : Option (List ℕ) → Said → Option (List ℕ)
key_after last saying.Nothing = last
key_after last (saying.Row key value) = Some key
key_after last (saying.End rows) = last
key_after last saying.Other = last

-- what lines come to with one more, that says this
abbrev pub counted : Standing → Said → Standing
counted before says =
    record { lines = before.lines + 1; rows = before.rows + length (row_of says); last = key_after before.last says; ended = before.ended || is_end says }

-- the state after a line that says this and has this word, if any
abbrev pub settled : Option Word → Judging → Said → Judging
settled None state says = record { keys = state.keys; format = state.format; before = counted state.before says; word = None }
settled (Some word) state says = record { keys = state.keys; format = state.format; before = state.before; word = Some word }

-- the answer to a line that has no word
abbrev pub given : Said → RowLine
given saying.Nothing = Nothing
given (saying.Row key value) = Row key value
given (saying.End rows) = Nothing
given saying.Other = Nothing

-- the answer that tells a word
abbrev pub telling : Word → RowLine
telling (word.Bad line) = Bad line
telling (word.Order line) = Order line
telling (word.Full line) = Full line

-- the answer to a line that says this and has this word, if any
abbrev pub answer_of : Option Word → Said → RowLine
answer_of None says = given says
answer_of (Some word) says = telling word

-- the word of a line that comes next
abbrev pub word_next : Judging → Line → Option Word
word_next state line = word_at state.keys state.before (said (shape state) line)

-- a line was judged: its word, or else its row, is answered, and the state counts it or keeps the word
pub record Judged (old : Judging) (line : Line) (answer : RowLine) (new : Judging) : Type 0 where
  pub answered : answer ≡ answer_of (word_next old line) (said (shape old) line)
  pub after : new ≡ settled (word_next old line) old (said (shape old) line)

-- lines were judged one after another, each where none before it had a word
abbrev pub AllJudged : Judging → List Line → List RowLine → Judging → Type 0
AllJudged old [] [] new = new ≡ old
AllJudged old [] (answer ∷ answers) new = ⊥
AllJudged old (line ∷ lines) [] new = ⊥
AllJudged old (line ∷ lines) (answer ∷ answers) new =
    (old.word ≡ None) × ((next : Judging) × (Judged old line answer next × AllJudged next lines answers new))

-- the row that an answer gives, where it gives one
abbrev pub row_given : RowLine → List (List ℕ × List ℕ)
row_given (Row key value) = (key, value) ∷ []
row_given Nothing = []
row_given (Bad line) = []
row_given (Order line) = []
row_given (Full line) = []

-- the rows that answers give, in order
abbrev pub rows_given : List RowLine → List (List ℕ × List ℕ)
rows_given answers = flat_map row_given answers

-- the key and the value of a row fit the format
abbrev pub AnswerFits : Format → RowLine → Type 0
AnswerFits format (Row key value) = KeyFits format key × ValueFits format value
AnswerFits format Nothing = Unit {0}
AnswerFits format (Bad line) = Unit {0}
AnswerFits format (Order line) = Unit {0}
AnswerFits format (Full line) = Unit {0}
