-- The lines that calls of `next_line` answer, against those of the bytes that they took.
use Rattle.std.specs.Prelude.{◌≡◌, ℕ, ◌+◌, ◌<◌, ⊤, true, false, List, [], ◌∷◌, ◌++◌, length, map, Option, Some, None}
use Rattle.std.specs.List.{flat_map}
use Rattle.cola_spec.specs.Lines.{line_of, raw_lines, ended_lines}
use Rattle.cola_spec.specs.Lines as lines
use Rattle.cola_io.specs.Reading.{Reading, fresh}
use Rattle.cola_io.specs.NextLine.{NextLine}
use Rattle.cola_io.specs.declared.next.Next.{Next}
use Rattle.cola_io.specs.declared.next.Next.TheVariants.{Line, TooLong, End, Fault, Budget}

-- all lines of the bytes, as they are read
abbrev pub all_lines : List ℕ → List lines.Line
all_lines bytes = map line_of (raw_lines bytes)

-- the lines that a line feed ends, as they are read
abbrev pub all_ended_lines : List ℕ → List lines.Line
all_ended_lines bytes = map line_of (ended_lines bytes)

-- the line that an answer tells, with the text that the reader then holds
abbrev pub line_told : Next → Option (List ℕ) → List lines.Line
line_told Line (Some text) = lines.Text text ∷ []
line_told Line None = []
line_told TooLong text = lines.TooLong ∷ []
line_told End text = []
line_told Fault text = []
line_told Budget text = []

-- one call: the bytes that it took, its answer, and the reader after it
pub record Call : Type 0 where
  pub took : List ℕ
  pub answer : Next
  pub after : Reading

-- calls one after another
abbrev pub Calls : Reading → List Call → Reading → Type 0
Calls first [] last = last ≡ first
Calls first (call ∷ calls) last = NextLine first call.took call.answer call.after × Calls call.after calls last

-- the bytes that calls took
abbrev pub bytes_taken : List Call → List ℕ
bytes_taken calls = flat_map (λ call. call.took) calls

-- the lines that calls told
abbrev pub lines_told : List Call → List lines.Line
lines_told calls = flat_map (λ call. line_told call.answer call.after.line) calls

-- what an answer says of the lines told before it and all bytes taken: at the end they are all
-- lines of the bytes, at a fault or the budget those that a line feed ends
abbrev pub Tells : ℕ → List lines.Line → List ℕ → Next → Type 0
Tells limit told bytes Line = ⊤
Tells limit told bytes TooLong = ⊤
Tells limit told bytes End = (told ≡ all_lines bytes) × (length bytes < limit)
Tells limit told bytes Fault = told ≡ all_ended_lines bytes
Tells limit told bytes Budget = (told ≡ all_ended_lines bytes) × (length bytes ≡ limit)

-- whatever the calls of a reader were, a last one tells what became of all bytes that it took
abbrev pub LinesAreRead : ℕ → Type 0
LinesAreRead limit =
    (calls : List Call) (middle last : Reading) (took : List ℕ) (answer : Next) → Calls (fresh limit) calls middle → NextLine middle took answer last
    → Tells limit (lines_told calls) (bytes_taken calls ++ took) answer

-- a reader of so many bytes took these bytes and told these lines, and stands here now: with whatever
-- may come behind them, the lines of the bytes are those told, and then those of the bytes still pending
pub record HasRead (limit : ℕ) (bytes : List ℕ) (told : List lines.Line) (now : Reading) : Type 0 where
  pub counted : now.allowed + length bytes ≡ limit
  pub going : now.ended ≡ false → (more : List ℕ) → all_lines (bytes ++ more) ≡ told ++ all_lines (now.pending ++ more)
  pub going_ended : now.ended ≡ false → (more : List ℕ) → all_ended_lines (bytes ++ more) ≡ told ++ all_ended_lines (now.pending ++ more)
  pub nothing_left : now.ended ≡ true → now.pending ≡ []
  pub all_told : now.ended ≡ true → told ≡ all_lines bytes
