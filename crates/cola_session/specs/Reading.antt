-- Which reads of its source a session makes, and which lines it has of them.
use Rattle.std.specs.Prelude.{ℕ, ◌≡◌, ◌≤◌, ◌^◌, ◌⊎◌, true, List, ◌++◌, length, Option, Some, None, IsSome, ⊤}
use Rattle.std.specs.Io.KnownBytes.{IsAtEnd}
use Rattle.cola_io.specs.Streams.{Taken}
use Rattle.cola_io.specs.Reads.{Read, bytes_read, WasRead, AreDue, met_end}
use Rattle.cola_io.specs.declared.source.Source as source
use Rattle.cola_io.specs.declared.next.Next.{Next}
use Rattle.cola_io.specs.declared.next.Next.TheVariants as next
use Rattle.cola_io.specs.Law.{all_lines, all_ended_lines}
use Rattle.cola_spec.specs.Lines.{Line, Text, TooLong}

-- the most bytes of input
abbrev pub input_limit : ℕ
input_limit = 2 ^ 40

-- the line that was read: its text, or none where it was too long
abbrev pub line_read : Option (List ℕ) → Line
line_read None = TooLong
line_read (Some text) = Text text

-- a reader that answered so holds a line's text, or had a line that was too long
abbrev pub HoldsLine : Next → Option (List ℕ) → Type 0
HoldsLine next.Line held = IsSome held
HoldsLine next.TooLong held = ⊤
HoldsLine next.End held = ⊥
HoldsLine next.Fault held = ⊥
HoldsLine next.Budget held = ⊥

-- each line that a line feed ends within the bytes was answered
abbrev pub AllAnswered : List Line → List ℕ → Type 0
AllAnswered answered bytes = length (all_ended_lines bytes) ≤ length answered

-- the source was read for lines, of which these were answered: no read came where a line that had ended was not answered, none behind a refused one, none behind the end, and none for more than the limit
pub record ReadFor {S : Type 0} (g : source.Ghosts S) (answered : List Line) (source : S) (reads : List Read) (source' : S) : Type 0 where
  pub was_read : WasRead g source reads source'
  pub due : AreDue (AllAnswered answered) input_limit reads
  pub took : Taken (bytes_read reads) (g.left source) (g.left source')
  pub at_end : met_end reads ≡ true → IsAtEnd (g.left source')

-- these are first lines of the bytes taken, each of which a line feed ends, or all of their lines at the end of the source
abbrev pub AreFirstLines : List Line → List Read → Type 0
AreFirstLines lines reads = ((rest : List Line) × (lines ++ rest ≡ all_ended_lines (bytes_read reads))) ⊎ ((met_end reads ≡ true) × (lines ≡ all_lines (bytes_read reads)))
