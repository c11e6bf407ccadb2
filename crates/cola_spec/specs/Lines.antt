-- The lines of a list of bytes.
use Rattle.std.specs.Prelude.{ℕ, Bool, nat_eq, nat_le, if◌then◌else◌, List, [], ◌∷◌, length}
use Rattle.std.specs.List.{slice_split}

-- a line feed
abbrev pub is_line_feed : ℕ → Bool
is_line_feed byte = nat_eq byte 10

-- the most bytes before the end of a line that may hold a command
abbrev pub line_limit : ℕ
line_limit = 160

-- all parts but the last
abbrev pub all_but_last : List (List ℕ) → List (List ℕ)
all_but_last [] = []
all_but_last (part ∷ []) = []
all_but_last (part ∷ next ∷ parts) = part ∷ all_but_last (next ∷ parts)

-- all parts, without the last where it is empty
abbrev pub without_empty_last : List (List ℕ) → List (List ℕ)
without_empty_last [] = []
without_empty_last ([] ∷ []) = []
without_empty_last ((byte ∷ bytes) ∷ []) = (byte ∷ bytes) ∷ []
without_empty_last (part ∷ next ∷ parts) = part ∷ without_empty_last (next ∷ parts)

-- the lines that a line feed ends, without it
abbrev pub ended_lines : List ℕ → List (List ℕ)
ended_lines bytes = all_but_last (slice_split is_line_feed bytes)

-- all lines: those that a line feed ends, and what follows the last line feed where that is not empty
abbrev pub raw_lines : List ℕ → List (List ℕ)
raw_lines bytes = without_empty_last (slice_split is_line_feed bytes)

-- a line without one carriage return at its end
abbrev pub without_return : List ℕ → List ℕ
without_return [] = []
without_return (byte ∷ []) = if nat_eq byte 13 then [] else byte ∷ []
without_return (byte ∷ next ∷ bytes) = byte ∷ without_return (next ∷ bytes)

-- what a line is read as: its text, or nothing where it has too many bytes before its end
pub data Line : Type 0 where
  Text : List ℕ → Line
  TooLong : Line

-- how a line is read
abbrev pub line_of : List ℕ → Line
line_of raw = if nat_le (length raw) line_limit then Text (without_return raw) else TooLong
