-- The lines of a list of texts, for the plain slow program.
use Rattle.std.specs.Prelude.{ℕ, List, map, Option, option_copied}
use Rattle.std.specs.Borrow.{Bor}
use Rattle.cola_spec.specs.Lines.{Line}
use Rattle.cola_load.specs.Said.{as_line}

-- a line for each: of its text, or of none where it was too long
abbrev pub lines_of : List (Option (Bor (List ℕ))) → List Line
lines_of texts = map (λ text. as_line (option_copied text)) texts
