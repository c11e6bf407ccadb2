-- What the lines of this crate stand for.
use Rattle.std.specs.Prelude.{ℕ, List, map, Option, Some, None}
use Rattle.std.specs.Borrow.{Bor}
use Rattle.cola_spec.specs.Lines.{Line, Text, TooLong}

-- the texts behind references
abbrev pub texts : List (Bor (List ℕ)) → List (List ℕ)
texts parts = map (λ part. part.now) parts

-- a line by its text, if it has one
abbrev pub line_with : Option (List ℕ) → Line
line_with None = TooLong
line_with (Some text) = Text text
