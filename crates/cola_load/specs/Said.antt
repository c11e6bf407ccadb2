-- What a line says, whatever stands before it.
use Rattle.std.specs.Prelude.{ℕ, nat_eq, ◌&&◌, if◌then◌else◌, List, [], ◌∷◌, Option, Some, None, bytes_eq, codes}
use Rattle.std.specs.List.{list_any}
use Rattle.cola_cell.specs.declared.format.Format.{Format}
use Rattle.cola_cell.specs.Format.{KeyFits, ValueFits}
use Rattle.cola_spec.specs.Map.{Shape, is_key, is_value}
use Rattle.cola_spec.specs.Lines.{Line, Text, TooLong}
use Rattle.cola_spec.specs.Command.{words_of, is_number, number_of}
use Rattle.cola_load.specs.declared.said.Said.{Said}
use Rattle.cola_load.specs.declared.said.Said.TheVariants.{Nothing, Row, End, Other}

-- a line of which the text is given, or none where it was too long
abbrev pub as_line : Option (List ℕ) → Line
as_line None = TooLong
as_line (Some text) = Text text

-- a row of these two words, within the shape's limits
abbrev pub pair_said : Shape → List ℕ → List ℕ → Said
pair_said shape key value = if is_key shape key && is_value shape value then Row key value else Other

-- the words after `row`: a key and a value, of which the value may be empty
abbrev pub row_said : Shape → List (List ℕ) → Said
row_said shape (key ∷ value ∷ []) = pair_said shape key value
row_said shape _ = Other

-- the words after `end`: one, of 1 to 10 decimal digits
abbrev pub end_said : List (List ℕ) → Said
end_said (rows ∷ []) = if is_number 10 rows then End (number_of rows) else Other
end_said _ = Other

-- a verb and the words after it
abbrev pub verb_said : Shape → List ℕ → List (List ℕ) → Said
verb_said shape verb words =
    if bytes_eq verb (codes "row") then row_said shape words else if bytes_eq verb (codes "end") then end_said words else Other

abbrev pub words_said : Shape → List (List ℕ) → Said
words_said shape [] = Other
words_said shape (verb ∷ words) = verb_said shape verb words

-- what a text says that is not empty: neither a row nor an end where it has a NUL byte
abbrev pub text_said : Shape → List ℕ → Said
text_said shape text = if list_any (λ byte. nat_eq byte 0) text then Other else words_said shape (words_of text)

-- what a line says: nothing where it is empty, and neither a row nor an end where it is too long
abbrev pub said : Shape → Line → Said
said shape (Text []) = Nothing
said shape (Text (byte ∷ bytes)) = text_said shape (byte ∷ bytes)
said shape TooLong = Other

-- the key and the value of a row fit the format
abbrev pub SaidFits : Format → Said → Type 0
SaidFits format Nothing = Unit {0}
SaidFits format (Row key value) = KeyFits format key × ValueFits format value
SaidFits format (End rows) = Unit {0}
SaidFits format Other = Unit {0}
