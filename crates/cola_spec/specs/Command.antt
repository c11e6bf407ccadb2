-- The command of a line.
use Rattle.std.specs.Prelude.{ℕ, Bool, nat_eq, nat_le, ◌&&◌, if◌then◌else◌, List, [], ◌∷◌, ◌++◌, length, Option, Some, None, bytes_eq, codes}
use Rattle.std.specs.List.{slice_split, list_any, list_all}
use Rattle.std.specs.Char.{is_ascii_digit}
use Rattle.std.specs.Str.Parse.{digits_value}
use Rattle.cola_spec.specs.Map.{Shape, is_key, is_value}
use Rattle.cola_spec.specs.Lines.{Line, Text, TooLong, line_of}

-- what a line may ask for
pub data Command : Type 0 where
  Put : List ℕ → List ℕ → Command
  PutIf : List ℕ → ℕ → List ℕ → Command
  Del : List ℕ → Command
  Get : List ℕ → Command
  Stamp : List ℕ → Command
  Range : List ℕ → List ℕ → Command
  Scan : List ℕ → ℕ → Command
  Count : Command
  Close : Command
  Reopen : Command

-- the words of a text: the parts between single spaces, of which some may be empty
abbrev pub words_of : List ℕ → List (List ℕ)
words_of text = slice_split (λ byte. nat_eq byte 32) text

-- a word of 1 to `most` decimal digits
abbrev pub is_number : ℕ → List ℕ → Bool
is_number most word = nat_le 1 (length word) && nat_le (length word) most && list_all is_ascii_digit word

-- the number that decimal digits spell
abbrev pub number_of : List ℕ → ℕ
number_of word = digits_value 10 word

abbrev pub when : Bool → Command → Option Command
when b command = if b then Some command else None

-- each verb with the words that follow it

abbrev pub put_of : Shape → List (List ℕ) → Option Command
put_of shape (key ∷ value ∷ []) = when (is_key shape key && is_value shape value) (Put key value)
put_of shape _ = None

abbrev pub put_if_of : Shape → List (List ℕ) → Option Command
put_if_of shape (key ∷ seen ∷ value ∷ []) =
    when (shape.stamped && is_key shape key && is_number 19 seen && is_value shape value) (PutIf key (number_of seen) value)
put_if_of shape _ = None

abbrev pub del_of : Shape → List (List ℕ) → Option Command
del_of shape (key ∷ []) = when (is_key shape key) (Del key)
del_of shape _ = None

abbrev pub get_of : Shape → List (List ℕ) → Option Command
get_of shape (key ∷ []) = when (is_key shape key) (Get key)
get_of shape _ = None

abbrev pub stamp_of : Shape → List (List ℕ) → Option Command
stamp_of shape (key ∷ []) = when (shape.stamped && is_key shape key) (Stamp key)
stamp_of shape _ = None

abbrev pub range_of : Shape → List (List ℕ) → Option Command
range_of shape (low ∷ high ∷ []) = when (is_key shape low && is_key shape high) (Range low high)
range_of shape _ = None

abbrev pub scan_of : Shape → List (List ℕ) → Option Command
scan_of shape (low ∷ most ∷ []) = when (is_key shape low && is_number 10 most) (Scan low (number_of most))
scan_of shape _ = None

-- a verb with nothing after it
abbrev pub alone : Command → List (List ℕ) → Option Command
alone command [] = Some command
alone command _ = None

-- the command of a verb and the words after it
abbrev pub verb_of : Shape → List ℕ → List (List ℕ) → Option Command
verb_of shape verb words =
    if bytes_eq verb (codes "put") then put_of shape words
    else if bytes_eq verb (codes "putif") then put_if_of shape words
    else if bytes_eq verb (codes "del") then del_of shape words
    else if bytes_eq verb (codes "get") then get_of shape words
    else if bytes_eq verb (codes "stamp") then stamp_of shape words
    else if bytes_eq verb (codes "range") then range_of shape words
    else if bytes_eq verb (codes "scan") then scan_of shape words
    else if bytes_eq verb (codes "count") then alone Count words
    else if bytes_eq verb (codes "close") then alone Close words
    else if bytes_eq verb (codes "open") then alone Reopen words
    else None

abbrev pub words_command : Shape → List (List ℕ) → Option Command
words_command shape [] = None
words_command shape (verb ∷ words) = verb_of shape verb words

-- the command of a text, in the shape's limits; none where the text has a NUL byte or is in no other way a command
abbrev pub command_of : Shape → List ℕ → Option Command
command_of shape text =
    if list_any (λ byte. nat_eq byte 0) text then None else words_command shape (words_of text)

-- what a line asks: nothing where it is empty, else one request, which is a command or none
abbrev pub text_requests : Shape → List ℕ → List (Option Command)
text_requests shape [] = []
text_requests shape (byte ∷ bytes) = command_of shape (byte ∷ bytes) ∷ []

abbrev pub line_requests : Shape → Line → List (Option Command)
line_requests shape (Text text) = text_requests shape text
line_requests shape TooLong = None ∷ []

-- what a list of lines asks, in order
abbrev pub requests : Shape → List (List ℕ) → List (Option Command)
requests shape [] = []
requests shape (raw ∷ raws) = line_requests shape (line_of raw) ++ requests shape raws
