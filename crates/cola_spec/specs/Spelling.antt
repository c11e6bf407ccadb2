-- The grammar of commands: which texts spell one, and the text that asks it.
use Rattle.std.specs.Prelude.{ℕ, ◌≡◌, ◌≢◌, ◌≤◌, ◌<◌, ◌^◌, true, List, [], ◌∷◌, ◌++◌, length, All, codes, decimal}
use Rattle.std.specs.List.{flat_map}
use Rattle.std.specs.Int.{IsInRange}
use Rattle.std.specs.Str.Parse.{digits_value}
use Rattle.cola_spec.specs.Map.{Shape}
use Rattle.cola_spec.specs.Command.{Command, Put, PutIf, Del, Get, Stamp, Range, Scan, Count, Close, Reopen}
use Rattle.cola_spec.specs.Reply.{line}

-- a part of a command: without a NUL byte and without a space
abbrev pub IsWord : List ℕ → Type 0
IsWord word = All (λ byte. (byte ≢ 0) × (byte ≢ 32)) word

-- a word of 1 to as many bytes as a key may have
abbrev pub IsKeyWord : Shape → List ℕ → Type 0
IsKeyWord shape key = IsWord key × (1 ≤ length key) × (length key ≤ shape.key_limit)

-- a word of at most as many bytes as a value may have
abbrev pub IsValueWord : Shape → List ℕ → Type 0
IsValueWord shape value = IsWord value × (length value ≤ shape.value_limit)

-- 1 to `most` decimal digits, with zeros in front or without, that spell the number
abbrev pub IsNumberWord : ℕ → ℕ → List ℕ → Type 0
IsNumberWord most number digits = All (IsInRange 48 57) digits × (1 ≤ length digits) × (length digits ≤ most) × (digits_value 10 digits ≡ number)

-- the text spells the command: its verb and its words, with one space between each two
abbrev pub Spells : Shape → Command → List ℕ → Type 0
Spells shape (Put key value) text = (text ≡ codes "put " ++ key ++ 32 ∷ value) × IsKeyWord shape key × IsValueWord shape value
Spells shape (PutIf key seen value) text =
    (digits : List ℕ) × (text ≡ codes "putif " ++ key ++ 32 ∷ (digits ++ 32 ∷ value)) × (shape.stamped ≡ true) × IsKeyWord shape key
    × IsNumberWord 19 seen digits × IsValueWord shape value
Spells shape (Del key) text = (text ≡ codes "del " ++ key) × IsKeyWord shape key
Spells shape (Get key) text = (text ≡ codes "get " ++ key) × IsKeyWord shape key
Spells shape (Stamp key) text = (text ≡ codes "stamp " ++ key) × (shape.stamped ≡ true) × IsKeyWord shape key
Spells shape (Range low high) text = (text ≡ codes "range " ++ low ++ 32 ∷ high) × IsKeyWord shape low × IsKeyWord shape high
Spells shape (Scan low most) text = (digits : List ℕ) × (text ≡ codes "scan " ++ low ++ 32 ∷ digits) × IsKeyWord shape low × IsNumberWord 10 most digits
Spells shape Count text = text ≡ codes "count"
Spells shape Close text = text ≡ codes "close"
Spells shape Reopen text = text ≡ codes "open"

-- a command that a line can ask: its keys and values are words of the shape, and its number has 19 or 10 digits at most
abbrev pub IsAskable : Shape → Command → Type 0
IsAskable shape (Put key value) = IsKeyWord shape key × IsValueWord shape value
IsAskable shape (PutIf key seen value) = (shape.stamped ≡ true) × IsKeyWord shape key × (seen < 10 ^ 19) × IsValueWord shape value
IsAskable shape (Del key) = IsKeyWord shape key
IsAskable shape (Get key) = IsKeyWord shape key
IsAskable shape (Stamp key) = (shape.stamped ≡ true) × IsKeyWord shape key
IsAskable shape (Range low high) = IsKeyWord shape low × IsKeyWord shape high
IsAskable shape (Scan low most) = IsKeyWord shape low × (most < 10 ^ 10)
IsAskable shape Count = Unit {0}
IsAskable shape Close = Unit {0}
IsAskable shape Reopen = Unit {0}

-- the text that asks a command, with its number as decimal digits without zeros in front
abbrev pub command_text : Command → List ℕ
command_text (Put key value) = codes "put " ++ key ++ 32 ∷ value
command_text (PutIf key seen value) = codes "putif " ++ key ++ 32 ∷ (decimal seen ++ 32 ∷ value)
command_text (Del key) = codes "del " ++ key
command_text (Get key) = codes "get " ++ key
command_text (Stamp key) = codes "stamp " ++ key
command_text (Range low high) = codes "range " ++ low ++ 32 ∷ high
command_text (Scan low most) = codes "scan " ++ low ++ 32 ∷ decimal most
command_text Count = codes "count"
command_text Close = codes "close"
command_text Reopen = codes "open"

-- no byte is a line feed
abbrev pub IsOneLine : List ℕ → Type 0
IsOneLine text = All (λ byte. byte ≢ 10) text

-- the line that asks a command, ended by a carriage return and a line feed: so a text that
-- itself ends in a carriage return keeps it
abbrev pub command_line : Command → List ℕ
command_line command = line (command_text command ++ 13 ∷ [])

-- the lines that ask commands, in order
abbrev pub command_lines : List Command → List ℕ
command_lines commands = flat_map command_line commands
