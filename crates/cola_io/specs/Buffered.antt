-- What the buffer of a line reader holds.
use Rattle.std.specs.Prelude.{◌≡◌, ℕ, false, nat_le, if◌then◌else◌, List, [], All, length, Option, Some, None, replicate}
use Rattle.cola_spec.specs.Lines.{is_line_feed, line_limit}
use Rattle.cola_io.specs.declared.held.Held.{Held}
use Rattle.cola_io.specs.declared.held.Held.TheVariants.{Line, Part, Long}

-- no line feed is among the bytes
abbrev pub HasNoFeed : List ℕ → Type 0
HasNoFeed bytes = All (λ byte. is_line_feed byte ≡ false) bytes

-- bytes that stand for any beginning of a line that has more than 160 bytes already
unfoldable pub long_part : List ℕ
long_part = replicate 161 0

-- what is kept of a line that has not ended: its bytes, or where these are more than 160, other bytes in their place
abbrev pub kept_part : List ℕ → List ℕ
kept_part part = if nat_le (length part) line_limit then part else long_part

-- the text of the line just answered, what is kept of the next line, and the bytes behind it that were not looked at
pub record Buffered : Type 0 where
  pub line : Option (List ℕ)
  pub begun : List ℕ
  pub rest : List ℕ

-- the held bytes as a line's text
abbrev pub line_held : Held → List ℕ → Option (List ℕ)
line_held Line held = Some held
line_held Part held = None
line_held Long held = None

-- the held bytes as the beginning of a line
abbrev pub part_held : Held → List ℕ → List ℕ
part_held Line held = []
part_held Part held = held
part_held Long held = long_part
