-- What the protocol of checkpoints sees of a journal: the places of the file that its pieces have, and their bytes.
use Rattle.std.specs.Prelude.{ℕ, ◌+◌, ◌-◌, ◌==◌, nat_lt, not, Bool, false, ◌&&◌, ◌||◌, if◌then◌else◌, List, [], ◌∷◌, length, slice_index, Option, Some, None}
use Rattle.cola_journal.specs.Disk.{Pages}
use Rattle.cola_journal_bytes.specs.Format.{Piece, read_journal}

-- a place lies in a piece
abbrev pub is_in : ℕ → Piece → Bool
is_in place piece = not (nat_lt place piece.at) && nat_lt place (piece.at + length piece.bytes)

-- in one of them
abbrev pub is_in_any : List Piece → ℕ → Bool
is_in_any [] place = false
is_in_any (piece ∷ pieces) place = is_in place piece || is_in_any pieces place

-- the byte in a place, of the first piece that has it
abbrev pub byte_of : List Piece → ℕ → ℕ
byte_of [] place = 0
byte_of (piece ∷ pieces) place = if is_in place piece then slice_index piece.bytes (place - piece.at) else byte_of pieces place

abbrev pub pages_of : List Piece → Pages
pages_of pieces = record { has = is_in_any pieces; byte = byte_of pieces }

-- the first piece has the file's first 512 bytes
abbrev pub has_header : List Piece → Bool
has_header [] = false
has_header (piece ∷ pieces) = (piece.at == 0) && not (nat_lt (length piece.bytes) 512)

abbrev pub applied : Option (List Piece) → Option Pages
applied None = None
applied (Some pieces) = if has_header pieces then Some (pages_of pieces) else None

-- what is to be applied of a journal: nothing, where it is not whole or has not the header
abbrev pub pages_read : List ℕ → Option Pages
pages_read bytes = applied (read_journal bytes)
