-- The bytes of a journal: the pieces of a file that it has, and when it is whole.
use Rattle.std.specs.Prelude.{ℕ, zero, suc, ◌-◌, ◌^◌, ◌<◌, ◌==◌, nat_lt, Bool, true, false, ◌&&◌, if◌then◌else◌, List, [], ◌∷◌, ◌++◌, length, take, drop, codes, Option, Some, None}
use Rattle.byteorder.specs.Endian.{little_bytes, little_number}
use Rattle.sha2.specs.Sha256.{sha256}

-- bytes of a file, from a place on
pub record Piece : Type 0 where
  pub at : ℕ
  pub bytes : List ℕ

-- Written

-- what stands before the bytes of a piece: its place and its length
abbrev pub piece_head : ℕ → ℕ → List ℕ
piece_head at count = little_bytes 8 at ++ little_bytes 8 count

-- a piece
abbrev pub piece_bytes : Piece → List ℕ
piece_bytes piece = piece_head piece.at (length piece.bytes) ++ piece.bytes

-- all of them
abbrev pub all_bytes : List Piece → List ℕ
all_bytes [] = []
all_bytes (piece ∷ pieces) = piece_bytes piece ++ all_bytes pieces

-- what stands before the pieces: a name, and how many there are
abbrev pub head : ℕ → List ℕ
head count = codes "COLAJRNL" ++ little_bytes 8 count

-- what the sum is of
abbrev pub summed : List Piece → List ℕ
summed pieces = head (length pieces) ++ all_bytes pieces

-- the whole of it
abbrev pub journal_of : List Piece → List ℕ
journal_of pieces = summed pieces ++ sha256 (summed pieces)

-- the numbers of a piece have eight bytes
pub record Fits (piece : Piece) : Type 0 where
  pub at : piece.at < 2 ^ 64
  pub count : length piece.bytes < 2 ^ 64

abbrev pub AllFit : List Piece → Type 0
AllFit [] = Unit {0}
AllFit (piece ∷ pieces) = Fits piece × AllFit pieces

-- Read

-- the piece with this place and so many of the bytes, and what is behind it
abbrev pub piece_of : ℕ → ℕ → List ℕ → Option (Piece × List ℕ)
piece_of at count bytes = if nat_lt (length bytes) count then None else Some (record { at = at; bytes = take count bytes }, drop count bytes)

-- the piece at the front of bytes, and what is behind it
abbrev pub piece_at : List ℕ → Option (Piece × List ℕ)
piece_at bytes =
    if nat_lt (length bytes) 16 then None else piece_of (little_number 8 bytes) (little_number 8 (drop 8 bytes)) (drop 16 bytes)

abbrev pub joined : Piece → Option (List Piece) → Option (List Piece)
joined piece None = None
joined piece (Some pieces) = Some (piece ∷ pieces)

abbrev pub further : Option (Piece × List ℕ) → (List ℕ → Option (List Piece)) → Option (List Piece)
further None next = None
further (Some found) next = joined found.0 (next found.1)

-- so many pieces, and nothing behind them
abbrev pub pieces_in : ℕ → List ℕ → Option (List Piece)
pieces_in zero [] = Some []
pieces_in zero (byte ∷ bytes) = None
pieces_in (suc count) bytes = further (piece_at bytes) (pieces_in count)

-- the same bytes
abbrev pub same_bytes : List ℕ → List ℕ → Bool
same_bytes [] [] = true
same_bytes [] (y ∷ ys) = false
same_bytes (x ∷ xs) [] = false
same_bytes (x ∷ xs) (y ∷ ys) = (x == y) && same_bytes xs ys

-- the name stands at the front, and the sum at the end
abbrev pub is_sealed : List ℕ → Bool
is_sealed bytes =
    same_bytes (take 8 bytes) (codes "COLAJRNL") && same_bytes (drop (length bytes - 32) bytes) (sha256 (take (length bytes - 32) bytes))

-- the bytes of the pieces
abbrev pub body : List ℕ → List ℕ
body bytes = take (length bytes - 48) (drop 16 bytes)

-- the pieces of a whole journal
abbrev pub read_journal : List ℕ → Option (List Piece)
read_journal bytes =
    if nat_lt (length bytes) 48 then None else (if is_sealed bytes then pieces_in (little_number 8 (drop 8 bytes)) (body bytes) else None)
