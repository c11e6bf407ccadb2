-- The bytes of a cell in each format.
use Rattle.std.specs.Prelude.{◌≡◌, ℕ, ◌-◌, ◌≤◌, ◌<◌, ◌^◌, List, [], length, take, drop, slice_index, Option, MatchOption}
use Rattle.byteorder.specs.Endian.{little_bytes}
use Rattle.cola_cell.specs.declared.format.Format.{Format}
use Rattle.cola_cell.specs.declared.format.Format.TheVariants.{One, Two}
use Rattle.cola_cell.specs.declared.cell.Cell.{Cell}
use Rattle.cola_cell.specs.Bytes.{padded}
use Rattle.cola_cell.specs.Cell.{key_of, link_of, kind_of, young_of, value_of, stamp_of}
use Rattle.cola_cell.specs.Format.{width, key_limit, value_limit, stamp_limit, CellFits}

-- where the key starts
abbrev pub key_at : Format → ℕ
key_at One = 8
key_at Two = 16

-- where the value starts
abbrev pub value_at : Format → ℕ
value_at One = 32
value_at Two = 56

-- the bytes from one place up to another
abbrev pub part : ℕ → ℕ → List ℕ → List ℕ
part from to bytes = take (to - from) (drop from bytes)

-- the bytes of a stamp: none in format One, a number of 64 bits in format Two
abbrev pub stamp_bytes : Format → ℕ → List ℕ
stamp_bytes One stamp = []
stamp_bytes Two stamp = little_bytes 8 stamp

-- the bytes from 8 to the key are those of the stamp, which is within the format's limit
abbrev pub StampIs : Format → ℕ → List ℕ → Type 0
StampIs format stamp bytes = (stamp ≤ stamp_limit format) × (part 8 (key_at format) bytes ≡ stamp_bytes format stamp)

-- the bytes spell the cell in the format, part by part. Numbers are little-endian.
pub record IsSpelling (format : Format) (cell : Cell) (bytes : List ℕ) : Type 0 where
  -- 64 bytes or 128
  pub size : length bytes ≡ width format
  -- key, value and stamp are within the limits of the format: a stamp is 0 in format One
  pub fits : CellFits format cell
  -- a key has a byte at least
  pub some_key : 1 ≤ length (key_of cell)
  -- a link is a number of 32 bits
  pub small_link : link_of cell < 2 ^ 32
  -- byte 0: 0 a value, 1 a tombstone, 2 a lookahead cell
  pub kind : slice_index bytes 0 ≡ kind_of cell
  -- byte 1: 1 where a young item, else 0
  pub young : slice_index bytes 1 ≡ young_of cell
  -- byte 2: the length of the key
  pub key_length : slice_index bytes 2 ≡ length (key_of cell)
  -- byte 3: the length of the value, 0 where there is none
  pub value_length : slice_index bytes 3 ≡ length (value_of cell)
  -- bytes 4 to 7: the link
  pub link : part 4 8 bytes ≡ little_bytes 4 (link_of cell)
  -- bytes 8 to 15 in format Two: the stamp, 0 where there is no value
  pub stamp : part 8 (key_at format) bytes ≡ stamp_bytes format (stamp_of cell)
  -- bytes 8 to 31 in format One, 16 to 55 in format Two: the key, then zeros
  pub key : part (key_at format) (value_at format) bytes ≡ padded (key_limit format) (key_of cell)
  -- bytes 32 to 63 in format One, 56 to 127 in format Two: the value, then zeros
  pub value : part (value_at format) (width format) bytes ≡ padded (value_limit format) (value_of cell)

-- the bytes are the spelling of no cell
abbrev pub IsNoSpelling : Format → List ℕ → Type 0
IsNoSpelling format bytes = (cell : Cell) → ¬ IsSpelling format cell bytes

-- an answer of decoding: the cell that the bytes spell, or none where they are no spelling
abbrev pub Decodes : Format → List ℕ → Option Cell → Type 0
Decodes format bytes answer = MatchOption answer (IsNoSpelling format bytes) (λ cell. IsSpelling format cell bytes)
