-- The cell that bytes spell, as a function of the bytes.
use Rattle.std.specs.Prelude.{ℕ, zero, suc, ◌^◌, nat_eq, nat_le, nat_lt, ◌&&◌, Bool, if◌then◌else◌, List, [], ◌∷◌, ◌++◌, length, take, slice_index, bytes_eq, Option, Some, None}
use Rattle.byteorder.specs.Endian.{little_bytes, little_number}
use Rattle.cola_cell.specs.declared.format.Format.{Format}
use Rattle.cola_cell.specs.declared.format.Format.TheVariants.{One, Two}
use Rattle.cola_cell.specs.declared.cell.Item.TheVariants.{Value, Tombstone}
use Rattle.cola_cell.specs.declared.cell.Cell.{Cell}
use Rattle.cola_cell.specs.declared.cell.Cell.TheVariants as cell
use Rattle.cola_cell.specs.Bytes.{padded}
use Rattle.cola_cell.specs.Cell.{key_of, link_of, kind_of, young_of, value_of, stamp_of}
use Rattle.cola_cell.specs.Flat.{spot_of}
use Rattle.cola_cell.specs.Format.{width, key_limit, value_limit, stamp_limit}
use Rattle.cola_cell.specs.Held.{Spot}
use Rattle.cola_cell.specs.Spelling.{part, key_at, value_at, stamp_bytes}

-- the cell of a kind and its parts: 0 a value, 1 a tombstone, else a lookahead cell
abbrev pub cell_of : (kind young : ℕ) (key value : List ℕ) (stamp link : ℕ) → Cell
cell_of zero young key value stamp link = cell.Item key (Value value stamp) (nat_eq young 1) link
cell_of (suc zero) young key value stamp link = cell.Item key Tombstone (nat_eq young 1) link
cell_of (suc (suc kind)) young key value stamp link = cell.Look key link

-- the stamp that stands in the bytes: format One has none but 0
abbrev pub standing_stamp : Format → List ℕ → ℕ
standing_stamp One bytes = 0
standing_stamp Two bytes = little_number 8 (part 8 16 bytes)

-- the cell whose parts stand in the bytes, each where the format has it
abbrev pub standing : Format → List ℕ → Cell
standing format bytes =
    cell_of (slice_index bytes 0) (slice_index bytes 1) (take (slice_index bytes 2) (part (key_at format) (value_at format) bytes))
    (take (slice_index bytes 3) (part (value_at format) (width format) bytes)) (standing_stamp format bytes) (little_number 4 (part 4 8 bytes))

-- the bytes of a cell in the format: its parts, one behind the other
abbrev pub spelling : Format → Cell → List ℕ
spelling format cell =
    ((((kind_of cell ∷ young_of cell ∷ length (key_of cell) ∷ length (value_of cell) ∷ []) ++ little_bytes 4 (link_of cell))
    ++ stamp_bytes format (stamp_of cell)) ++ padded (key_limit format) (key_of cell)) ++ padded (value_limit format) (value_of cell)

-- whether the format can spell the cell: its key has a byte at least, and each part is within its limit
abbrev pub is_spellable : Format → Cell → Bool
is_spellable format cell =
    nat_le 1 (length (key_of cell)) && nat_le (length (key_of cell)) (key_limit format) && nat_le (length (value_of cell)) (value_limit format)
    && nat_le (stamp_of cell) (stamp_limit format) && nat_lt (link_of cell) (2 ^ 32)

-- the cell that the bytes spell in the format: the one that stands in them, where they are its bytes; else none
abbrev pub decoded : Format → List ℕ → Option Cell
decoded format bytes =
    if is_spellable format (standing format bytes) && bytes_eq (spelling format (standing format bytes)) bytes then Some (standing format bytes) else None

-- what the bytes of a cell tell of it in the format: bad where they spell none
abbrev pub spot_of_bytes : Format → List ℕ → Spot
spot_of_bytes format bytes = spot_of (decoded format bytes)

-- the cell that stands at the beginning of bytes, where they spell one
abbrev pub stands : Format → List ℕ → Option Cell
stands format bytes = if nat_le (width format) (length bytes) then decoded format (take (width format) bytes) else None
