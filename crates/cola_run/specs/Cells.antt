-- The cells of a run store: in the front, in the tail of a level, or on the device.
use Rattle.std.specs.Prelude.{◌≡◌, ◌≢◌, ℕ, ◌+◌, ◌-◌, ◌*◌, ◌/◌, ◌%◌, ◌^◌, ◌≤◌, ◌<◌, ◌==◌, nat_lt, ◌&&◌, Bool, true, false, if◌then◌else◌, List, length, Option, None, Some, IfSome}
use Rattle.cola_cell.specs.declared.sink.Shadow.{Shadow}
use Rattle.cola_cell.specs.Decoded.{spot_of_bytes}
use Rattle.cola_cell.specs.Flat.{spot_of, shadow_at, is_place}
use Rattle.cola_cell.specs.Format.{width}
use Rattle.cola_cell.specs.Held.{Spot, Spots, Untold, Bad}
use Rattle.cola_cell.specs.Places.{slot_size, number_of, IsPlace}
use Rattle.cola_front.specs.Front.{FrontCells, cell_at, cell_bytes}
use Rattle.cola_layout.specs.declared.geometry.Geometry.{Geometry}
use Rattle.cola_layout.specs.Geometry.{IsBlock}

-- the cells of a block
abbrev pub block_cells : Geometry → ℕ
block_cells geometry = 2 ^ geometry.block_exp

-- the bytes of a block
abbrev pub block_bytes : Geometry → ℕ
block_bytes geometry = width geometry.format * block_cells geometry

-- the bytes of the file of a store: those of all its cells
abbrev pub file_bytes : Geometry → ℕ
file_bytes geometry = width geometry.format * 2 ^ (geometry.bottom + 4)

-- the blocks of the file
abbrev pub file_blocks : Geometry → ℕ
file_blocks geometry = 2 ^ (geometry.bottom + 4 - geometry.block_exp)

-- how many levels are on the device: those whose slots are blocks
abbrev pub device_levels : Geometry → ℕ
device_levels geometry = geometry.bottom + 3 - geometry.block_exp

-- a level on the device
pub record IsOnDevice (geometry : Geometry) (level : ℕ) : Type 0 where
  pub within : level ≤ geometry.bottom
  pub whole : geometry.block_exp ≤ level + 2

-- the number of a cell in the tails, which have one block for each level on the device
abbrev pub tail_number : Geometry → ℕ → ℕ → ℕ
tail_number geometry level index = block_cells geometry * (level + 2 - geometry.block_exp) + index % block_cells geometry

-- the number of the block in which a place lies, counted from the first byte of the file
abbrev pub block_number : Geometry → ℕ → ℕ → ℕ → ℕ
block_number geometry level slot index = number_of level slot index / block_cells geometry

-- the bytes of the tails
abbrev pub tails_bytes : Geometry → ℕ
tails_bytes geometry = width geometry.format * (block_cells geometry * device_levels geometry)

-- whether the cell at a place of a slot is in the tail: it is one of the shadow's, in the block in which the shadow ends
abbrev pub is_in_tail : ℕ → Shadow → ℕ → ℕ → Bool
is_in_tail span shadow slot index = slot == shadow.slot && index / span == shadow.len / span && nat_lt index shadow.len

-- the number of the cell at the end of the shadow of a level, behind its last cell
abbrev pub end_number : List Shadow → ℕ → ℕ
end_number shadows level = number_of level (shadow_at shadows level).slot (shadow_at shadows level).len

-- the block in which the shadow of a level ends
abbrev pub end_block : Geometry → List Shadow → ℕ → ℕ
end_block geometry shadows level = block_number geometry level (shadow_at shadows level).slot (shadow_at shadows level).len

-- the shadow of a level has room for a cell: its end is a place
abbrev pub HasRoom : Geometry → List Shadow → ℕ → Type 0
HasRoom geometry shadows level =
    IsPlace (geometry.bottom + 1) level (shadow_at shadows level).slot (shadow_at shadows level).len

-- the bytes of a cell of a level on the device, which has these bytes
abbrev pub device_cell : Geometry → List Shadow → List ℕ → List ℕ → (level slot index : ℕ) → List ℕ
device_cell geometry shadows tails bytes level slot index =
    if is_in_tail (block_cells geometry) (shadow_at shadows level) slot index
    then cell_bytes geometry.format tails (tail_number geometry level index)
    else cell_bytes geometry.format bytes (number_of level slot index)

-- the bytes of the device, where it tells them; the shadow of each level; and the tails
pub record Lower : Type 0 where
  pub told : Option (List ℕ)
  pub shadows : List Shadow
  pub tails : List ℕ

-- the cells of a store: its geometry, its front, and what lies below that
pub record Cells : Type 0 where
  pub geometry : Geometry
  pub front : FrontCells
  pub lower : Lower

-- the cells of a store, by its parts
abbrev pub cells_by : Geometry → FrontCells → Lower → Cells
cells_by geometry front lower = record { geometry = geometry; front = front; lower = lower }

-- what stands at a place of a store whose device has these bytes
abbrev pub standing_spot : Cells → List ℕ → ℕ → ℕ → ℕ → Spot
standing_spot cells bytes level slot index =
    if nat_lt (level + 2) cells.geometry.block_exp
    then spot_of (cell_at cells.front (number_of level slot index))
    else spot_of_bytes cells.geometry.format
    (device_cell cells.geometry cells.lower.shadows cells.lower.tails bytes level slot index)

-- the same, with bad where there is no such place
abbrev pub known_spot : Cells → List ℕ → ℕ → ℕ → ℕ → Spot
known_spot cells bytes level slot index =
    if is_place (cells.geometry.bottom + 1) level slot index
    then standing_spot cells bytes level slot index
    else Bad

-- what is told where the device tells these bytes
abbrev pub told_spot : Cells → Option (List ℕ) → ℕ → ℕ → ℕ → Spot
told_spot cells None level slot index = Untold
told_spot cells (Some bytes) level slot index = known_spot cells bytes level slot index

-- what a store tells of each place: nothing where its device tells no bytes
abbrev pub spots_of : Cells → Spots
spots_of cells level slot index = told_spot cells cells.lower.told level slot index

-- a shadow of a level stands in one of its slots
pub record IsShadow (level : ℕ) (shadow : Shadow) : Type 0 where
  pub slot_in : shadow.slot < 2
  pub within : shadow.len ≤ slot_size level

-- what the parts of a store may be, whatever its device tells
pub record IsShape (geometry : Geometry) (front : FrontCells) (shadows : List Shadow) (tails : List ℕ) : Type 0 where
  pub block : IsBlock geometry.block_exp geometry.bottom
  pub shallow : geometry.bottom ≤ 22
  pub format : front.format ≡ geometry.format
  pub front_block : front.block ≡ block_cells geometry
  pub shadows_many : length shadows ≡ geometry.bottom + 1
  pub shadows_fit : (level : ℕ) → level ≤ geometry.bottom →
      IsShadow level (shadow_at shadows level)
  pub tails_many : length tails ≡ tails_bytes geometry
  -- what is not on the device is a part of a block
  pub unsaved : (level : ℕ) → IsOnDevice geometry level → (shadow_at shadows level).saved ≡ false →
      (shadow_at shadows level).len % block_cells geometry ≢ 0

-- a tail whose cells are on the device too
abbrev pub IsSaved : Geometry → List Shadow → List ℕ → List ℕ → ℕ → Type 0
IsSaved geometry shadows tails bytes level = (index : ℕ) →
    is_in_tail (block_cells geometry) (shadow_at shadows level) (shadow_at shadows level).slot index ≡ true →
    cell_bytes geometry.format bytes (number_of level (shadow_at shadows level).slot index)
    ≡ cell_bytes geometry.format tails (tail_number geometry level index)

-- the device has the store's file, and the tails of the shadows that are said to be on it
pub record IsBacked (geometry : Geometry) (shadows : List Shadow) (tails bytes : List ℕ) : Type 0 where
  pub long : file_bytes geometry ≤ length bytes
  pub saved : (level : ℕ) → IsOnDevice geometry level → (shadow_at shadows level).saved ≡ true →
      IsSaved geometry shadows tails bytes level

-- the same, by what lies below the front, where the device tells its bytes
abbrev pub IsLowerBacked : Geometry → Lower → Type 0
IsLowerBacked geometry lower = IfSome lower.told (IsBacked geometry lower.shadows lower.tails)

-- what the cells of a store may be
pub record AreCells (cells : Cells) : Type 0 where
  pub shape : IsShape cells.geometry cells.front cells.lower.shadows cells.lower.tails
  pub backed : IfSome cells.lower.told
      (IsBacked cells.geometry cells.lower.shadows cells.lower.tails)
