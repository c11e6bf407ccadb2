-- The places of cells, and the blocks in which they lie.
use Rattle.std.specs.Prelude.{ℕ, ◌+◌, ◌*◌, ◌/◌, ◌^◌, ◌<◌}

-- the cells of a slot of a level
abbrev pub slot_size : ℕ → ℕ
slot_size level = 2 ^ (level + 2)

-- the number of the cell at a place: cells 0 to 7 are the header, and the slots follow by level
abbrev pub number_of : ℕ → ℕ → ℕ → ℕ
number_of level slot index = (2 + slot) * slot_size level + index

-- a place of an object with so many levels
pub record IsPlace (levels level slot index : ℕ) : Type 0 where
  pub level_in : level < levels
  pub slot_in : slot < 2
  pub index_in : index < slot_size level

-- a block of a slot
pub record Block : Type 0 where
  pub level : ℕ
  pub slot : ℕ
  pub number : ℕ

-- the block in which a place lies, where a block has so many cells
abbrev pub block_of : ℕ → ℕ → ℕ → ℕ → Block
block_of span level slot index = record { level = level; slot = slot; number = index / span }
