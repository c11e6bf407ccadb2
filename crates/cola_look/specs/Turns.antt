-- How many blocks a reader that goes forward turns to.
use Rattle.std.specs.Prelude.{ℕ, ◌+◌, ◌-◌, ◌/◌, ◌==◌, ◌&&◌, Bool, false, Option, None, Some, if◌then◌else◌}
use Rattle.cola_cell.specs.Places.{Block}

-- how many groups of so many neighbours have one of those from an index up to an end; one more
-- where the end is within the group of the index
abbrev pub groups : ℕ → ℕ → ℕ → ℕ
groups size i end = (end + (size - 1)) / size - i / size

-- whether a buffer has this block
abbrev pub is_in : Block → Option Block → Bool
is_in block None = false
is_in block (Some b) = (b.level == block.level) && (b.slot == block.slot) && (b.number == block.number)

-- how many blocks a reader may still turn to that goes forward from an index to an end, where the neighbours
-- of a group lie in one block: a block for each group, but none for the first where the buffer has it
abbrev pub turns_left : Option Block → Block → ℕ → ℕ → ℕ → ℕ
turns_left last block size i end = groups size i end - (if is_in block last then 1 else 0)
