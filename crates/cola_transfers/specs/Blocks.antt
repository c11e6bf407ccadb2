-- The blocks that a merge has still to read and to write.
use Rattle.std.specs.Prelude.{◌≡◌, ℕ, ◌+◌, ◌-◌, ◌*◌, ◌/◌, ◌%◌, ◌^◌, ◌≤◌, ◌<◌, min, nat_lt, Bool, true, false, if◌then◌else◌}

-- the cells of a slot of a level
abbrev pub slot_cells : ℕ → ℕ
slot_cells level = 2 ^ (level + 2)

-- the cells of a block: eight, doubled so many times
abbrev pub block_cells : ℕ → ℕ
block_cells doublings = 8 * 2 ^ doublings

-- how many groups of `size` neighbouring numbers have one that is at least `first` and below `end`
abbrev pub groups : ℕ → ℕ → ℕ → ℕ
groups size first end = if nat_lt first end then (end - 1) / size - first / size + 1 else 0

-- the blocks left of a source that ends at `end`: those with a cell at its cursor or behind it, where the cells of `size`
-- cursors lie in one block, but not the block that its reader holds; none where a slot of its level is smaller than a block
abbrev pub source_left : (slot span size : ℕ) → (ℕ → Bool) → (end cursor : ℕ) → ℕ
source_left slot span size is_held end cursor =
    if nat_lt slot span then 0 else groups size cursor end - (if is_held (cursor / size) then 1 else 0)

-- the blocks of a shadow of n cells that are written by now: the whole ones, and the last one too once its merge has ended
abbrev pub put_down : ℕ → ℕ → Bool → ℕ
put_down span n ended = if ended then n / span + min 1 (n % span) else n / span

-- the blocks that a level may still write of its shadow
abbrev pub unwritten : ℕ → ℕ → ℕ → Bool → ℕ
unwritten slot span n ended = slot / span - put_down span n ended

-- what the work of one level says of the blocks that it writes: its shadow had `old` cells and has `new`, it was kept
-- before or not and is now, and its merge has ended by now or not. A shadow is kept where all of it is on the device
pub record IsWrittenDown (slot span old new : ℕ) (ended was_kept now_kept : Bool) (before after : ℕ) : Type 0 where
  pub grows : old ≤ new
  -- nothing is written where a slot is smaller than a block
  pub small : slot < span → after ≤ before
  -- one block for each whole one that the shadow has reached, and one more where the merge has ended
  pub fills : ended ≡ false → after + old / span ≤ before + new / span
  pub finishes : after + old / span ≤ before + new / span + 1
  -- but not where a kept shadow got no cell, or its last block is whole
  pub still_kept : new ≡ old → was_kept ≡ true → after + old / span ≤ before + new / span
  pub whole : old < new → new % span ≡ 0 → after + old / span ≤ before + new / span
  -- the shadow is kept where the merge has ended; where its last block became whole; and where it was and got no cell
  pub kept_at_end : ended ≡ true → now_kept ≡ true
  pub kept_whole : old < new → new % span ≡ 0 → now_kept ≡ true
  pub kept_still : new ≡ old → was_kept ≡ true → now_kept ≡ true
