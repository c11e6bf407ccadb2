-- The blocks that the feeds of a merge have still to read.
use Rattle.std.specs.Prelude.{ℕ, ◌+◌, ◌-◌, ◌*◌, ◌/◌, ◌^◌, ◌==◌, nat_lt, ◌&&◌, if◌then◌else◌, Bool, false, Option, None, Some}
use Rattle.cola_cell.specs.declared.cell.Run.{Run}
use Rattle.cola_cell.specs.declared.cell.Reader.{Reader}
use Rattle.cola_cell.specs.declared.cell.Reader.TheVariants.{Own, Incoming, Sample}
use Rattle.cola_cell.specs.Places.{slot_size, Block}
use Rattle.cola_cell.specs.Spent.{Buffer, By}
use Rattle.cola_merge.specs.declared.aims.Feed.{Feed}
use Rattle.cola_merge.specs.declared.aims.Feed.TheVariants as feed
use Rattle.cola_merge.specs.declared.aims.Aim.{Aim}
use Rattle.cola_merge.specs.declared.merging.Merger.{Merger}

-- for each buffer the block that was read last
abbrev pub Lasts : Type 0
Lasts = Buffer → Option Block

-- whether the last block that was read is this one
abbrev pub is_last : Option Block → ℕ → ℕ → ℕ → Bool
is_last None level slot number = false
is_last (Some block) level slot number = (block.level == level) && ((block.slot == slot) && (block.number == number))

-- how many groups of so many numbers have one that is at least `first` and below `end`
abbrev pub groups : ℕ → ℕ → ℕ → ℕ
groups size first end = if nat_lt first end then (end - 1) / size - first / size + 1 else 0

-- the blocks of a run that hold a cell from a cursor on, where the cells of so many cursors lie in one block; but not the block that was read last
abbrev pub run_left : ℕ → Option Block → Run → ℕ → ℕ → ℕ → ℕ
run_left span last run size end at =
    if nat_lt (slot_size run.level) span then 0 else groups size at end - (if is_last last run.level run.slot (at / size) then 1 else 0)

-- the blocks left of a feed; blocks have 8 cells, doubled so many times, and a slot that is smaller than a block has none
abbrev pub feed_left : ℕ → Lasts → Reader → Feed → ℕ → ℕ
feed_left doublings lasts reader (feed.Run run) at = run_left (8 * 2 ^ doublings) (lasts (By reader run.level)) run (8 * 2 ^ doublings) run.len at
feed_left doublings lasts reader (feed.Sampled run) at = run_left (8 * 2 ^ doublings) (lasts (By reader run.level)) run (2 ^ doublings) (run.len / 8) at
feed_left doublings lasts reader (feed.One c) at = 0
feed_left doublings lasts reader feed.Nothing at = 0

-- the blocks left of the three feeds
abbrev pub blocks_left : ℕ → Lasts → Aim → Merger → ℕ
blocks_left doublings lasts aim m =
    feed_left doublings lasts Own aim.own m.own.at + feed_left doublings lasts Incoming aim.incoming m.incoming.at + feed_left doublings lasts Sample aim.sample m.sample.at
