-- How many blocks a pass turns to that reads a run in order.
use Rattle.std.specs.Prelude.{◌≡◌, ℕ, zero, suc, ◌+◌, ◌*◌, ◌/◌, ◌^◌, ◌≤◌, nat_lt, if◌then◌else◌, Option, None, Some}
use Rattle.cola_cell.specs.declared.cell.Reader.{Reader}
use Rattle.cola_cell.specs.declared.cell.Reader.TheVariants.{Own, Sample}
use Rattle.cola_cell.specs.declared.cell.Run.{Run}
use Rattle.cola_cell.specs.Held.{Held, span}
use Rattle.cola_cell.specs.Spent.{By}
use Rattle.cola_cell.specs.State.{State}
use Rattle.cola_layout.specs.declared.header.Header.{Header}
use Rattle.cola_merge.specs.Blocks.{run_left}
use Rattle.cola_check.specs.BadCells.{cells_above}
use Rattle.cola_check.specs.Found.{run_in}

-- the blocks of a run that hold a cell from an index on; but not the one that its reader read last
abbrev pub blocks_from : State → Reader → Run → ℕ → ℕ
blocks_from object reader run at = run_left (span object.held) (object.spent.lasts (By reader run.level)) run (span object.held) run.len at

-- a reader that went on in a run, from one index to another, turned to no more blocks than lie between
abbrev pub GoesOn : State → State → Reader → Run → ℕ → ℕ → Type 0
GoesOn old new reader run from to = new.spent.turned + blocks_from new reader run to ≤ old.spent.turned + blocks_from old reader run from

-- the same of the cells of its sample, every eighth cell of the run, of which so many were read; none where there is no run
abbrev pub sample_from : State → Option Run → ℕ → ℕ
sample_from object None at = 0
sample_from object (Some run) at =
    run_left (span object.held) (object.spent.lasts (By Sample run.level)) run (2 ^ object.held.fixed.doublings) (run.len / 8) at

-- the sample of a run was read on, from one of its cells to another: the object turned to no more blocks than lie between, and
-- no buffer changed by which a level's own run is read
pub record SampleReadsOn (old new : State) (run : Option Run) (from to : ℕ) : Type 0 where
  pub blocks : new.spent.turned + sample_from new run to ≤ old.spent.turned + sample_from old run from
  pub own_stays : (level : ℕ) → new.spent.lasts (By Own level) ≡ old.spent.lasts (By Own level)

-- a call turned to at most so many blocks
abbrev pub TurnsTo : State → State → ℕ → Type 0
TurnsTo old new blocks = new.spent.turned ≤ old.spent.turned + blocks

-- at most how many blocks are turned to for the cells of a run: those that lie whole in it, and one at each of its ends
abbrev pub run_blocks : Held → Run → ℕ
run_blocks held run = run.len / span held + 2

-- the same of a run that may be there
abbrev pub run_blocks_or : Held → Option Run → ℕ
run_blocks_or held None = 0
run_blocks_or held (Some run) = run_blocks held run

-- the same of both runs of a level
abbrev pub level_blocks : Header → Held → ℕ → ℕ
level_blocks header held level = run_blocks held (run_in header level 0) + run_blocks held (run_in header level 1)

-- the same of the runs of the levels above one, two of each
abbrev pub blocks_above : Header → Held → ℕ → ℕ
blocks_above header held level = cells_above header level / span held + 4 * level

-- the same of all runs of a file
abbrev pub all_blocks : Header → Held → ℕ
all_blocks header held = blocks_above header held (header.geometry.bottom + 1)

-- the same of both runs of the level below one; none below the bottom
abbrev pub blocks_below : Header → Held → ℕ → ℕ
blocks_below header held level = if nat_lt level header.geometry.bottom then level_blocks header held (level + 1) else 0

-- at most how many blocks the test of the shadow of a level of 1 and more turns to: twice those of the level's runs, of those
-- above it and of those below it
abbrev pub shadow_blocks : Header → Held → ℕ → ℕ
shadow_blocks header held zero = 0
shadow_blocks header held (suc above) = 2 * (level_blocks header held above + level_blocks header held (suc above) + blocks_below header held (suc above))
