-- What the feeds of a merge are, and which part it builds.
use Rattle.std.specs.Prelude.{ℕ, ◌≢◌, ◌⊎◌, ◌+◌, ◌*◌, ◌/◌, ◌<◌, ◌≤◌, Bool, true, false, List, map, Option, Some, None, ⊤}
use Rattle.cola_clock.specs.declared.state.Part as clock
use Rattle.cola_clock.specs.declared.state.Part.TheVariants.{All, Young}
use Rattle.cola_runs.specs.Cells.{key_of}
use Rattle.cola_runs.specs.Weave.{Part}
use Rattle.cola_cell.specs.declared.cell.Run.{Run}
use Rattle.cola_cell.specs.declared.cell.Reader.{Reader}
use Rattle.cola_cell.specs.declared.windows.Reach.{Reach}
use Rattle.cola_cell.specs.declared.cell.Reader.TheVariants.{Own, Incoming, Sample}
use Rattle.cola_cell.specs.Format.{CellFits}
use Rattle.cola_cell.specs.Places.{slot_size}
use Rattle.cola_cell.specs.Held.{Held, Fixed, Spot, Untold, Told, LawCell, as_cell}
use Rattle.cola_cell.specs.Spent.{IsBad}
use Rattle.cola_merge.specs.declared.aims.Feed.{Feed}
use Rattle.cola_merge.specs.declared.aims.Feed.TheVariants as feed
use Rattle.cola_merge.specs.declared.aims.Aim.{Aim}
use Rattle.cola_cell.specs.ToldCells.{cells, AreTold}

-- only the young items are taken
abbrev pub takes_young : clock.Part → Bool
takes_young All = false
takes_young Young = true

-- the part of an aim, as the laws of runs have it
abbrev pub part_of : Aim → Part
part_of aim = record { only_young = takes_young aim.part; marks_young = aim.young; drops_tombstones = aim.bottom }

-- the feed that a reader reads
abbrev pub feed_of : Aim → Reader → Feed
feed_of aim Own = aim.own
feed_of aim Incoming = aim.incoming
feed_of aim Sample = aim.sample

-- how many cells a feed has
abbrev pub feed_len : Feed → ℕ
feed_len (feed.Run run) = run.len
feed_len (feed.Sampled run) = run.len / 8
feed_len (feed.One c) = 1
feed_len feed.Nothing = 0

-- how many of them are read of the object
abbrev pub read_len : Feed → ℕ
read_len (feed.Run run) = run.len
read_len (feed.Sampled run) = run.len / 8
read_len (feed.One c) = 0
read_len feed.Nothing = 0

-- where a feed reads the cell at a cursor, if that needs an access
abbrev pub place_of : Feed → ℕ → Option Reach
place_of (feed.Run run) at = Some (record { run = run; from = at })
place_of (feed.Sampled run) at = Some (record { run = run; from = 8 * at + 7 })
place_of (feed.One c) at = None
place_of feed.Nothing at = None

-- what is told of the cells of a feed, by its cursor
abbrev pub feed_spots : Held → Feed → ℕ → Spot
feed_spots held (feed.Run run) i = held.spots run.level run.slot i
feed_spots held (feed.Sampled run) i = held.spots run.level run.slot (8 * i + 7)
feed_spots held (feed.One c) i = Told (as_cell c)
feed_spots held feed.Nothing i = Untold

-- the cells of a feed
abbrev pub feed_cells : Held → Feed → List LawCell
feed_cells held feed = cells (feed_spots held feed) 0 (feed_len feed)

-- the keys of a feed
abbrev pub feed_keys : Held → Feed → List (List ℕ)
feed_keys held feed = map key_of (feed_cells held feed)

-- each cell of a feed is told
abbrev pub IsFeedTold : Held → Feed → Type 0
IsFeedTold held feed = AreTold (feed_spots held feed) (feed_len feed)

-- a run of the object
pub record IsSource (fixed : Fixed) (run : Run) : Type 0 where
  pub level_in : run.level < fixed.levels
  pub slot_in : run.slot < 2
  pub within : run.len ≤ slot_size run.level

-- a feed that can be read
abbrev pub IsFeed : Fixed → Feed → Type 0
IsFeed fixed (feed.Run run) = IsSource fixed run
IsFeed fixed (feed.Sampled run) = IsSource fixed run
IsFeed fixed (feed.One c) = CellFits fixed.format c
IsFeed fixed feed.Nothing = ⊤

-- no cell of the feed stands in this slot of this level
abbrev pub IsApart : ℕ → ℕ → Feed → Type 0
IsApart level slot (feed.Run run) = (run.level ≢ level) ⊎ (run.slot ≢ slot)
IsApart level slot (feed.Sampled run) = (run.level ≢ level) ⊎ (run.slot ≢ slot)
IsApart level slot (feed.One c) = ⊤
IsApart level slot feed.Nothing = ⊤

-- the bytes of the cell that a feed reads at a cursor spell none, and this is its number
abbrev pub IsBadAt : Held → Feed → ℕ → ℕ → Type 0
IsBadAt held (feed.Run run) at number = (at < run.len) × IsBad held run.level run.slot at number
IsBadAt held (feed.Sampled run) at number = (at < run.len / 8) × IsBad held run.level run.slot (8 * at + 7) number
IsBadAt held (feed.One c) at number = ⊥
IsBadAt held feed.Nothing at number = ⊥
