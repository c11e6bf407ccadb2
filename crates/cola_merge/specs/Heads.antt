-- Cursors and held heads: what is asked of them, and what of the feeds is left.
use Rattle.std.specs.Prelude.{ℕ, ◌≡◌, ◌+◌, ◌<◌, ◌≤◌, Option, None, Some, IsSome, ⊤, List}
use Rattle.cola_runs.specs.Steps.{Build}
use Rattle.cola_cell.specs.declared.cell.Cell.{Cell}
use Rattle.cola_cell.specs.declared.cell.Reader.{Reader}
use Rattle.cola_cell.specs.declared.cell.Reader.TheVariants.{Own, Incoming, Sample}
use Rattle.cola_cell.specs.Format.{CellFits}
use Rattle.cola_cell.specs.Held.{Held, Told, Tells, as_cell, Stamped}
use Rattle.cola_merge.specs.declared.aims.Feed.{Feed}
use Rattle.cola_merge.specs.declared.aims.Feed.TheVariants as feed
use Rattle.cola_merge.specs.declared.aims.Aim.{Aim}
use Rattle.cola_merge.specs.Fetched.{Head}
use Rattle.cola_merge.specs.declared.merging.Merger.{Merger}
use Rattle.cola_cell.specs.ToldCells.{shadow_cells}
use Rattle.cola_merge.specs.Feeds.{feed_len, feed_spots, IsFeed, IsApart, IsFeedTold}

-- no cell consumed, and none held
abbrev pub fresh_head : Head
fresh_head = record { at = 0; cell = None }

-- a head behind so many consumed cells
abbrev pub head_at : ℕ → Head
head_at n = record { at = n; cell = None }

-- a head behind so many consumed cells that holds this cell
abbrev pub held_at : ℕ → Cell → Head
held_at n c = record { at = n; cell = Some c }

-- a merger of these three heads
abbrev pub heads : (own incoming sample : Head) → Merger
heads own incoming sample = record { own = own; incoming = incoming; sample = sample }

-- a merger behind so many consumed cells of each source
abbrev pub merger_at : (own incoming sample : ℕ) → Merger
merger_at own incoming sample = heads (head_at own) (head_at incoming) (head_at sample)

-- a merger that has not begun
abbrev pub fresh : Merger
fresh = record { own = fresh_head; incoming = fresh_head; sample = fresh_head }

-- the head of a reader
abbrev pub head_of : Merger → Reader → Head
head_of m Own = m.own
head_of m Incoming = m.incoming
head_of m Sample = m.sample

-- the merger with this head for the reader
abbrev pub with_head : Merger → Reader → Head → Merger
with_head m Own head = record { own = head; incoming = m.incoming; sample = m.sample }
with_head m Incoming head = record { own = m.own; incoming = head; sample = m.sample }
with_head m Sample head = record { own = m.own; incoming = m.incoming; sample = head }

-- how many source cells were consumed
abbrev pub consumed : Merger → ℕ
consumed m = m.own.at + m.incoming.at + m.sample.at

-- a cell that is held is that of the feed at the cursor, where it is told, and fits the format; a feed that is used up has none
abbrev pub IsHeldCell : Held → Feed → ℕ → Option Cell → Type 0
IsHeldCell held feed at None = ⊤
IsHeldCell held feed at (Some c) = (at < feed_len feed) × Tells (feed_spots held feed at) (Told (as_cell c)) × CellFits held.fixed.format c

-- a head within its feed
pub record IsHead (held : Held) (feed : Feed) (head : Head) : Type 0 where
  pub within : head.at ≤ feed_len feed
  pub cell : IsHeldCell held feed head.at head.cell

-- what a merge reads: its feeds can be read, and its heads are those of its feeds
pub record HasHeads (held : Held) (aim : Aim) (m : Merger) : Type 0 where
  pub own_feed : IsFeed held.fixed aim.own
  pub incoming_feed : IsFeed held.fixed aim.incoming
  pub sample_feed : IsFeed held.fixed aim.sample
  pub own : IsHead held aim.own m.own
  pub incoming : IsHead held aim.incoming m.incoming
  pub sample : IsHead held aim.sample m.sample

-- what a merge needs: the shadow of its level stands in its slot, its feeds can be read and stand elsewhere, and its heads are those of its feeds
pub record IsReady (held : Held) (aim : Aim) (m : Merger) : Type 0 where
  pub level_in : aim.level < held.fixed.levels
  pub slot_is : aim.slot ≡ (held.shadows aim.level).slot
  pub own_feed : IsFeed held.fixed aim.own
  pub incoming_feed : IsFeed held.fixed aim.incoming
  pub sample_feed : IsFeed held.fixed aim.sample
  pub own_apart : IsApart aim.level aim.slot aim.own
  pub incoming_apart : IsApart aim.level aim.slot aim.incoming
  pub sample_apart : IsApart aim.level aim.slot aim.sample
  pub own : IsHead held aim.own m.own
  pub incoming : IsHead held aim.incoming m.incoming
  pub sample : IsHead held aim.sample m.sample

-- each source cell was consumed
pub record IsUsedUp (aim : Aim) (m : Merger) : Type 0 where
  pub own : feed_len aim.own ≤ m.own.at
  pub incoming : feed_len aim.incoming ≤ m.incoming.at
  pub sample : feed_len aim.sample ≤ m.sample.at

-- a head is held, unless its feed is used up
abbrev pub IsFetched : Feed → Head → Type 0
IsFetched feed head = head.at < feed_len feed → IsSome head.cell

-- each head is held whose feed has cells left
pub record AreFetched (aim : Aim) (m : Merger) : Type 0 where
  pub own : IsFetched aim.own m.own
  pub incoming : IsFetched aim.incoming m.incoming
  pub sample : IsFetched aim.sample m.sample

-- 1 for a head that is not held
abbrev pub missing_head : Option Cell → ℕ
missing_head None = 1
missing_head (Some c) = 0

-- how many heads are not held
abbrev pub missing : Merger → ℕ
missing m = missing_head m.own.cell + missing_head m.incoming.cell + missing_head m.sample.cell

-- 1 for a head that is held
abbrev pub held_head : Option Cell → ℕ
held_head None = 0
held_head (Some c) = 1

-- how many cells of a feed were read of the object: those consumed and the one held
abbrev pub fetched_of : Feed → Head → ℕ
fetched_of (feed.Run run) head = head.at + held_head head.cell
fetched_of (feed.Sampled run) head = head.at + held_head head.cell
fetched_of (feed.One c) head = 0
fetched_of feed.Nothing head = 0

-- how many cells of the three feeds were read of the object
abbrev pub fetched : Aim → Merger → ℕ
fetched aim m = fetched_of aim.own m.own + fetched_of aim.incoming m.incoming + fetched_of aim.sample m.sample

-- each cell of the three feeds is told
pub record AreFeedsTold (held : Held) (aim : Aim) : Type 0 where
  pub own : IsFeedTold held aim.own
  pub incoming : IsFeedTold held aim.incoming
  pub sample : IsFeedTold held aim.sample

-- how far the build of the aim's level has come
abbrev pub build_of : Held → Aim → Merger → Build (List ℕ) Stamped
build_of held aim m = record { own = m.own.at; incoming = m.incoming.at; sampled = m.sample.at; done = shadow_cells held aim.level }
