-- What a merge does that runs over windows.
use Rattle.std.specs.Prelude.{◌≡◌, ℕ, zero, suc, ◌+◌, ◌*◌, ◌≤◌, ◌<◌, ◌^◌, Bool, true, if◌then◌else◌, List, drop, Option, None, Some, IfSome}
use Rattle.cola_merge.specs.declared.aims.Feed.{Feed}
use Rattle.cola_merge.specs.declared.aims.Feed.TheVariants as feed
use Rattle.cola_cell.specs.declared.windows.Reach.{Reach}
use Rattle.cola_cell.specs.declared.cell.Cell.{Cell}
use Rattle.cola_cell.specs.declared.format.Format.{Format}
use Rattle.cola_cell.specs.Decoded.{stands}
use Rattle.cola_cell.specs.Format.{width, CellFits}
use Rattle.cola_cell.specs.Spelling.{IsSpelling}
use Rattle.cola_window.specs.declared.windows.Taken.{Taken}
use Rattle.cola_window.specs.declared.windows.Lasts.{Lasts}
use Rattle.cola_window.specs.declared.windows.Rules.{Rules}
use Rattle.cola_window.specs.Windows as windows
use Rattle.cola_window.specs.Stopping.{MergeStops, CanStep}
use Rattle.cola_merge.specs.declared.aims.Aim.{Aim}
use Rattle.cola_merge.specs.declared.weaving.Share.{Share}
use Rattle.cola_merge.specs.declared.merging.Merger.{Merger}
use Rattle.cola_merge.specs.Fetched.{Head}
use Rattle.cola_merge.specs.Feeds.{takes_young}
use Rattle.cola_merge.specs.Heads.{held_head}
use Rattle.cola_cell.specs.Windows.{Views}
use Rattle.cola_cell.specs.declared.windows.Passed.{Passed}

-- what a head holds that went on by so many cells: what it held, where it went on by none; else what stands there
abbrev pub gone_cell : Format → ℕ → List ℕ → Option Cell → Option Cell
gone_cell format zero bytes (Some c) = Some c
gone_cell format zero bytes None = stands format bytes
gone_cell format (suc n) bytes cell = stands format bytes

-- a head that went on by so many cells of a window, which stand so many bytes behind one another
abbrev pub gone : Format → ℕ → ℕ → List ℕ → Head → Head
gone format step count window head = record { at = head.at + count; cell = gone_cell format count (drop (count * step) window) head.cell }

-- the head that holds the cell at the beginning of bytes
abbrev pub standing_head : Format → ℕ → List ℕ → Head
standing_head format at bytes = record { at = at; cell = stands format bytes }

abbrev pub bytes_of : Views → windows.Bytes
bytes_of views = record { own = views.own; incoming = views.incoming; sample = views.sample }

abbrev pub lasts_of : Views → Lasts
lasts_of views = record { own = views.own_last; incoming = views.incoming_last; sample = views.sample_last }

-- the rules of an aim
abbrev pub rules_of : Aim → Rules
rules_of aim = record { only_young = takes_young aim.part; marks_young = aim.young; drops_tombstones = aim.bottom }

-- the one cell that comes in, where the feed is the one that the head holds
abbrev pub one_coming : Merger → Bool → Option Cell
one_coming m has_one = if has_one then m.incoming.cell else None

-- cursors that a pass may move, and a cell that fits the format, where one comes in
pub record CanPass (m : Merger) (job : Share) (format : Format) : Type 0 where
  pub own : m.own.at ≤ 2 ^ 25
  pub incoming : m.incoming.at ≤ 2 ^ 25
  pub sample : m.sample.at ≤ 2 ^ 25
  pub quota : job.quota ≤ 65536
  pub one : IfSome (one_coming m job.has_one) (CellFits format)

-- how many heads are held
abbrev pub held_heads : Merger → ℕ
held_heads m = held_head m.own.cell + held_head m.incoming.cell + held_head m.sample.cell

-- a merge ran over windows: it took so many cells of each, its heads went on, and each cell that it tested and did not hold, and each that it put, is a tick
pub record PassesOver (before after : Merger) (job : Share) (format : Format) (views : Views) (room : List ℕ) (passed : Passed) : Type 0 where
  pub taken : Taken
  pub merged : windows.Merged format job.rules (8 * before.sample.at) (bytes_of views) (lasts_of views) room taken
  pub own_is : after.own ≡ gone format (width format) taken.own views.own before.own
  pub incoming_is : after.incoming ≡ gone format (width format) taken.incoming views.incoming before.incoming
  pub sample_is : after.sample ≡ gone format (8 * width format) taken.sample views.sample before.sample
  pub steps_are : passed.steps ≡ windows.consumed taken
  pub few : passed.steps ≤ job.quota
  pub stops : MergeStops format (bytes_of views) (lasts_of views) room taken job.quota
  pub goes_on : CanStep format (bytes_of views) (lasts_of views) room job.quota → 0 < windows.consumed taken
  pub cells_are : passed.cells ≡ taken.pushed
  pub ticks_are : passed.ticks + held_heads before ≡ windows.consumed taken + taken.pushed + held_heads after

-- the window of what comes in: that of the one cell, or that of the object
abbrev pub IsIncoming : Option Cell → Format → Views → List ℕ → Bool → Type 0
IsIncoming (Some c) format views bytes last = IsSpelling format c bytes × (last ≡ true)
IsIncoming None format views bytes last = (bytes ≡ views.incoming) × (last ≡ views.incoming_last)

-- the windows with this one in the place of what comes in
abbrev pub with_incoming : List ℕ → Bool → Views → Views
with_incoming bytes last views = record {
  own = views.own;
  incoming = bytes;
  sample = views.sample;
  own_last = views.own_last;
  incoming_last = last;
  sample_last = views.sample_last;
}

-- a merge ran over the object's windows, of which the one cell that comes in has its own
pub record Passes (before after : Merger) (job : Share) (format : Format) (views : Views) (room : List ℕ) (passed : Passed) : Type 0 where
  pub bytes : List ℕ
  pub last : Bool
  pub incoming : IsIncoming (one_coming before job.has_one) format views bytes last
  pub over : PassesOver before after job format (with_incoming bytes last views) room passed

-- the cell of a feed of one, where it was not consumed
abbrev pub one_at : Feed → ℕ → Option Cell
one_at (feed.Run run) at = None
one_at (feed.Sampled run) at = None
one_at (feed.One c) zero = Some c
one_at (feed.One c) (suc at) = None
one_at feed.Nothing at = None

-- where the next cell of a feed stands, if the object has it
abbrev pub IsReachOf : Feed → ℕ → Reach → Type 0
IsReachOf (feed.Run run) at reach = reach ≡ record { run = run; from = at }
IsReachOf (feed.Sampled run) at reach = ⊥
IsReachOf (feed.One c) at reach = ⊥
IsReachOf feed.Nothing at reach = reach ≡ record { run = record { level = 0; slot = 0; len = 0 }; from = 0 }

-- the same of the feed that comes in, of which one cell is a run of none
abbrev pub IsIncomingReachOf : Feed → ℕ → Reach → Type 0
IsIncomingReachOf (feed.Run run) at reach = IsReachOf (feed.Run run) at reach
IsIncomingReachOf (feed.Sampled run) at reach = IsReachOf (feed.Sampled run) at reach
IsIncomingReachOf (feed.One c) at reach = IsReachOf feed.Nothing at reach
IsIncomingReachOf feed.Nothing at reach = IsReachOf feed.Nothing at reach

-- the same of a sample
abbrev pub IsSampleReachOf : Feed → ℕ → Reach → Type 0
IsSampleReachOf (feed.Run run) at reach = ⊥
IsSampleReachOf (feed.Sampled run) at reach = reach ≡ record { run = run; from = 8 * at + 7 }
IsSampleReachOf (feed.One c) at reach = ⊥
IsSampleReachOf feed.Nothing at reach = reach ≡ record { run = record { level = 0; slot = 0; len = 0 }; from = 0 }
