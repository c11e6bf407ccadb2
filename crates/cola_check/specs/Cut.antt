-- When cursors cut a build after a shadow, and what the test of it reads.
use Rattle.std.specs.Prelude.{◌≡◌, ◌≢◌, ℕ, ◌+◌, ◌*◌, ◌≤◌, ⊤, Bool, true, false, List, [], ◌∷◌, ◌++◌, drop, ◌↔◌, IsTrue, IfOk, IfErr, Result, Ok, Err}
use Rattle.cola_runs.specs.Weave.{IsCut}
use Rattle.cola_cell.specs.declared.cell.Run.{Run}
use Rattle.cola_cell.specs.declared.fault.ReadFault.{ReadFault}
use Rattle.cola_cell.specs.Held.{Held, LawCell}
use Rattle.cola_cell.specs.State.{State}
use Rattle.cola_cell.specs.Order.{key_cmp}
use Rattle.cola_cell.specs.ToldCells.{run_cells}
use Rattle.cola_look.specs.Runs.{HasRun}
use Rattle.cola_merge.specs.declared.aims.Feed.{Feed}
use Rattle.cola_merge.specs.declared.aims.Feed.TheVariants as feed
use Rattle.cola_merge.specs.declared.aims.Aim.{Aim}
use Rattle.cola_merge.specs.declared.merging.Merger.{Merger}
use Rattle.cola_merge.specs.Feeds.{part_of, feed_len, feed_cells, feed_keys, IsFeed}
use Rattle.cola_merge.specs.Blocks.{blocks_left}
use Rattle.cola_merge.specs.Heads.{head_at, HasHeads, fetched}
use Rattle.cola_merge.specs.States.{Spends}
use Rattle.cola_merge.specs.Advance.{cells_read}
use Rattle.cola_merge.specs.Pulls.{AreInOrder, ahead}
use Rattle.cola_check.specs.declared.cut.Cursors.{Cursors}
use Rattle.cola_check.specs.Blocks.{run_blocks}
use Rattle.cola_check.specs.Others.{by_others}
use Rattle.cola_check.specs.Reading.{IsRunTold, PassCause}

-- this holds of the level of which a feed is read, if it is read
abbrev pub AtLevel : Feed → (ℕ → Type 0) → Type 0
AtLevel (feed.Run run) P = P run.level
AtLevel (feed.Sampled run) P = P run.level
AtLevel (feed.One cell) P = ⊤
AtLevel feed.Nothing P = ⊤

-- a feed is read of no cell of a level
abbrev pub IsAway : ℕ → Feed → Type 0
IsAway level f = AtLevel f (λ other. level ≢ other)

-- no two feeds of an aim are read of the same level
pub record IsSpread (aim : Aim) : Type 0 where
  pub own_incoming : AtLevel aim.own (λ level. IsAway level aim.incoming)
  pub incoming_sample : AtLevel aim.incoming (λ level. IsAway level aim.sample)
  pub sample_own : AtLevel aim.sample (λ level. IsAway level aim.own)

-- the feeds of the aim and the shadow can be read, no cursor is past the end of its feed, and the runs that are read together
-- stand at different levels
pub record CutFits (held : Held) (aim : Aim) (cursors : Cursors) (shadow : Run) : Type 0 where
  pub own : IsFeed held.fixed aim.own
  pub incoming : IsFeed held.fixed aim.incoming
  pub sample : IsFeed held.fixed aim.sample
  pub run : HasRun held shadow
  pub own_within : cursors.own ≤ feed_len aim.own
  pub incoming_within : cursors.incoming ≤ feed_len aim.incoming
  pub sample_within : cursors.sample ≤ feed_len aim.sample
  pub spread : IsSpread aim
  pub shadow_away : IsAway shadow.level aim.incoming

-- the cursors cut the build of the aim after these cells
abbrev pub CutsAfter : Held → Aim → Cursors → List LawCell → Type 0
CutsAfter held aim cursors done =
    IsCut key_cmp (part_of aim) (feed_cells held aim.own) (feed_cells held aim.incoming) (feed_keys held aim.sample)
    (drop cursors.own (feed_cells held aim.own)) (drop cursors.incoming (feed_cells held aim.incoming)) (drop cursors.sample (feed_keys held aim.sample)) done

-- the run that a feed is read of
abbrev pub runs_of_feed : Feed → List Run
runs_of_feed (feed.Run run) = run ∷ []
runs_of_feed (feed.Sampled run) = run ∷ []
runs_of_feed (feed.One cell) = []
runs_of_feed feed.Nothing = []

-- the runs that a merge reads
abbrev pub runs_of_aim : Aim → List Run
runs_of_aim aim = runs_of_feed aim.own ++ (runs_of_feed aim.incoming ++ runs_of_feed aim.sample)

-- a merge resumed at the cursors
abbrev pub resumed : Cursors → Merger
resumed cursors = record { own = head_at cursors.own; incoming = head_at cursors.incoming; sample = head_at cursors.sample }

-- the next cells of a merge are those of a run, and it has gone behind them; or they are not, whatever stands behind them
abbrev pub Follows : Held → Aim → Merger → Merger → List LawCell → Result Bool ReadFault → Type 0
Follows held aim m n cells (Ok true) = ahead held aim m ≡ cells ++ ahead held aim n
Follows held aim m n cells (Ok false) = (rest : List LawCell) → ahead held aim m ≡ cells ++ rest → ⊥
Follows held aim m n cells (Err fault) = ⊤

-- how many cells of its feeds a merge has read at most
abbrev pub reach : Aim → Merger → Result Bool ReadFault → ℕ
reach aim n (Ok answer) = fetched aim n
reach aim n (Err fault) = cells_read aim

-- a pass of a merge along a run
pub record Followed (old new : State) (aim : Aim) (run : Run) (m n : Merger) (from to : ℕ) (result : Result Bool ReadFault) : Type 0 where
  pub follows : AreInOrder old.held aim → IsRunTold old.held run →
      Follows old.held aim m n (run_cells old.held run) result
  pub heads : HasHeads old.held aim n
  pub ticks : to + fetched aim m ≤ from + (reach aim n result + run.len)
  pub spends : Spends old.spent new.spent from to
  pub written_is : new.spent.written ≡ old.spent.written
  pub cause : IfErr result (PassCause old.held (run ∷ runs_of_aim aim) old.spent.faults new.spent.faults)

-- a pass of two merges side by side: whether the same cells were ahead of both
pub record Compared (old new : State) (aim : Aim) (first second : Merger) (from to : ℕ) (result : Result Bool ReadFault) : Type 0 where
  pub same : AreInOrder old.held aim →
      IfOk result (λ same. IsTrue same ↔ (ahead old.held aim first ≡ ahead old.held aim second))
  pub ticks : to + fetched aim first + fetched aim second ≤ from + 2 * cells_read aim
  pub spends : Spends old.spent new.spent from to
  pub written_is : new.spent.written ≡ old.spent.written
  pub cause : IfErr result (PassCause old.held (runs_of_aim aim) old.spent.faults new.spent.faults)

-- ---- blocks

-- the blocks that a merge has still to turn to
abbrev pub merge_blocks : State → Aim → Merger → ℕ
merge_blocks object aim m = blocks_left object.held.fixed.doublings object.spent.lasts aim m

-- a merge went along a run: with what it has still to turn to it took no more blocks than it had before and the run fills
abbrev pub FollowsBlocks : State → State → Aim → Run → Merger → Merger → Type 0
FollowsBlocks old new aim run m n =
    new.spent.turned + merge_blocks new aim n ≤ old.spent.turned + merge_blocks old aim m + run_blocks old.held run

-- two merges went on side by side, the second by the other readers: they turned to no more
-- blocks than both had still to turn to
abbrev pub ComparesBlocks : State → State → Aim → Merger → Merger → Type 0
ComparesBlocks old new aim first second =
    new.spent.turned ≤ old.spent.turned + merge_blocks old aim first + merge_blocks (by_others old) aim second

-- at most how many blocks are turned to for a feed, and for those of an aim
abbrev pub feed_blocks : Held → Feed → ℕ
feed_blocks held (feed.Run run) = run_blocks held run
feed_blocks held (feed.Sampled run) = run_blocks held run
feed_blocks held (feed.One cell) = 0
feed_blocks held feed.Nothing = 0

abbrev pub aim_blocks : Held → Aim → ℕ
aim_blocks held aim = feed_blocks held aim.own + feed_blocks held aim.incoming + feed_blocks held aim.sample
