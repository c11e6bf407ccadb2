-- The laws of feeds and of merges that begin.
use Rattle.std.specs.Prelude.{◌≡◌, ◌≢◌, ◌⊎◌, ℕ, ◌≤◌, ◌↔◌, List, ◌++◌}
use Rattle.cola_runs.specs.Cells.{sample}
use Rattle.cola_runs.specs.Steps.{begun}
use Rattle.cola_cell.specs.declared.cell.Run.{Run}
use Rattle.cola_cell.specs.Held.{Held, LawCell}
use Rattle.cola_cell.specs.Listed.{IsRun}
use Rattle.cola_cell.specs.ToldCells.{run_cells}
use Rattle.cola_merge.specs.declared.aims.Feed.TheVariants as feed
use Rattle.cola_merge.specs.declared.aims.Aim.{Aim}
use Rattle.cola_merge.specs.declared.merging.Merger.{Merger}
use Rattle.cola_merge.specs.Feeds.{feed_len, feed_keys}
use Rattle.cola_merge.specs.Heads.{fresh, HasHeads, fetched, build_of}
use Rattle.cola_merge.specs.States.{Grows}
use Rattle.cola_merge.specs.Advance.{whole_run, cells_read}
use Rattle.cola_merge.specs.Pulls.{AreInOrder, IsCutAt, ahead}

-- the keys of a sampled feed are the sample of its run
abbrev pub SampledFeedHasSample : Type 0
SampledFeedHasSample = (held : Held) (run : Run) →
    feed_keys held (feed.Sampled run) ≡ sample (run_cells held run)

-- the build of a merge that has not begun, over an empty shadow, has not begun
abbrev pub FreshMergeHasNotBegun : Type 0
FreshMergeHasNotBegun = (held : Held) (aim : Aim) →
    (held.shadows aim.level).len ≡ 0 → build_of held aim fresh ≡ begun

-- while the shadow of a level grows, each run stays that does not reach behind the shadow's end in its slot
abbrev pub GrowingKeepsRuns : Type 0
GrowingKeepsRuns = (old new : Held) (level : ℕ) (run : Run) (cells : List LawCell) → Grows old new level →
    (run.level ≢ level) ⊎ (run.slot ≢ (old.shadows level).slot) ⊎ (run.len ≤ (old.shadows level).len) →
    IsRun old run cells → IsRun new run cells

-- where the sources are in order, emitted cells are a cut at the cursors exactly where they, followed by what is ahead, are the whole run
abbrev pub CutLeavesTheRestAhead : Type 0
CutLeavesTheRestAhead = (held : Held) (aim : Aim) (m : Merger) (done : List LawCell) → AreInOrder held aim →
    m.sample.at ≤ feed_len aim.sample →
    (done ++ ahead held aim m ≡ whole_run held aim) ↔ IsCutAt held aim m done

-- of the feeds of a merge no more cells were read than they have
abbrev pub FetchesWithinFeeds : Type 0
FetchesWithinFeeds = (held : Held) (aim : Aim) (m : Merger) →
    HasHeads held aim m → fetched aim m ≤ cells_read aim
