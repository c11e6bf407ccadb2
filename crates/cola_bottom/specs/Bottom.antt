-- The aim of a merge at the bottom.
use Rattle.std.specs.Prelude.{ℕ, true, false, List, []}
use Rattle.cola_clock.specs.declared.state.Part.TheVariants.{All}
use Rattle.cola_runs.specs.Weave.{bottom_items, weave}
use Rattle.cola_cell.specs.declared.cell.Run.{Run}
use Rattle.cola_cell.specs.Held.{Held, LawCell}
use Rattle.cola_cell.specs.Order.{key_cmp}
use Rattle.cola_cell.specs.ToldCells.{run_cells}
use Rattle.cola_merge.specs.declared.aims.Feed.TheVariants as feed
use Rattle.cola_merge.specs.declared.aims.Aim.{Aim}

-- the bottom's next run in a slot: all items of its own run and of the incoming one, all old,
-- with neither tombstones nor lookahead cells
abbrev pub bottom_of : Run → Run → ℕ → Aim
bottom_of own incoming slot = record {
  level = own.level;
  slot = slot;
  own = feed.Run own;
  incoming = feed.Run incoming;
  sample = feed.Nothing;
  part = All;
  young = false;
  bottom = true;
}

-- the cells that the bottom's two runs weave
abbrev pub bottom_run : Held → Run → Run → List LawCell
bottom_run held own incoming = weave key_cmp bottom_items (run_cells held own) (run_cells held incoming) []
