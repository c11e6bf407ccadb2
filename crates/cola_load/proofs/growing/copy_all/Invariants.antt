use Rattle.std.proofs.Common.{◌≡◌, ◌+◌, ◌-◌, ◌≤◌, List}
use Rattle.cola_cursor.specs.Lines.{Reading, all_left}
use Rattle.cola_cursor.specs.Standing.{Stands}
use Rattle.cola_opening.specs.Counted.{Spends}
use Rattle.cola_load.specs.Filled.{Row}
use Rattle.cola_load.specs.Loading.{full_blocks}
use Rattle.cola_load.specs.Growing.{IsCopied, IsFillingOf}
use Rattle.cola_load.proofs.growing.copy_all.Given as goal

abbrev pub invariant-loop-next : goal.invariant-loop-next
invariant-loop-next g l = record {
  held_is : (g.W.CellSource.state l.work).held ≡ (g.W.CellSource.state l.fn.work).held;
  kept_is : g.W.CellSource.kept l.work ≡ g.W.CellSource.kept l.fn.work;
  other_kept : g.E.Device.kept l.to ≡ g.E.Device.kept l.fn.to;
  calm : (g.W.CellSource.state l.work).spent.faults ≡ (g.W.CellSource.state l.fn.work).spent.faults;
  other_calm : (g.E.Device.counts l.to).faults ≡ (g.E.Device.counts l.fn.to).faults;
  reading : Reading (g.W.CellSource.state l.fn.work) (g.W.CellSource.state l.work) l.fn.steps l.steps;
  left : l.steps + all_left l.cursor.lines.items ≤ l.fn.steps + all_left l.fn.cursor.lines.items;
  stands : Stands (g.W.CellSource.state l.work).held l.cursor;
  filling : IsFillingOf l.filling l.loader;
  geometry_is : l.filling.geometry ≡ l.begun.geometry;
  last_is : l.filling.last ≡ l.begun.last;
  few : l.filling.rows ≤ l.filling.geometry.keys;
  writes : Spends (g.E.Device.counts l.fn.to) (g.E.Device.counts l.to) 0 (full_blocks l.begun.geometry l.filling.rows) 0;
  copied : (rows : List Row) × IsCopied (g.W.CellSource.state l.fn.work).held l.fn.cursor l.cursor l.loader (g.E.Device.bytes l.to) rows;
}

abbrev pub decreases-loop-next : goal.decreases-loop-next
decreases-loop-next g l = l.filling.geometry.keys - l.filling.rows
