use Rattle.std.proofs.Common.{◌≡◌, ◌+◌, ◌≤◌, length, take, drop, All, option_copied}
use Rattle.cola_spec.specs.Map.{Map}
use Rattle.cola_spec.specs.Bounds.{range_bound}
use Rattle.cola_handle.specs.Cursors.{IsGoodRow}
use Rattle.cola_handle.specs.Walking.{Came}
use Rattle.cola_handle.proofs.Filling.{SoFar}
use Rattle.cola_handle.proofs.walking.fill.Given as goal

abbrev pub invariant-rows : goal.invariant-rows
invariant-rows g l = record {
  came : Came g.T.Table.begins g.T.Table.goes l.cursor l.low (option_copied l.high) l.fn.table l.rows l.given l.table l.walk;
  stands : g.T.Table.stands l.table l.walk;
  few : l.given ≤ length l.rows;
  size : length l.rows ≡ length l.fn.rows;
  good : All IsGoodRow (take l.given l.rows);
  others : drop l.given l.rows ≡ drop l.given l.fn.rows;
  kept : g.T.Table.kept l.table ≡ g.T.Table.kept l.fn.table;
  terms : g.T.Table.terms l.table ≡ g.T.Table.terms l.fn.table;
  faults : g.T.Table.faults l.table ≡ g.T.Table.faults l.fn.table;
  steps : l.fn.steps ≤ l.steps;
  left : l.steps + g.T.Table.left l.walk ≤ l.fn.steps + range_bound (g.T.Table.terms l.fn.table).depth;
  so_far : (m : Map) → g.T.Table.holds l.fn.table m → SoFar g.T.Table l.cursor l.low (option_copied l.high) m l.given l.rows l.table l.walk;
}

abbrev pub decreases-rows : goal.decreases-rows
decreases-rows g l = g.T.Table.most l.walk
