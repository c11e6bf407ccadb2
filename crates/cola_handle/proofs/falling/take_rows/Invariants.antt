use Rattle.std.proofs.Common.{◌≡◌, ◌+◌, ◌≤◌, List, length, take, drop, map, All}
use Rattle.cola_spec.specs.Map.{Map}
use Rattle.cola_handle.specs.Cursors.{Pair, row_pair, IsGoodRow}
use Rattle.cola_handle.specs.Walking.{GoesOn}
use Rattle.cola_handle.proofs.Taking.{SoFar}
use Rattle.cola_handle.proofs.falling.take_rows.Given as goal

abbrev pub invariant-rows : goal.invariant-rows
invariant-rows g l = record {
  gone : GoesOn g.T.Table.begins g.T.Table.goes l.fn.table l.fn.walk (map row_pair (take l.given l.rows)) l.table l.walk;
  stands : g.T.Table.stands l.table l.walk;
  few : l.given ≤ length l.rows;
  size : length l.rows ≡ length l.fn.rows;
  good : All IsGoodRow (take l.given l.rows);
  others : drop l.given l.rows ≡ drop l.given l.fn.rows;
  kept : g.T.Table.kept l.table ≡ g.T.Table.kept l.fn.table;
  terms : g.T.Table.terms l.table ≡ g.T.Table.terms l.fn.table;
  faults : g.T.Table.faults l.table ≡ g.T.Table.faults l.fn.table;
  steps : l.fn.steps ≤ l.steps;
  left : l.steps + g.T.Table.left l.walk ≤ l.fn.steps + g.T.Table.left l.fn.walk;
  so_far : (m : Map) (pairs : List Pair) → g.T.Table.holds l.fn.table m → g.T.Table.ahead l.fn.table l.fn.walk pairs → SoFar g.T.Table m pairs l.given l.rows l.table l.walk;
}

abbrev pub decreases-rows : goal.decreases-rows
decreases-rows g l = g.T.Table.most l.walk
