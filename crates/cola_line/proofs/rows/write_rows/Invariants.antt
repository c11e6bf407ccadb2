use Rattle.std.proofs.Common.{◌≡◌, ◌+◌, ◌^◌, ◌<◌, ◌≤◌, option_copied}
use Rattle.cola_spec.specs.Map.{Map}
use Rattle.cola_spec.specs.Bounds.{range_bound}
use Rattle.cola_line.proofs.Walking.{SoFar}
use Rattle.cola_line.proofs.rows.write_rows.Given as goal

abbrev pub invariant-rows : goal.invariant-rows
invariant-rows g l = record {
  stands : g.T.Table.stands l.table l.walk;
  room : l.rows + g.T.Table.most l.walk < 2 ^ 64;
  kept : g.T.Table.kept l.table ≡ g.T.Table.kept l.fn.table;
  terms : g.T.Table.terms l.table ≡ g.T.Table.terms l.fn.table;
  sink_faults : g.K.Sink.faults l.sink ≡ g.K.Sink.faults l.fn.sink;
  steps : l.fn.steps ≤ l.steps;
  left : l.steps + g.T.Table.left l.walk ≤ l.fn.steps + range_bound (g.T.Table.terms l.fn.table).depth;
  so_far : SoFar g.T.Table g.K.Sink l.low (option_copied l.high) l.most l.fn.table l.fn.sink l.rows l.table l.walk l.sink;
  sound : (m : Map) → g.T.Table.holds l.fn.table m → g.T.Table.holds l.table m;
}

abbrev pub decreases-rows : goal.decreases-rows
decreases-rows g l = g.T.Table.most l.walk
