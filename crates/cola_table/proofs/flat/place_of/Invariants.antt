use Rattle.std.proofs.Common.{◌≤◌, ◌-◌, length}
use Rattle.cola_spec.specs.Map.{key_cmp}
use Rattle.cola_table.specs.Flat.{place_of}
use Rattle.cola_table.proofs.flat.place_of.Given as goal

abbrev pub invariant-loop-low : goal.invariant-loop-low
invariant-loop-low l = record {
  from_low : l.low ≤ place_of key_cmp l.key l.entries.list;
  upto_high : place_of key_cmp l.key l.entries.list ≤ l.high;
  in_range : l.high ≤ length l.entries.list;
}

abbrev pub decreases-loop-low : goal.decreases-loop-low
decreases-loop-low l = l.high - l.low
