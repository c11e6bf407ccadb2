use Rattle.std.proofs.Common.{◌≡◌, length, replicate}
use Rattle.cola_check.proofs.Common.{no_count}
use Rattle.cola_check.proofs.tally.Tally.none.Given as goal

abbrev pub invariant-loop-level : goal.invariant-loop-level
invariant-loop-level l = record {
  filled : l.counts.items ≡ replicate l._level no_count;
  size : length l.counts.items ≡ l._level;
}
