use Rattle.std.proofs.Common.{◌<◌, ℕ}
use Rattle.cola_check.specs.Living.{AreFewAt}
use Rattle.cola_check.proofs.living.first_crowded.Given as goal

abbrev pub invariant-loop-level : goal.invariant-loop-level
invariant-loop-level l = record {
  few : (level : ℕ) → level < l.level → AreFewAt l.header l.counts level;
}
