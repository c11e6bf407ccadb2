use Rattle.std.proofs.Common.{◌≡◌, length, take}
use Rattle.cola_load.specs.Growing.{runs_in}
use Rattle.cola_load.proofs.growing.visible_runs.Given as goal

abbrev pub invariant-loop-level : goal.invariant-loop-level
invariant-loop-level l = record {
  many : length l.runs.items ≡ l.level;
  so_far : l.runs.items ≡ take l.level (runs_in l.header);
}
