use Rattle.std.proofs.Common.{◌≡◌, length, take}
use Rattle.cola_chain.specs.Runs.{visible_runs}
use Rattle.cola_chain.proofs.lists.runs_of.Given as goal

abbrev pub invariant-loop-number : goal.invariant-loop-number
invariant-loop-number l = record {
  built : l.runs.items ≡ visible_runs l.clock 0 (take l.number l.levels);
  size : length l.runs.items ≡ l.number;
}
