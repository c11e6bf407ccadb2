-- As many steps were counted as the loop made rounds.
use Rattle.std.proofs.Common.{◌≡◌, ◌+◌}
use Rattle.cola_cell.proofs.windows.tick_all.Given as goal

abbrev pub invariant-loop : goal.invariant-loop
invariant-loop g l = l.steps ≡ l.fn.steps + l.counter
