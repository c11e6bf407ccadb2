use Rattle.std.proofs.Common.{◌≡◌, length}
use Rattle.cola_check.proofs.leasts.leasts_of.Given as goal

abbrev pub invariant-loop-level : goal.invariant-loop-level
invariant-loop-level l = length l.leasts.items ≡ l._level
