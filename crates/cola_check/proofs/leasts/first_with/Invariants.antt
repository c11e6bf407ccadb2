use Rattle.std.proofs.Common.{◌≤◌, length}
use Rattle.cola_check.proofs.leasts.first_with.Given as goal

abbrev pub invariant-loop-first : goal.invariant-loop-first
invariant-loop-first l = l.first ≤ length l.leasts

abbrev pub decreases-loop-first : goal.decreases-loop-first
decreases-loop-first l = l.first
