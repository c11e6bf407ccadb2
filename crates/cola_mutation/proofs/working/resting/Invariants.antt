-- The levels that were looked at rest.
use Rattle.cola_mutation.specs.Levels.{DoRest}
use Rattle.cola_mutation.proofs.working.resting.Given as goal

abbrev pub invariant-loop-i : goal.invariant-loop-i
invariant-loop-i l = DoRest l.clock l.upper l.i
