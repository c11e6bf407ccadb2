-- One level fewer at each turn.
use Rattle.std.proofs.Common.{length}
use Rattle.cola_mutation.proofs.working.+work_levels.Given as goal

abbrev pub decreases-work_levels : goal.decreases-work_levels
decreases-work_levels g l = length l.levels.now
