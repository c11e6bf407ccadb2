-- One level fewer at each call.
use Rattle.std.proofs.Common.{length}
use Rattle.cola_mutation.proofs.ending.+end_levels.Given as goal

abbrev pub decreases-end_levels : goal.decreases-end_levels
decreases-end_levels g l = length l.levels.now
