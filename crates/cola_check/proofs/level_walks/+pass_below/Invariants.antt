-- One level fewer at each call.
use Rattle.std.proofs.Common.{length}
use Rattle.cola_check.proofs.level_walks.+pass_below.Given as goal

abbrev pub decreases-pass_below : goal.decreases-pass_below
decreases-pass_below g l = length l.levels.now
