-- One level fewer at each call.
use Rattle.std.proofs.Common.{length}
use Rattle.cola_check.proofs.leasts.+lower_all.Given as goal

abbrev pub decreases-lower_all : goal.decreases-lower_all
decreases-lower_all l = length l.levels.now
