-- One level fewer at each call.
use Rattle.std.proofs.Common.{length}
use Rattle.cola_check.proofs.level_walks.+pass_all.Given as goal

abbrev pub decreases-pass_all : goal.decreases-pass_all
decreases-pass_all g l = length l.levels.now
