use Rattle.cola_cache.proofs.ChainLemmas.{IsWalk}
use Rattle.cola_cache.proofs.index.frame_of.Given as goal

abbrev pub invariant-loop-link : goal.invariant-loop-link
invariant-loop-link l = IsWalk l.blocks l.block l.link

abbrev pub decreases-loop-link : goal.decreases-loop-link
decreases-loop-link l = l.link
