use Rattle.std.proofs.Common.{◌<◌, length}
use Rattle.cola_cache.specs.Index.{block_in, chain_of, IsPlace}
use Rattle.cola_cache.proofs.index.place_above.Given as goal

abbrev pub invariant-loop-place : goal.invariant-loop-place
invariant-loop-place l = record {
  is_place : IsPlace (block_in l.blocks) (chain_of (length l.blocks)) (length l.blocks) (chain_of (length l.blocks) l.block) l.place;
  above : l.frame < l.place;
  within : l.place < length l.links;
}

abbrev pub decreases-loop-place : goal.decreases-loop-place
decreases-loop-place l = l.place
