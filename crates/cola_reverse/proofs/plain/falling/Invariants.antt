use Rattle.std.proofs.Common.{◌≡◌, filter, take}
use Rattle.cola_reverse.specs.Falling.{within_bounds}
use Rattle.cola_reverse.proofs.plain.falling.Given as goal

-- the pairs so far that lie within
abbrev pub invariant-loop-pair : goal.invariant-loop-pair
invariant-loop-pair g l = l.found.items ≡ filter (λ pair. within_bounds g.K.Ord.cmp l.low l.high pair.0) (take l.pair-index l.pairs)
