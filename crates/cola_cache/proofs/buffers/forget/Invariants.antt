use Rattle.std.proofs.Common.{◌≡◌, ◌++◌, take, drop, map}
use Rattle.cola_cache.specs.Blocks.{forgotten}
use Rattle.cola_cache.proofs.buffers.forget.Given as goal

abbrev pub invariant-loop-last : goal.invariant-loop-last
invariant-loop-last l = l.lasts ≡ map (forgotten l.block) (take l.last-index l.fn.lasts) ++ drop l.last-index l.fn.lasts
