use Rattle.std.proofs.Common.{◌≡◌, ◌+◌, ◌*◌, None, replicate, arith, rules}
use Rattle.cola_cache.proofs.ChainLemmas.{chained-none}
use Rattle.cola_cache.proofs.index.BlockIndex.new.Goals as goal

pub invariant_of-result : goal.invariant_of-result
invariant_of-result c =
    let blocks : c.into_boxed_slice-blocks.result.items.items ≡ replicate c.args.count None = search rules in
    let links : c.into_boxed_slice-links.result.items.items ≡ replicate (3 * c.args.count + 1) 0 = search rules in
    rw (blocks, links) (chained-none c.args.count (omega (arith, c.ranges.count.fits)))
