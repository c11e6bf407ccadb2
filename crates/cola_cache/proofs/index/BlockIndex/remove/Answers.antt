use Rattle.std.proofs.Common.{◌≡◌, ◌<◌, Some, length, get_or, ◌∙◌, arith}
use Rattle.std.proofs.lemmas.Grind.{get_or_default_zero}
use Rattle.cola_cache.specs.Index.{block_in, IsAbove}
use Rattle.cola_cache.proofs.ChainLemmas.{chained-removed}
use Rattle.cola_cache.proofs.index.BlockIndex.remove.Goals as goal

pub invariant_of-self : goal.invariant_of-self
invariant_of-self c =
    let was : block_in c.self.inside.blocks.items.items c.args.frame ≡ Some c.args.block = rw c.self.view_is c.requires.held in
    let above : IsAbove c.self.inside.blocks.items.items c.self.inside.links.items.items c.args.block c.args.frame c.place_above-place.result = rw (c.deref.ensures.value, c.deref-2.ensures.value) at c.place_above-place.ensures.above in
    let within : c.place_above-place.result < length c.self.inside.links.items.items = rw c.deref-2.ensures.value at c.place_above-place.ensures.within in
    let read : c.index.result.now ≡ get_or c.self.inside.links.items.items c.args.frame 0 = c.index.ensures ∙ get_or_default_zero c.self.inside.links.items.items c.args.frame c.index.result.now (omega (arith, above.above, within)) in
    rw read (chained-removed c.self.inside.blocks.items.items c.self.inside.links.items.items c.args.block c.args.frame c.place_above-place.result c.self.invariant was above within)
