use Rattle.std.proofs.Common.{◌≡◌, ◌<◌, None, length, get_or, ◌∙◌}
use Rattle.std.proofs.lemmas.Grind.{get_or_default_zero}
use Rattle.cola_cache.specs.Index.{block_in, IsAbove}
use Rattle.cola_cache.proofs.ChainLemmas.{chained-inserted}
use Rattle.cola_cache.proofs.index.BlockIndex.insert.Goals as goal

pub invariant_of-self : goal.invariant_of-self
invariant_of-self c =
    let inside : c.args.frame < length c.self.inside.blocks.items.items = rw c.self.view_is c.requires.inside in
    let free : block_in c.self.inside.blocks.items.items c.args.frame ≡ None = rw c.self.view_is c.requires.free in
    let above : IsAbove c.self.inside.blocks.items.items c.self.inside.links.items.items c.args.block c.args.frame c.place_above-place.result = rw (c.deref.ensures.value, c.deref-2.ensures.value) at c.place_above-place.ensures.above in
    let within : c.place_above-place.result < length c.self.inside.links.items.items = rw c.deref-2.ensures.value at c.place_above-place.ensures.within in
    let read : c.index.result.now ≡ get_or c.self.inside.links.items.items c.place_above-place.result 0 = c.index.ensures ∙ get_or_default_zero c.self.inside.links.items.items c.place_above-place.result c.index.result.now within in
    rw read (chained-inserted c.self.inside.blocks.items.items c.self.inside.links.items.items c.args.block c.args.frame c.place_above-place.result c.self.invariant inside free above within)
