use Rattle.std.proofs.Common.{◌+◌, ◌-◌, inl, inr, ℕ, length, get_or, ap, arith}
use Rattle.cola_cache.specs.Index.{chain_of}
use Rattle.cola_cache.proofs.ChainLemmas.{listed-inside}
use Rattle.cola_cache.proofs.index.place_above.Goals as goal

pub loop-place-init : goal.loop-place-init
loop-place-init c = record {
  is_place = inl (ap (λ number. length c.args.blocks.now + number) c.chain_of_block.ensures.is);
  above = omega (arith, c.requires.inside);
  within = omega (arith, c.chain_of_block.ensures.within, c.requires.chained.as_many);
}

pub loop-place-smaller : goal.loop-place-smaller
loop-place-smaller c =
    let is_link = c.requires.chained.linked (chain_of (length c.args.blocks.now) c.args.block) c.loop-place.place c.loop-place.invariant.is_place in
    omega (arith, is_link.down, c.loop-place-test.true)

pub loop-place-preserved : goal.loop-place-preserved
loop-place-preserved c =
    let is_link = c.requires.chained.linked (chain_of (length c.args.blocks.now) c.args.block) c.loop-place.place c.loop-place.invariant.is_place in
    let link : ℕ = get_or c.args.links.now c.loop-place.place 0 in
    let next = is_link.leads (link - 1) (omega (arith, c.loop-place-test.true)) in
    record {
      is_place = inr next;
      above = omega (arith, c.loop-place-test.true);
      within = omega (arith, listed-inside c.args.blocks.now (link - 1) next.0 next.1, c.requires.chained.as_many);
    }

pub returns-clause-above : goal.returns-clause-above
returns-clause-above c = record {
  is_place = c.loop-place.invariant.is_place;
  above = c.loop-place.invariant.above;
  passes = omega (arith, c.loop-place-test.false);
}
