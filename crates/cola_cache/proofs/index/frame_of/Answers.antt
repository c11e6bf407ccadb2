use Rattle.std.proofs.Common.{Option, false, eqb, ◌≡◌, ◌≢◌, ◌+◌, ◌-◌, inl, inr, ℕ, Some, length, sym, ◌∙◌, ap, arith}
use Rattle.std.specs.Option.{option_eq}
use Rattle.std.proofs.lemmas.Bool.Decides.{nat_tests}
use Rattle.cola_cache.specs.Index.{block_in, chain_of}
use Rattle.cola_cache.proofs.ChainLemmas.{listed-inside, walk-from}
use Rattle.cola_cache.proofs.index.frame_of.Goals as goal

differs : (found : Option ℕ) (block : ℕ) → option_eq eqb found (Some block) ≡ false → found ≡ Some block → ⊥
differs found block fails is = let test : eqb block block ≡ false = rw is at fails in grind (arith, nat_tests, test)

pub loop-link-init : goal.loop-link-init
loop-link-init c = walk-from c.args.blocks.now c.args.links.now c.args.block (length c.args.blocks.now + c.chain_of_block.result) c.requires
    (inl (ap (λ number. length c.args.blocks.now + number) c.chain_of_block.ensures.is))
    (λ frame held. omega (arith, listed-inside c.args.blocks.now frame c.args.block held))

pub loop-link-smaller : goal.loop-link-smaller
loop-link-smaller c =
    let place : c.loop-link.link ≡ (c.loop-link.link - 1) + 1 = omega (arith, c.loop-link-test.true) in
    let here = c.loop-link.invariant.leads (c.loop-link.link - 1) place in
    let down = (c.requires.linked (chain_of (length c.args.blocks.now) c.args.block) (c.loop-link.link - 1) (inr here)).down in
    omega (arith, down, c.loop-link-test.true)

pub loop-link-preserved : goal.loop-link-preserved
loop-link-preserved c =
    let place : c.loop-link.link ≡ (c.loop-link.link - 1) + 1 = omega (arith, c.loop-link-test.true) in
    let here = c.loop-link.invariant.leads (c.loop-link.link - 1) place in
    walk-from c.args.blocks.now c.args.links.now c.args.block (c.loop-link.link - 1) c.requires (inr here)
    (λ frame held.
    let less = c.loop-link.invariant.misses_none frame held in
    let apart : frame ≢ c.loop-link.link - 1 = (λ same.
    let is : block_in c.args.blocks.now (c.loop-link.link - 1) ≡ Some c.args.block = ap (block_in c.args.blocks.now) (sym same) ∙ held in
    differs (block_in c.args.blocks.now (c.loop-link.link - 1)) c.args.block (sym c.eq.ensures ∙ c.if-eq.false) is) in
    omega (arith, less, apart))
