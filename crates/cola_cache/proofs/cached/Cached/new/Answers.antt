use Rattle.std.proofs.Common.{◌≡◌, ℕ, ◌*◌, ◌^◌, [], length, ap, subst, sym, ◌∙◌}
use Rattle.cola_cache.specs.Order.{Frames, Holds, blocks_of}
use Rattle.cola_cache.proofs.OrderLemmas.{lookup-unheld, length-unheld, blocks-unheld}
use Rattle.cola_cache.proofs.cached.Cached.new.Goals as goal

pub invariant_of-result : goal.invariant_of-result
invariant_of-result g c = (
  λ frame block holds. absurd (lookup-unheld c.args.blocks frame block (subst (λ (order : Frames). Holds order frame block) c.in-Ok.ensures.order holds)),
  c.in-Ok.ensures.copies ∙ sym (ap (λ (n : ℕ). n * c.size_of_block-size.result) (ap (λ (order : Frames). length order) c.in-Ok.ensures.order ∙ length-unheld c.args.blocks)),
  c.size_of_block-size.ensures.least,
  c.size_of_block-size.ensures.most,
)

pub returns-in-Ok-clause-made : goal.returns-in-Ok-clause-made
returns-in-Ok-clause-made g c =
    let held : blocks_of c.in-Ok.order ≡ [] = ap blocks_of c.in-Ok.ensures.order ∙ blocks-unheld c.args.blocks in
    let blocks : length c.in-Ok.order ≡ c.args.blocks = ap (λ (order : Frames). length order) c.in-Ok.ensures.order ∙ length-unheld c.args.blocks in
    let size : c.size_of_block-size.result ≡ 64 * 2 ^ c.args.block_exp = c.size_of_block-size.ensures.is in
    λ i. record { device = c.args.device; held = held i; blocks = blocks i; size = size i }
