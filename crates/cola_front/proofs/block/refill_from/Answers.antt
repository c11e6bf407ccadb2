use Rattle.std.proofs.Common.{ap, ◌∙◌}
use Rattle.cola_cell.specs.Decoded.{decoded}
use Rattle.cola_front.proofs.FrontLemmas.{narrow-place, wide-place, refilled}
use Rattle.cola_front.proofs.block.refill_from.Goals as goal

pub returns-in-One : goal.returns-in-One
returns-in-One c =
    refilled c.args.format _ c.refill.result c.refill.new.self c.refill.ensures.cell ∙ ap (decoded c.args.format) (narrow-place c.args.format c.args.block.now c.args.place c.in-One.is)

pub returns-in-Two : goal.returns-in-Two
returns-in-Two c =
    refilled c.args.format _ c.refill-in-Two.result c.refill-in-Two.new.self c.refill-in-Two.ensures.cell ∙ ap (decoded c.args.format) (wide-place c.args.format c.args.block.now c.args.place c.in-Two.is)
