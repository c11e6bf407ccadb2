use Rattle.std.proofs.Common.{ap, ◌∙◌}
use Rattle.cola_cell.specs.Decoded.{decoded}
use Rattle.cola_cell.proofs.DecodedLemmas.{decoding_is}
use Rattle.cola_front.proofs.FrontLemmas.{narrow-place, wide-place}
use Rattle.cola_front.proofs.block.packed_in.Goals as goal

pub returns-in-One : goal.returns-in-One
returns-in-One c =
    decoding_is c.args.format _ c.of.result c.of.ensures ∙ ap (decoded c.args.format) (narrow-place c.args.format c.args.block.now c.args.place c.in-One.is)

pub returns-in-Two : goal.returns-in-Two
returns-in-Two c =
    decoding_is c.args.format _ c.of-in-Two.result c.of-in-Two.ensures ∙ ap (decoded c.args.format) (wide-place c.args.format c.args.block.now c.args.place c.in-Two.is)
