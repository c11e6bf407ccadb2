use Rattle.std.proofs.Common.{◌∙◌}
use Rattle.cola_front.proofs.Places.{put_next}
use Rattle.cola_front.proofs.block.put_cells.Goals as goal

pub loop-place-preserved : goal.loop-place-preserved
loop-place-preserved c =
    c.put_place.ensures ∙ put_next c.args.format c.args.bytes.now c.args.first c.loop-place.place c.loop-place.block c.args.block.now c.loop-place.invariant
