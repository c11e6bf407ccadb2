use Rattle.cola_cell.specs.Decoded.{standing}
use Rattle.cola_cell.proofs.Packs.{value-filled}
use Rattle.cola_cell.proofs.packed.value_in.Goals as goal

pub of_room-requires-clause-filled : goal.of_room-requires-clause-filled
of_room-requires-clause-filled c = value-filled c.args.format (standing c.args.format c.args.bytes.now) c.args.bytes.now c.value_at.result c.width.result c.value_at.ensures c.width.ensures c.requires
