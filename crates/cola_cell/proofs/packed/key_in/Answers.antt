use Rattle.cola_cell.proofs.Packs.{key-filled}
use Rattle.cola_cell.proofs.packed.key_in.Goals as goal

pub of_room-requires-clause-filled : goal.of_room-requires-clause-filled
of_room-requires-clause-filled c = key-filled c.args.format c.args.bytes.now c.key_at.result c.value_at.result c.key_at.ensures c.value_at.ensures c.requires
