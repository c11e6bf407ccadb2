use Rattle.cola_front.proofs.Stored.{new_is}
use Rattle.cola_front.proofs.front.Front.new.Goals as goal

pub returns : goal.returns
returns c =
    new_is c.args.format c.args.block_exp c.cells_of_block-block.result c.width.result c.in_ok-bytes.bytes.items.items c.width.ensures c.cells_of_block-block.ensures.value c.in_ok-bytes.ensures
