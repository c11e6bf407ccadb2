use Rattle.cola_layout.proofs.Places.{slot-blocks}
use Rattle.cola_layout.proofs.law.slots_are_blocks.Goals as goal

pub returns : goal.returns
returns c = slot-blocks
