use Rattle.cola_layout.proofs.Places.{group-in_block}
use Rattle.cola_layout.proofs.law.groups_lie_in_blocks.Goals as goal

pub returns : goal.returns
returns c = group-in_block
