use Rattle.cola_load.proofs.Blocks.{blocks-rise}
use Rattle.cola_load.proofs.loader_laws.full_blocks_rise.Goals as goal

pub returns : goal.returns
returns c = λ g rows more h. blocks-rise g rows more h
