use Rattle.cola_load.proofs.Blocks.{blocks-few}
use Rattle.cola_load.proofs.loader_laws.loads_write_few_blocks.Goals as goal

pub returns : goal.returns
returns c = λ g rows. blocks-few g rows
