use Rattle.cola_store.specs.Create.{new_header}
use Rattle.cola_store.proofs.laws.new_file_stands.Goals as goal

pub returns : goal.returns
returns c = λ format keys block_exp bottom bytes file. (new_header format keys block_exp bottom, file.stands)
