use Rattle.cola_filedev.proofs.LawsLemmas.{read-whole}
use Rattle.cola_filedev.proofs.laws.reads_whole.Goals as goal

pub returns : goal.returns
returns g c = λ bytes_of gives old new at before after answer pieces. read-whole g.F.OpenedFile.gave bytes_of gives old new at before after answer pieces
