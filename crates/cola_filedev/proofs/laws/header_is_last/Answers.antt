use Rattle.cola_filedev.proofs.LawsLemmas.{header-last}
use Rattle.cola_filedev.proofs.laws.header_is_last.Goals as goal

pub returns : goal.returns
returns g c = λ bytes_of takes syncs old new from answer inside written. header-last g.F.OpenedFile.took g.F.OpenedFile.synced bytes_of takes syncs old new from answer inside written
