use Rattle.cola_filedev.proofs.LawsLemmas.{write-whole}
use Rattle.cola_filedev.proofs.laws.writes_whole.Goals as goal

pub returns : goal.returns
returns g c = λ bytes_of takes syncs old new at from answer inside written. write-whole g.F.OpenedFile.took g.F.OpenedFile.synced bytes_of takes syncs old new at from answer inside written
