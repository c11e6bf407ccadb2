use Rattle.cola_filedev.proofs.LawsLemmas.{laid-size, refused-size}
use Rattle.cola_filedev.proofs.laws.lays_out_the_size.Goals as goal

pub returns-clause-laid : goal.returns-clause-laid
returns-clause-laid g c = λ size_of sets old new size laid. laid-size g.F.OpenedFile.cut size_of sets old new size laid

pub returns-clause-refused : goal.returns-clause-refused
returns-clause-refused g c = λ size_of sets old new size error small laid. refused-size g.F.OpenedFile.cut size_of sets old new size error small laid
