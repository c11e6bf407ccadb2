use Rattle.std.proofs.Common.{ℕ}
use Rattle.cola_filedev.specs.Work.{InPieces, Written, Laid}
use Rattle.cola_filedev.proofs.LawsLemmas.{hides-none}
use Rattle.cola_filedev.proofs.laws.hides_no_refusal.Goals as goal

pub returns-clause-size : goal.returns-clause-size
returns-clause-size g c = hides-none g.O.File.OpenedFile.sized g.O.Opener.opened

pub returns-clause-layout : goal.returns-clause-layout
returns-clause-layout g c = λ (size : ℕ). hides-none (Laid g.O.File.OpenedFile.cut size) g.O.Opener.opened

pub returns-clause-read : goal.returns-clause-read
returns-clause-read g c = λ at before after. hides-none (λ old answer new. InPieces g.O.File.OpenedFile.gave old at before answer after new) g.O.Opener.opened

pub returns-clause-write : goal.returns-clause-write
returns-clause-write g c = λ at from. hides-none (λ old answer new. Written g.O.File.OpenedFile.took g.O.File.OpenedFile.synced old at from answer new) g.O.Opener.opened

pub returns-clause-settle : goal.returns-clause-settle
returns-clause-settle g c = hides-none g.O.File.OpenedFile.synced g.O.Opener.opened
