use Rattle.std.proofs.Common.{refl}
use Rattle.cola_layout.proofs.Levels.{marks-empty}
use Rattle.cola_layout.proofs.law.empty_marks_fit.Goals as goal

pub returns-clause-nothing : goal.returns-clause-nothing
returns-clause-nothing c = (refl, refl, refl, refl, refl)

pub returns-clause-fit : goal.returns-clause-fit
returns-clause-fit c = marks-empty
