use Rattle.std.proofs.Common.{refl}
use Rattle.cola_tools.proofs.LoadLaws.{stand-for}
use Rattle.cola_tools.proofs.load_laws.loads_stand.Goals as goal

pub returns-clause-stands : goal.returns-clause-stands
returns-clause-stands c = stand-for

pub returns-clause-stamps : goal.returns-clause-stamps
returns-clause-stamps c = λ a b. refl

pub returns-clause-unstamped : goal.returns-clause-unstamped
returns-clause-unstamped c = λ a b. refl
