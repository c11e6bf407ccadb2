use Rattle.cola_mirror.proofs.RebuildSaid.{says, keeps}
use Rattle.cola_mirror.proofs.rebuild_laws.rebuilds_are_answered.Goals as goal

pub returns-clause-says : goal.returns-clause-says
returns-clause-says g c = λ from from_now to to_now result rebuilds. says g.D.Device g.E.Device from from_now to to_now result rebuilds

pub returns-clause-occupied : goal.returns-clause-occupied
returns-clause-occupied g c = λ from from_now to to_now result bytes old rebuilds is old-is some other.
    keeps g.D.Device g.E.Device from from_now to to_now bytes old is old-is some other result rebuilds
