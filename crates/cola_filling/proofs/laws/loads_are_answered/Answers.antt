use Rattle.cola_filling.proofs.LoadSaid.{answers, stays}
use Rattle.cola_filling.proofs.laws.loads_are_answered.Goals as goal

pub returns-clause-says : goal.returns-clause-says
returns-clause-says g c = λ keys block_exp status format source source' sink sink' device device' ends.
    (ends.geometry, (ends.is.keys_are, (ends.is.block_is, (ends.is.format_is, (answers g.S.Source g.K.Sink g.D.Device ends.geometry source source' sink sink' device device' status ends.ends, ends.spends)))))

pub returns-clause-occupied : goal.returns-clause-occupied
returns-clause-occupied g c = λ keys block_exp status format source source' sink sink' device device' ends some.
    stays g.S.Source g.K.Sink g.D.Device ends.geometry source source' sink sink' device device' status some ends.ends
