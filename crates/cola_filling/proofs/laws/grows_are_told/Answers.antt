use Rattle.cola_filling.proofs.GrowSaid.{answers}
use Rattle.cola_filling.proofs.laws.grows_are_told.Goals as goal

pub returns : goal.returns
returns g c = λ keys block_exp steps steps' status device device' second second' sink sink' ends. answers g.K.Sink g.D.Device keys block_exp device device' second second' sink sink' steps steps' status ends
