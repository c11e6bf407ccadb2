use Rattle.cola_chain.proofs.Account.{paid-stays}
use Rattle.cola_chain.proofs.laws.searches_are_not_counted.Goals as goal

pub returns : goal.returns
returns g c = λ old new only paid. paid-stays g.D.Device.bytes g.D.Device.counts g.D.Device.kept old new only.held_is only.kept_is only.lasts_are paid
