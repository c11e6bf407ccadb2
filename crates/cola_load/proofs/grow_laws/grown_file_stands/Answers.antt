use Rattle.cola_load.proofs.Completing.{grown-stands}
use Rattle.cola_load.proofs.grow_laws.grown_file_stands.Goals as goal

pub returns : goal.returns
returns g c = λ from from_now to to_now ticks ticks_now keys block_exp answer header bytes new m from-is stands new-is grows.
    grown-stands header bytes m stands g.D.Device g.E.Device from from_now to to_now ticks ticks_now keys block_exp from-is answer new new-is grows
