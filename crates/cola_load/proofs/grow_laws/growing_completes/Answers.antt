use Rattle.cola_load.proofs.Completing.{completes}
use Rattle.cola_load.proofs.grow_laws.growing_completes.Goals as goal

pub returns : goal.returns
returns g c = λ from from_now to to_now ticks ticks_now keys block_exp result header bytes m from-is stands few to-is calm other-calm grows.
    completes header bytes m stands g.D.Device g.E.Device from from_now to to_now ticks ticks_now keys block_exp from-is few to-is calm other-calm result grows
