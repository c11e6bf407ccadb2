use Rattle.cola_load.proofs.Completing.{says, stays}
use Rattle.cola_load.proofs.grow_laws.grows_are_answered.Goals as goal

pub returns : goal.returns
returns g c = record {
  says = says g.D.Device g.E.Device;
  occupied = λ from from_now to to_now ticks ticks_now keys block_exp result grows some. stays g.D.Device g.E.Device from from_now to to_now ticks ticks_now keys block_exp some result grows;
}
