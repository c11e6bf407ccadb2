use Rattle.cola_load.proofs.Completing.{headless-left}
use Rattle.cola_load.proofs.grow_laws.refused_files_have_no_header.Goals as goal

pub returns : goal.returns
returns g c = λ from from_now to to_now ticks ticks_now keys block_exp fault grows. headless-left g.D.Device g.E.Device from from_now to to_now ticks ticks_now keys block_exp fault grows
