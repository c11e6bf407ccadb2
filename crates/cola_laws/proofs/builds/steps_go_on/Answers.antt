use Rattle.cola_laws.proofs.Workable.{stepped-working}
use Rattle.cola_laws.proofs.Windows.{working-less}
use Rattle.cola_laws.proofs.builds.steps_go_on.Goals as goal

pub returns : goal.returns
returns g c = record {
  steps = λ part own incoming keys least count before after own_rises incoming_rises sorted w s.
      stepped-working g.met.K.Ord.total part own incoming keys least count before after own_rises incoming_rises sorted w s;
  fewer = λ part own incoming keys least less build h w. working-less g.K.Ord.cmp part own incoming keys least less build h w;
}
