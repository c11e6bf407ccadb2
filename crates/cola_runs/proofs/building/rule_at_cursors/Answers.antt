use Rattle.cola_runs.proofs.Builds.{has_room, ended}
use Rattle.cola_runs.proofs.building.rule_at_cursors.Goals as goal

pub returns : goal.returns
returns g c = record {
  room = λ part own incoming keys h i k build u head cell e. has_room g.met.K.Ord.total part own incoming keys h i k build u head cell e;
  ended = λ part own incoming keys h i k build u e. ended g.met.K.Ord.total part own incoming keys h i k build u e;
}
