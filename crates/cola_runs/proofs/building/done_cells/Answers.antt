use Rattle.cola_runs.proofs.Builds.{formed_done, length_done, items_done, young_done}
use Rattle.cola_runs.proofs.building.done_cells.Goals as goal

pub returns : goal.returns
returns g c = record {
  formed = λ part own incoming keys build h u. formed_done g.met.K.Ord.total part own incoming keys h build u;
  length = λ part own incoming keys build u. length_done g.K.Ord.cmp part own incoming keys build u;
  items = λ part own incoming keys build u. items_done g.K.Ord.cmp part own incoming keys build u;
  young = λ part own incoming keys build u. young_done g.K.Ord.cmp part own incoming keys build u;
}
