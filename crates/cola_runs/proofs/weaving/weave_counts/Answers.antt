use Rattle.cola_runs.proofs.Counts.{keys_weave, looks_weave, items_weave, young_weave, length_weave}
use Rattle.cola_runs.proofs.weaving.weave_counts.Goals as goal

pub returns : goal.returns
returns g c = record {
  keys = λ part own incoming keys h. keys_weave g.K.Ord.cmp part own incoming keys h;
  looks = λ part own incoming keys h. looks_weave g.K.Ord.cmp part own incoming keys h;
  items = λ part own incoming keys. items_weave g.K.Ord.cmp part own incoming keys;
  young = λ part own incoming keys. young_weave g.K.Ord.cmp part own incoming keys;
  length = λ part own incoming keys h. length_weave g.K.Ord.cmp part own incoming keys h;
}
