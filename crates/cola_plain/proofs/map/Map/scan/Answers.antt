use Rattle.std.proofs.Common.{◌∙◌, ap, map, take}
use Rattle.cola_plain.specs.Map.{pair_with}
use Rattle.cola_plain.proofs.MapLemmas.{rows_taken}
use Rattle.cola_plain.proofs.map.Map.scan.Goals as goal

pub returns : goal.returns
returns c m stands = ap (map pair_with) c.truncate.ensures.items ∙ rows_taken c.args.most c.in_ok-rows.rows.items ∙ ap (take c.args.most) (c.in_ok-rows.ensures m stands)
