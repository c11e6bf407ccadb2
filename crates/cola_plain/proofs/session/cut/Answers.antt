use Rattle.std.proofs.Common.{◌∙◌, ap, map}
use Rattle.cola_spec.specs.Reply.{Cut, Fault}
use Rattle.cola_plain.specs.Map.{pair_with}
use Rattle.cola_plain.proofs.MapLemmas.{rows_taken}
use Rattle.cola_plain.proofs.session.cut.Goals as goal

pub returns : goal.returns
returns c = ap (λ rows. Cut rows Fault) (ap (map pair_with) c.truncate.ensures.items ∙ rows_taken c.args.most c.args.rows.items)
