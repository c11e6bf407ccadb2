use Rattle.std.proofs.Common.{ap, ◌∙◌}
use Rattle.cola_spec.specs.Map.{count, with_value, put_outcome}
use Rattle.cola_spec.proofs.MapLaws.{settled_accepted, count_pairs, count_with_value, count_after_delete}
use Rattle.cola_spec.proofs.laws.counts.Goals as goal

pub returns-clause-pairs : goal.returns-clause-pairs
returns-clause-pairs c = count_pairs

pub returns-clause-put : goal.returns-clause-put
returns-clause-put c = λ shape m key value h. ap count (settled_accepted (put_outcome shape m key) m (with_value shape m key value) h) ∙ count_with_value shape m key value

pub returns-clause-delete : goal.returns-clause-delete
returns-clause-delete c = count_after_delete
