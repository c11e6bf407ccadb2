use Rattle.std.proofs.Common.{ap, refl, option_map}
use Rattle.cola_spec.proofs.MapLaws.{get_after_delete, others_after_delete}
use Rattle.cola_spec.proofs.laws.get_after_delete.Goals as goal

pub returns-clause-absent : goal.returns-clause-absent
returns-clause-absent c = λ m key. ap (option_map (λ s. s.value)) (get_after_delete m key)

pub returns-clause-others : goal.returns-clause-others
returns-clause-others c = others_after_delete

pub returns-clause-last : goal.returns-clause-last
returns-clause-last c = λ m key. refl
