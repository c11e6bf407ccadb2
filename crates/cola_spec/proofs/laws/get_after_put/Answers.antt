use Rattle.std.proofs.Common.{ap, option_map}
use Rattle.cola_spec.specs.Map.{with_value, put_outcome}
use Rattle.cola_spec.proofs.MapLaws.{settled_accepted, settled_refused, get_after, others_after}
use Rattle.cola_spec.proofs.laws.get_after_put.Goals as goal

pub returns-clause-value : goal.returns-clause-value
returns-clause-value c = λ shape m key value h. ap (option_map (λ s. s.value)) (get_after shape m key value (put_outcome shape m key) h)

pub returns-clause-stamp : goal.returns-clause-stamp
returns-clause-stamp c = λ shape m key value h. ap (option_map (λ s. s.stamp)) (get_after shape m key value (put_outcome shape m key) h)

pub returns-clause-others : goal.returns-clause-others
returns-clause-others c = λ shape m key value other apart. others_after shape m key value (put_outcome shape m key) other apart

pub returns-clause-last : goal.returns-clause-last
returns-clause-last c = λ shape m key value h. ap (λ n. n.last) (settled_accepted (put_outcome shape m key) m (with_value shape m key value) h)

pub returns-clause-refused : goal.returns-clause-refused
returns-clause-refused c = λ shape m key value h. settled_refused (put_outcome shape m key) m (with_value shape m key value) h
