use Rattle.std.proofs.Common.{sym, ◌∙◌, nat_eq}
use Rattle.cola_spec.specs.Map.{with_value, put_outcome, put_if_outcome, stamp_or_zero}
use Rattle.cola_spec.proofs.MapLaws.{settled_accepted, settled_refused, put_if_is_other, put_if_is_put, put_by_put_if}
use Rattle.cola_spec.proofs.laws.get_after_put_if.Goals as goal

pub returns-clause-other : goal.returns-clause-other
returns-clause-other c = λ shape m key seen stamp. put_if_is_other shape m key seen stamp

pub returns-clause-put : goal.returns-clause-put
returns-clause-put c = λ shape m key seen same. put_if_is_put shape m key seen same

pub returns-clause-accepted : goal.returns-clause-accepted
returns-clause-accepted c = λ shape m key seen value h. settled_accepted (put_if_outcome shape m key seen) m (with_value shape m key value) h ∙ sym (settled_accepted (put_outcome shape m key) m (with_value shape m key value) (put_by_put_if (nat_eq (stamp_or_zero m key) seen) (stamp_or_zero m key) (put_outcome shape m key) h))

pub returns-clause-refused : goal.returns-clause-refused
returns-clause-refused c = λ shape m key seen value h. settled_refused (put_if_outcome shape m key seen) m (with_value shape m key value) h
