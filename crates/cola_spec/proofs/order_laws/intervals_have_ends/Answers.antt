use Rattle.std.proofs.Common.{refl}
use Rattle.cola_spec.proofs.OrderLaws.{from_tells, before_tells}
use Rattle.cola_spec.proofs.order_laws.intervals_have_ends.Goals as goal

pub returns-clause-from : goal.returns-clause-from
returns-clause-from c = from_tells

pub returns-clause-before : goal.returns-clause-before
returns-clause-before c = before_tells

pub returns-clause-without_end : goal.returns-clause-without_end
returns-clause-without_end c = λ key. refl

pub returns-clause-range : goal.returns-clause-range
returns-clause-range c = λ m low high. refl
