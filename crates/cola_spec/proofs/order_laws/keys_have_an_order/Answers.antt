use Rattle.cola_spec.proofs.OrderLaws.{begins_first, differs_first, ties_alone, turned}
use Rattle.cola_spec.proofs.order_laws.keys_have_an_order.Goals as goal

pub returns-clause-begins : goal.returns-clause-begins
returns-clause-begins c = begins_first

pub returns-clause-differs : goal.returns-clause-differs
returns-clause-differs c = differs_first

pub returns-clause-ties : goal.returns-clause-ties
returns-clause-ties c = ties_alone

pub returns-clause-turned : goal.returns-clause-turned
returns-clause-turned c = turned
