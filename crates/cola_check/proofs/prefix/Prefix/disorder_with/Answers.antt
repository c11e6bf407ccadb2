use Rattle.std.proofs.Common.{◌++◌, ◌∷◌, [], Option, sym, subst}
use Rattle.cola_check.proofs.Common.{as_cell, OrderIs}
use Rattle.cola_runs.proofs.Deciding.{false_is}
use Rattle.cola_check.proofs.Prefixes.{order-goes_on, order-ends}
use Rattle.cola_check.proofs.prefix.Prefix.disorder_with.Goals as goal

pub returns-then-is_next-clause-order : goal.returns-then-is_next-clause-order
returns-then-is_next-clause-order c = λ lists cells is.
    order-goes_on cells c.args.self.now.last c.args.self.now.looks (as_cell c.args.cell.now) is.last_is is.looks_is c.args.self.now.disorder is.order_is (c.is_next.ensures.0 c.if-is_next.true)

pub returns-clause-order : goal.returns-clause-order
returns-clause-order c = λ lists cells is.
    subst (λ (x : Option _). OrderIs (cells ++ as_cell c.args.cell.now ∷ []) x) (sym c.or.ensures)
    (order-ends cells c.args.self.now.last c.args.self.now.looks (as_cell c.args.cell.now) is.last_is is.looks_is c.args.self.now.disorder c.args.self.now.place is.place_is is.order_is
    (λ n. false_is c.is_next.result c.if-is_next.false (c.is_next.ensures.1 n)))
