use Rattle.std.proofs.Common.{None, refl}
use Rattle.std.specs.declared.ops.Bound.TheVariants.{Unbounded}
use Rattle.cola_store.specs.Backward.{pairs_back}
use Rattle.cola_store.specs.Store.{Holds}
use Rattle.cola_store.specs.Walks.{Ahead}
use Rattle.cola_store.proofs.Falling.{last-answers, asked-last}
use Rattle.cola_store.proofs.store.Store.last.Goals as goal

pub returns-clause-answer : goal.returns-clause-answer
returns-clause-answer g c = λ m holds.
    let begun = c.in_ok-walk.ensures.answer m holds in
    last-answers m (Ahead g.D.Device.bytes c.next.new.self c.next.new.walk) (Holds g.D.Device.bytes c.next.new.self) c.next.result
    (c.next.ensures.answer m (pairs_back m None Unbounded) begun.1 begun.0) (c.next.ensures.sound m begun.1)

pub returns-clause-given : goal.returns-clause-given
returns-clause-given g c =
    asked-last g.D.Device.bytes g.D.Device.counts _ _ _ _ _ _ _ _ _ c.in_ok-walk.ensures.given c.next.ensures.given (c.in_ok-walk.ensures.unread refl) c.next.ensures.call.within c.next.ensures.left
