use Rattle.cola_plain.specs.declared.session.Stage.TheVariants as stage
use Rattle.cola_plain.proofs.SessionLemmas.{short_at}
use Rattle.cola_plain.proofs.session.Session.short_of_memory.Goals as goal

pub returns-in-Closed : goal.returns-in-Closed
returns-in-Closed c state stands =
    short_at c.args.self.now (stage.Closed c.in-Closed.byte) c.args.request c.in-Some.command c.closed_short.result state c.in-Some.is c.in-Closed.is stands c.closed_short.ensures
