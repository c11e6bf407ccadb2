use Rattle.std.proofs.Common.{ap}
use Rattle.cola_plain.specs.Session.{state_at}
use Rattle.cola_plain.specs.declared.session.Stage.TheVariants as stage
use Rattle.cola_plain.proofs.SessionLemmas.{faulted_at}
use Rattle.cola_plain.proofs.session.Session.faulted.Goals as goal

pub returns-in_ok-reply-in-Open-clause-step : goal.returns-in_ok-reply-in-Open-clause-step
returns-in_ok-reply-in-Open-clause-step c state stands =
    faulted_at c.args.self.now stage.Open c.in_ok-reply-in-Open.stage c.args.rows c.args.byte c.args.request c.in-Some.command c.in_ok-reply-in-Open.reply state c.in-Some.is c.in-Open.is stands
    (λ m standing. (c.in_ok-reply-in-Open.ensures m standing).0)
    (λ m standing. (c.in_ok-reply-in-Open.ensures m standing).1 c.args.byte)

pub returns-in-Closing-clause-step : goal.returns-in-Closing-clause-step
returns-in-Closing-clause-step c state stands =
    faulted_at c.args.self.now stage.Closing c.args.self.now.stage c.args.rows c.args.byte c.args.request c.in-Some.command c.closing_faulted.result state c.in-Some.is c.in-Closing.is stands
    (λ m standing. c.closing_faulted.ensures c.args.rows m)
    (λ m standing. ap (λ at. state_at at m) c.in-Closing.is)

pub returns-in-Closed-clause-step : goal.returns-in-Closed-clause-step
returns-in-Closed-clause-step c state stands =
    faulted_at c.args.self.now (stage.Closed c.in-Closed.before) c.closed_faulted-reply.result.1 c.args.rows c.args.byte c.args.request c.in-Some.command c.closed_faulted-reply.result.0 state c.in-Some.is c.in-Closed.is stands
    (λ m standing. c.closed_faulted-reply.ensures.reply c.args.rows m)
    (λ m standing. c.closed_faulted-reply.ensures.stage m)
