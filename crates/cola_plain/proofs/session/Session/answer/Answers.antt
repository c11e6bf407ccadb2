use Rattle.cola_plain.specs.Command.{shape_of}
use Rattle.cola_plain.specs.declared.session.Stage.TheVariants as stage
use Rattle.cola_plain.proofs.SessionLemmas.{answered_at}
use Rattle.cola_plain.proofs.session.Session.answer.Goals as goal

pub returns-in-Closing-clause-answer : goal.returns-in-Closing-clause-answer
returns-in-Closing-clause-answer c state stands =
    answered_at (shape_of c.args.shape.now) c.args.self.now stage.Closing c.closing_answer-reply.result.1 c.args.request c.in-Some.command c.closing_answer-reply.result.0 state c.in-Some.is c.in-Closing.is stands
    (λ m standing. c.closing_answer-reply.ensures.reply (shape_of c.args.shape.now) m)
    (λ m. c.closing_answer-reply.ensures.stage (shape_of c.args.shape.now) m)

pub returns-in-Closed-clause-answer : goal.returns-in-Closed-clause-answer
returns-in-Closed-clause-answer c state stands =
    answered_at (shape_of c.args.shape.now) c.args.self.now (stage.Closed c.in-Closed.byte) c.closed_answer-reply.result.1 c.args.request c.in-Some.command c.closed_answer-reply.result.0 state c.in-Some.is c.in-Closed.is stands
    (λ m standing. c.closed_answer-reply.ensures.reply (shape_of c.args.shape.now) m (c.count.ensures m standing))
    (λ m. c.closed_answer-reply.ensures.stage (shape_of c.args.shape.now) m)
