use Rattle.std.proofs.Common.{◌∙◌, ap, sym, option_map}
use Rattle.cola_plain.specs.Command.{request_with, shape_of}
use Rattle.cola_plain.specs.Reply.{reply_with}
use Rattle.cola_plain.proofs.ScriptLemmas.{scripted_plainly}
use Rattle.cola_plain.proofs.session.Session.scripted.Goals as goal

pub returns-in-None-clause-answer : goal.returns-in-None-clause-answer
returns-in-None-clause-answer c state stands =
    let chosen = c.in_ok-reply.ensures.answer state stands in
    scripted_plainly c.args.choice (shape_of c.args.shape.now) c.chosen.new.self c.answer.new.self state (request_with c.args.request) c.answer.result
    (ap (option_map reply_with) (sym c.in-None.is) ∙ chosen.0) chosen.1 c.answer.ensures.answer
