use Rattle.std.proofs.Common.{refl, subst}
use Rattle.cola_line.specs.Spoken.{spoken, CommandFits}
use Rattle.cola_spec.specs.Reply as reply
use Rattle.cola_table.specs.Replies.{turn_of}
use Rattle.cola_command.specs.declared.place.Place.{Place}
use Rattle.cola_command.specs.declared.place.Place.TheVariants.{Closing, Closed}
use Rattle.cola_command.specs.File.{format_of}
use Rattle.cola_session.proofs.OfTable.{map_of}
use Rattle.cola_command.proofs.Asking.{ask-turned, shut-turned, shut-while_closing, shut-while_closed}
use Rattle.cola_command.proofs.lines.SessionHome.ask.Goals as goal

pub answer-requires-clause-fits : goal.answer-requires-clause-fits
answer-requires-clause-fits g c = subst (λ (p : Place g.row.D.Denot g.D.Device). CommandFits (format_of p c.args.self.now.format) c.args.command.now) c.in-Open.is c.requires.fits

pub returns-in-Open-clause-turn : goal.returns-in-Open-clause-turn
returns-in-Open-clause-turn g c = λ state.
    let a = c.answer.ensures.turn (map_of state) in (
      a.0,
      ask-turned g.D.Device g.K.Sink state c.args.command.now c.requires.of_table c.answer.result c.args.self.now _ c.in-Open.store c.answer.new.table c.in-Open.is refl c.args.sink.now c.answer.new.sink c.args.steps.now c.answer.new.steps
          a.0 a.1 c.answer.ensures.call.within c.answer.ensures.call.kept c.answer.ensures.call.faults_kept refl refl refl,
    )

pub returns-in-Closing-clause-turn : goal.returns-in-Closing-clause-turn
returns-in-Closing-clause-turn g c = λ state. (
  turn_of (spoken c.args.command.now) reply.Shut 0,
  shut-turned g.D.Device g.K.Sink state c.args.command.now c.requires.of_table c.write_reply.result c.args.self.now c.args.sink.now c.write_reply.new.sink c.args.steps.now _ (Closing c.in-Closing.field-0) c.in-Closing.is refl
      (shut-while_closing g.D.Device c.args.command.now c.requires.of_table c.in-Closing.field-0) c.write_reply.ensures.wrote,
)

pub returns-in-Closed-clause-turn : goal.returns-in-Closed-clause-turn
returns-in-Closed-clause-turn g c = λ state. (
  turn_of (spoken c.args.command.now) reply.Shut 0,
  shut-turned g.D.Device g.K.Sink state c.args.command.now c.requires.of_table c.write_reply-in-Closed.result c.args.self.now c.args.sink.now c.write_reply-in-Closed.new.sink c.args.steps.now _ (Closed c.in-Closed.field-0) c.in-Closed.is refl
      (shut-while_closed g.D.Device c.args.command.now c.requires.of_table c.in-Closed.field-0) c.write_reply-in-Closed.ensures.wrote,
)
