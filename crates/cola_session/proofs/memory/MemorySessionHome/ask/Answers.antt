use Rattle.std.proofs.Common.{ap}
use Rattle.cola_line.specs.Spoken.{spoken}
use Rattle.cola_spec.specs.Reply as reply
use Rattle.cola_table.specs.Replies.{turn_of}
use Rattle.cola_table.specs.contracts.flat.FlatTableTable.TheImpl.{ghosts}
use Rattle.cola_session.proofs.OfTable.{map_of}
use Rattle.cola_session.proofs.InMemoryTurns.{ask-turned, shut-turned}
use Rattle.cola_session.proofs.memory.MemorySessionHome.ask.Goals as goal

pub returns-then-self-clause-turn : goal.returns-then-self-clause-turn
returns-then-self-clause-turn g c = λ state.
    let answered = c.answer.ensures.turn (map_of state) in
    let turn = answered.1 in (
      answered.0,
      ask-turned ghosts g.K.Sink state c.answer.result c.args.command.now c.requires.of_table c.args.self.now c.args.sink.now c.answer.new.sink c.args.steps.now c.answer.new.steps c.answer.new.table c.if-self.true
          answered.0 turn.asked turn.wrote turn.counted c.answer.ensures.call.within turn.faults turn.given (ap (λ t. t.limit) c.answer.ensures.call.same_terms) turn.step,
    )

pub returns-else-self-clause-turn : goal.returns-else-self-clause-turn
returns-else-self-clause-turn g c = λ state. (
  turn_of (spoken c.args.command.now) reply.Shut 0,
  shut-turned ghosts g.K.Sink state c.write_reply.result c.args.command.now c.requires.of_table c.args.self.now c.args.sink.now c.write_reply.new.sink c.args.steps.now c.if-self.false c.write_reply.ensures.wrote,
)
