use Rattle.cola_line.specs.Replied.{reply_of}
use Rattle.cola_spec.specs.Command.{Reopen}
use Rattle.cola_table.specs.Replies.{turn_of}
use Rattle.cola_table.specs.contracts.flat.FlatTableTable.TheImpl.{ghosts}
use Rattle.cola_session.specs.Memory.{open_answer}
use Rattle.cola_session.proofs.InMemoryTurns.{open-turned}
use Rattle.cola_session.proofs.memory.MemorySessionHome.reopen.Goals as goal

pub returns-clause-turn : goal.returns-clause-turn
returns-clause-turn g c = λ state. (
  turn_of Reopen (open_answer c.args.self.is_open c.args.self.table.map) 0,
  open-turned ghosts g.K.Sink state c.write_reply-written.result c.args.self.table c.args.self.is_open c.args.sink.now c.write_reply-written.new.sink c.args._steps.now (reply_of c.open_reply.result) c.open_reply.ensures c.write_reply-written.ensures.wrote,
)
