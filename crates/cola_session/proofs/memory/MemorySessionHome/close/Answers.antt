use Rattle.cola_line.specs.Replied.{reply_of}
use Rattle.cola_spec.specs.Command.{Close}
use Rattle.cola_table.specs.Replies.{turn_of}
use Rattle.cola_table.specs.contracts.flat.FlatTableTable.TheImpl.{ghosts}
use Rattle.cola_session.specs.Memory.{close_answer}
use Rattle.cola_session.proofs.InMemoryTurns.{close-turned}
use Rattle.cola_session.proofs.memory.MemorySessionHome.close.Goals as goal

pub returns-clause-turn : goal.returns-clause-turn
returns-clause-turn g c = λ state steps. (
  turn_of Close (close_answer c.args.self.is_open) 0,
  close-turned ghosts g.K.Sink state c.write_reply-written.result c.args.self.table c.args.self.is_open c.args.sink.now c.write_reply-written.new.sink steps (reply_of c.close_reply.result) c.close_reply.ensures c.write_reply-written.ensures.wrote,
)
