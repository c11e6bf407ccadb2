use Rattle.std.proofs.Common.{refl}
use Rattle.cola_line.specs.Replied.{reply_of}
use Rattle.cola_spec.specs.Command.{Reopen}
use Rattle.cola_table.specs.Replies.{turn_of}
use Rattle.cola_command.proofs.Asking.{turned}
use Rattle.cola_command.proofs.PlaceTurns.{open-format}
use Rattle.cola_command.proofs.Reopening.{open-facts}
use Rattle.cola_command.proofs.lines.SessionHome.reopen.Goals as goal

pub returns-clause-turn : goal.returns-clause-turn
returns-clause-turn g c = λ state.
    let answer = reply_of c.open-place.result.1 in
    let cause = c.open-place.ensures.cause in (
      turn_of Reopen answer 0,
      turned g.D.Device g.K.Sink state c.write_reply-written.result c.args.self _ c.args.sink.now c.write_reply-written.new.sink c.args.steps.now c.open-place.new.steps c.open-place.ensures.no_tick Reopen answer c.write_reply-written.ensures.wrote
          (open-facts g.D.Device c.args.self.cache c.args.self.place answer c.open-place.result.0 cause c.open-place.ensures.kept) cause refl refl
          (open-format g.D.Device c.args.self.cache c.args.self.place answer c.open-place.result.0 c.args.self.format cause) c.cut_after-cut_off.ensures,
    )
