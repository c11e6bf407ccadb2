use Rattle.std.proofs.Common.{refl}
use Rattle.cola_line.specs.Replied.{reply_of}
use Rattle.cola_spec.specs.Command.{Close}
use Rattle.cola_table.specs.Replies.{turn_of}
use Rattle.cola_command.specs.File.{format_of}
use Rattle.cola_command.proofs.Asking.{turned}
use Rattle.cola_command.proofs.PlaceTurns.{close-facts, format-keeps}
use Rattle.cola_command.proofs.lines.SessionHome.close.Goals as goal

pub returns-clause-turn : goal.returns-clause-turn
returns-clause-turn g c = λ state steps.
    let answer = reply_of c.close-place.result.1 in
    let cause = c.close-place.ensures.cause in (
      turn_of Close answer 0,
      turned g.D.Device g.K.Sink state c.write_reply-written.result c.args.self _ c.args.sink.now c.write_reply-written.new.sink steps steps refl Close answer c.write_reply-written.ensures.wrote
          (close-facts g.D.Device c.args.self.place answer c.close-place.result.0 cause c.close-place.ensures.kept) cause refl refl
          (format-keeps g.D.Device c.close-place.result.0 c.format_of-format.result (format_of c.args.self.place c.args.self.format) c.format_of-format.ensures) refl,
    )
