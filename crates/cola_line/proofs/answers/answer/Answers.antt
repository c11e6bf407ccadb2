use Rattle.std.proofs.Common.{◌-◌}
use Rattle.cola_spec.specs.Command as spec
use Rattle.cola_table.specs.Replies.{turn_of}
use Rattle.cola_line.specs.Spoken.{spoken}
use Rattle.cola_line.specs.Replied.{reply_of}
use Rattle.cola_line.proofs.Turns.{line_answered, range_answered, scan_answered}
use Rattle.cola_line.proofs.Walking.{one_line}
use Rattle.cola_line.proofs.answers.answer.Goals as goal

pub returns-in-Range-clause-turn : goal.returns-in-Range-clause-turn
returns-in-Range-clause-turn g c m =
    let rows = c.write_rows.ensures.rows m in
    rw c.in-Range.is (
      turn_of (spec.Range c.in-Range.low c.in-Range.high) rows.0 (c.write_rows.new.steps - c.args.steps.now),
      range_answered g.T.Table g.K.Sink m c.args.cost _ c.args.table.now c.write_rows.new.table c.args.sink.now c.write_rows.new.sink c.args.steps.now c.write_rows.new.steps c.in-Range.low c.in-Range.high rows.0 c.write_rows.ensures.call.steps_kept (c.write_rows.ensures.sound m) rows.1,
    )

pub returns-in-Scan-clause-turn : goal.returns-in-Scan-clause-turn
returns-in-Scan-clause-turn g c m =
    let rows = c.write_rows-in-Scan.ensures.rows m in
    rw c.in-Scan.is (
      turn_of (spec.Scan c.in-Scan.low c.in-Scan.most) rows.0 (c.write_rows-in-Scan.new.steps - c.args.steps.now),
      scan_answered g.T.Table g.K.Sink m c.args.cost _ c.args.table.now c.write_rows-in-Scan.new.table c.args.sink.now c.write_rows-in-Scan.new.sink c.args.steps.now c.write_rows-in-Scan.new.steps c.in-Scan.low c.in-Scan.most rows.0 c.write_rows-in-Scan.ensures.call.steps_kept (c.write_rows-in-Scan.ensures.sound m) rows.1,
    )

pub returns-in_default : goal.returns-in_default
returns-in_default g c = record {
  turn = λ m. (
    turn_of (spoken c.args.command.now) (reply_of c.ask-reply.result.0) (c.ask-reply.new.steps - c.args.steps.now),
    line_answered g.T.Table g.K.Sink m c.args.cost _ c.args.table.now c.ask-reply.new.table c.args.sink.now c.write_reply.new.sink c.args.steps.now c.ask-reply.new.steps c.args.command.now (reply_of c.ask-reply.result.0) c.ask-reply.result.1
        (one_line c.args.command.now c.requires.of_table c.in_default.not-Range c.in_default.not-Scan) c.ask-reply.ensures.call.steps_kept (c.ask-reply.ensures.ticks c.args.cost) c.ask-reply.ensures.turn c.write_reply.ensures.wrote,
  );
  call = c.ask-reply.ensures.call;
  faults_counted = c.write_reply.ensures.faults_counted;
  faults_kept = c.write_reply.ensures.faults_kept;
}
