-- How the test of a file ends.
use Rattle.cola_command.proofs.Judging.{ends-by}
use Rattle.cola_command.proofs.checked.check_file.Goals as goal

pub returns-clause-ends : goal.returns-clause-ends
returns-clause-ends g c =
    ends-by g.K.Sink g.D.Device c.args.device c.check-device.result.0 c.args.sink.now c.write_answer-status.new.sink c.args.steps.now c.check-device.new.steps c.write_answer-status.result c.check-device.result.1
    c.check-device.ensures.checks c.write_answer-status.ensures
