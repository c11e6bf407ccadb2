-- What a test answers.
use Rattle.cola_check.proofs.Judging.{checks}
use Rattle.cola_check.proofs.checking.check.Goals as goal

pub returns-in-Ok-clause-checks : goal.returns-in-Ok-clause-checks
returns-in-Ok-clause-checks g c =
    checks g.D.Device c.in-Ok.header c.args.device c.read_closed.new.device c.test_file.result.0 c.args.steps.now c.test_file.new.steps c.test_file.result.1 c.in-Ok.ensures.found.0 c.test_file.ensures.tests
