use Rattle.cola_verdict.proofs.Existing.{some-verdict}
use Rattle.cola_verdict.proofs.laws.no_file_lacks_a_verdict.Goals as goal

pub returns : goal.returns
returns c = some-verdict
