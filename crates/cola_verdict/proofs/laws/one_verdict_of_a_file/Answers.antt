use Rattle.cola_verdict.proofs.Unique.{one-verdict}
use Rattle.cola_verdict.proofs.laws.one_verdict_of_a_file.Goals as goal

pub returns : goal.returns
returns c = one-verdict
