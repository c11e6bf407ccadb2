use Rattle.cola_verdict.proofs.Alike.{same-verdicts}
use Rattle.cola_verdict.proofs.laws.verdict_by_its_cells.Goals as goal

pub returns : goal.returns
returns c = same-verdicts
