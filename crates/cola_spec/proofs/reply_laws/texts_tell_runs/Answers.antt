use Rattle.cola_spec.proofs.ToldSteps.{runs_are_told}
use Rattle.cola_spec.proofs.reply_laws.texts_tell_runs.Goals as goal

pub returns : goal.returns
returns c = runs_are_told
