use Rattle.cola_verdict.proofs.Standing.{passing-stands}
use Rattle.cola_verdict.proofs.laws.sound_files_stand.Goals as goal

pub returns : goal.returns
returns c = passing-stands
