use Rattle.cola_verdict.proofs.Standing.{standing-passes}
use Rattle.cola_verdict.proofs.laws.standing_files_are_sound.Goals as goal

pub returns : goal.returns
returns c = standing-passes
