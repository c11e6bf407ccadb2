use Rattle.cola_load.proofs.Rowing.{filled-sound-header}
use Rattle.cola_load.proofs.filled_laws.filled_headers_are_sound.Goals as goal

pub returns : goal.returns
returns c = filled-sound-header
