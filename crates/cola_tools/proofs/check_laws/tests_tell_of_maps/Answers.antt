use Rattle.cola_tools.proofs.CheckLaws.{sound, broken, complete}
use Rattle.cola_tools.proofs.check_laws.tests_tell_of_maps.Goals as goal

pub returns-clause-sound : goal.returns-clause-sound
returns-clause-sound c = sound

pub returns-clause-broken : goal.returns-clause-broken
returns-clause-broken c = broken

pub returns-clause-complete : goal.returns-clause-complete
returns-clause-complete c = complete
