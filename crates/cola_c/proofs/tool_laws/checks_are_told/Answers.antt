use Rattle.cola_c.proofs.ToolsTold.{checks-sound, checks-broken, checks-complete}
use Rattle.cola_c.proofs.tool_laws.checks_are_told.Goals as goal

pub returns-clause-sound : goal.returns-clause-sound
returns-clause-sound c = checks-sound

pub returns-clause-broken : goal.returns-clause-broken
returns-clause-broken c = checks-broken

pub returns-clause-complete : goal.returns-clause-complete
returns-clause-complete c = checks-complete
