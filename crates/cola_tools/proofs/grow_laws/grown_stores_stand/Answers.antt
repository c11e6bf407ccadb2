use Rattle.cola_tools.proofs.GrowLaws.{stands, refused}
use Rattle.cola_tools.proofs.grow_laws.grown_stores_stand.Goals as goal

pub returns-clause-stands : goal.returns-clause-stands
returns-clause-stands c = stands

pub returns-clause-refused : goal.returns-clause-refused
returns-clause-refused c = refused
