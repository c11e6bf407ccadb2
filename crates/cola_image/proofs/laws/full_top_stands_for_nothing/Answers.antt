use Rattle.cola_image.proofs.WorkedNothing.{crowded-spelled, crowded-whole, crowded-told, crowded-none}
use Rattle.cola_image.proofs.laws.full_top_stands_for_nothing.Goals as goal

pub returns-clause-spelled : goal.returns-clause-spelled
returns-clause-spelled c = crowded-spelled

pub returns-clause-whole : goal.returns-clause-whole
returns-clause-whole c = crowded-whole

pub returns-clause-told : goal.returns-clause-told
returns-clause-told c = crowded-told

pub returns-clause-none : goal.returns-clause-none
returns-clause-none c = crowded-none
