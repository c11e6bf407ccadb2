use Rattle.cola_plain.proofs.StepLaws.{steps_chosen, not_chosen, scripted_is_step}
use Rattle.cola_plain.proofs.laws.steps_are_chosen.Goals as goal

pub returns-clause-chosen : goal.returns-clause-chosen
returns-clause-chosen c = steps_chosen

pub returns-clause-kept : goal.returns-clause-kept
returns-clause-kept c = not_chosen

pub returns-clause-scripted : goal.returns-clause-scripted
returns-clause-scripted c = scripted_is_step
