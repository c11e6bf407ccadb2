use Rattle.cola_plain.proofs.FaultLaws.{short_is_chosen, short_is_memory}
use Rattle.cola_plain.proofs.laws.short_steps_are_chosen.Goals as goal

pub returns-clause-chosen : goal.returns-clause-chosen
returns-clause-chosen c = short_is_chosen

pub returns-clause-only : goal.returns-clause-only
returns-clause-only c = short_is_memory
