use Rattle.cola_spec.proofs.SpellingLaws.{requests_of_both}
use Rattle.cola_spec.proofs.command_laws.lines_ask.Goals as goal

pub returns-clause-in_order : goal.returns-clause-in_order
returns-clause-in_order c = requests_of_both
