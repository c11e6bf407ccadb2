use Rattle.cola_spec.proofs.SpellingLaws.{command_is_spelt, spelt_is_command, key_word, value_word}
use Rattle.cola_spec.proofs.command_laws.commands_are_spelt.Goals as goal

pub returns-clause-spelt : goal.returns-clause-spelt
returns-clause-spelt c = λ shape text command. (command_is_spelt shape text command, spelt_is_command shape text command)

pub returns-clause-key : goal.returns-clause-key
returns-clause-key c = key_word

pub returns-clause-value : goal.returns-clause-value
returns-clause-value c = value_word
