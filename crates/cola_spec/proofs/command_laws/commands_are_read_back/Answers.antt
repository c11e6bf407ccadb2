use Rattle.cola_spec.proofs.SpellingLaws.{text_is_command, asked_is_askable, text_is_short, lines_ask_commands}
use Rattle.cola_spec.proofs.command_laws.commands_are_read_back.Goals as goal

pub returns-clause-text : goal.returns-clause-text
returns-clause-text c = text_is_command

pub returns-clause-short : goal.returns-clause-short
returns-clause-short c = text_is_short

pub returns-clause-lines : goal.returns-clause-lines
returns-clause-lines c = lines_ask_commands

pub returns-clause-askable : goal.returns-clause-askable
returns-clause-askable c = asked_is_askable
