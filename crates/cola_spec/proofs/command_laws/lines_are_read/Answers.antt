use Rattle.std.proofs.Common.{refl}
use Rattle.cola_spec.proofs.SpellingLaws.{line_too_long, line_with_return, line_without_return, written_lines}
use Rattle.cola_spec.proofs.command_laws.lines_are_read.Goals as goal

pub returns-clause-limit : goal.returns-clause-limit
returns-clause-limit c = refl

pub returns-clause-too_long : goal.returns-clause-too_long
returns-clause-too_long c = line_too_long

pub returns-clause-empty : goal.returns-clause-empty
returns-clause-empty c = refl

pub returns-clause-return_dropped : goal.returns-clause-return_dropped
returns-clause-return_dropped c = line_with_return

pub returns-clause-kept : goal.returns-clause-kept
returns-clause-kept c = line_without_return

pub returns-clause-written : goal.returns-clause-written
returns-clause-written c = written_lines
