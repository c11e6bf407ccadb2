use Rattle.std.proofs.Common.{sym, refl}
use Rattle.cola_spec.proofs.LineLaws.{text_of_ended_lines, text_of_lines, no_line_feed_in_lines, all_lines_ended, all_but_last_ended, lines_after_line_feed, ended_lines_after_line_feed}
use Rattle.cola_spec.proofs.laws.lines.Goals as goal

pub returns-clause-none : goal.returns-clause-none
returns-clause-none c = refl

pub returns-clause-ended : goal.returns-clause-ended
returns-clause-ended c = text_of_ended_lines

pub returns-clause-not_ended : goal.returns-clause-not_ended
returns-clause-not_ended c = text_of_lines

pub returns-clause-apart : goal.returns-clause-apart
returns-clause-apart c = no_line_feed_in_lines

pub returns-clause-all_ended : goal.returns-clause-all_ended
returns-clause-all_ended c = λ bytes. sym (all_lines_ended bytes)

pub returns-clause-but_the_last : goal.returns-clause-but_the_last
returns-clause-but_the_last c = all_but_last_ended

pub returns-clause-go_on : goal.returns-clause-go_on
returns-clause-go_on c = lines_after_line_feed

pub returns-clause-go_on_ended : goal.returns-clause-go_on_ended
returns-clause-go_on_ended c = ended_lines_after_line_feed
