use Rattle.cola_clock.proofs.Laws.{flips-not_over, flips-over, flips-suc, flips-zero, over-next}
use Rattle.cola_clock.proofs.windows.flips_follow.Goals as goal

pub returns-clause-first : goal.returns-clause-first
returns-clause-first c = flips-zero

pub returns-clause-others : goal.returns-clause-others
returns-clause-others c = flips-suc

pub returns-clause-finished : goal.returns-clause-finished
returns-clause-finished c = flips-over

pub returns-clause-begins_anew : goal.returns-clause-begins_anew
returns-clause-begins_anew c = flips-not_over

pub returns-clause-over_until : goal.returns-clause-over_until
returns-clause-over_until c = over-next
