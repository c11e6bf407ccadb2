use Rattle.cola_c.proofs.TellingRows.{seeks-told, nexts-told, counts-told}
use Rattle.cola_c.proofs.laws.rows_are_told.Goals as goal

pub returns-clause-seeks : goal.returns-clause-seeks
returns-clause-seeks c = seeks-told

pub returns-clause-nexts : goal.returns-clause-nexts
returns-clause-nexts c = nexts-told

pub returns-clause-counts : goal.returns-clause-counts
returns-clause-counts c = counts-told
