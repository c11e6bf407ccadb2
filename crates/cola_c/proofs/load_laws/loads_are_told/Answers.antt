use Rattle.cola_c.proofs.LoadsTold.{loads-begin, load-refusals, rows-are-loaded, loads-end}
use Rattle.cola_c.proofs.load_laws.loads_are_told.Goals as goal

pub returns-clause-begins : goal.returns-clause-begins
returns-clause-begins c = loads-begin

pub returns-clause-refusals : goal.returns-clause-refusals
returns-clause-refusals c = load-refusals

pub returns-clause-rows : goal.returns-clause-rows
returns-clause-rows c = rows-are-loaded

pub returns-clause-ends : goal.returns-clause-ends
returns-clause-ends c = loads-end
