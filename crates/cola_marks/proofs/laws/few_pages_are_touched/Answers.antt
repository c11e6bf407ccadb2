use Rattle.cola_marks.proofs.PageLemmas.{at_most_17, at_most_one}
use Rattle.cola_marks.proofs.laws.few_pages_are_touched.Goals as goal

pub returns-clause-most : goal.returns-clause-most
returns-clause-most c = at_most_17

pub returns-clause-one : goal.returns-clause-one
returns-clause-one c = at_most_one
