use Rattle.cola_mutation.proofs.Reading.{runs_sampled, runs_answer, runs_few}
use Rattle.cola_mutation.proofs.laws.standing_levels_answer.Goals as goal

pub returns-clause-sampled : goal.returns-clause-sampled
returns-clause-sampled c = runs_sampled

pub returns-clause-answers : goal.returns-clause-answers
returns-clause-answers c = runs_answer

pub returns-clause-few : goal.returns-clause-few
returns-clause-few c = runs_few
