use Rattle.cola_wide.proofs.laws.upgrades_are_refused.Goals as goal

pub returns-clause-memory : goal.returns-clause-memory
returns-clause-memory g c = λ from from' to to' refused. (refused.0, (refused.1.source, refused.1.untouched))

pub returns-clause-not_empty : goal.returns-clause-not_empty
returns-clause-not_empty g c = λ from from' to to' refused. (refused.0, (refused.1.source, refused.1.had))
