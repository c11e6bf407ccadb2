use Rattle.cola_command_laws.proofs.definition_laws.carried_out.Goals as goal

pub returns-clause-opened : goal.returns-clause-opened
returns-clause-opened g c = λ cache steps steps' device device' known lines turns answer all. (all.store, all.opened)

pub returns-clause-runs : goal.returns-clause-runs
returns-clause-runs g c = λ cache steps steps' device device' known lines turns answer all. (all.runs.asks, (all.runs.last, (all.runs.run, (all.runs.end, (all.runs.close, all.runs.left)))))
