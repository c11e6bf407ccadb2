use Rattle.cola_workload.proofs.laws.halves_are_carried_out.Goals as goal

pub returns-clause-filled : goal.returns-clause-filled
returns-clause-filled g c = λ keys steps before now filled all. (all.made_on, (all.was.store, (all.file, (all.was.opened, (all.was.fills, all.closed)))))

pub returns-clause-asked : goal.returns-clause-asked
returns-clause-asked g c = λ keys steps tally before now asked all. (all.was.store, (all.was.opened, (all.was.asks, all.closed)))

pub returns-clause-filled_so_far : goal.returns-clause-filled_so_far
returns-clause-filled_so_far g c = λ keys steps before result last was. (was.store, (was.opened, was.fills))

pub returns-clause-asked_so_far : goal.returns-clause-asked_so_far
returns-clause-asked_so_far g c = λ keys steps tally before result last was. (was.store, (was.opened, was.asks))
