use Rattle.cola_command_laws.proofs.definition_laws.modes_are_served.Goals as goal

pub returns-clause-workload : goal.returns-clause-workload
returns-clause-workload g c = λ source source' sink sink' device device' second second' steps steps' status keys all. (all.ends, (all.faults, (all.kept, (all.source_stays, all.second_stays))))

pub returns-clause-checked : goal.returns-clause-checked
returns-clause-checked g c = λ source source' sink sink' device device' second second' steps steps' status all. (all.ends, (all.no_write, (all.kept, (all.source_stays, all.second_stays))))

pub returns-clause-loaded : goal.returns-clause-loaded
returns-clause-loaded g c = λ source source' sink sink' device device' second second' steps steps' status keys block_exp format all. (all.ends, (all.kept, (all.second_stays, all.steps_stay)))

pub returns-clause-grown : goal.returns-clause-grown
returns-clause-grown g c = λ source source' sink sink' device device' second second' steps steps' status keys block_exp all.
    (all.ends, (all.no_write, (all.kept, (all.second_kept, all.source_stays))))
