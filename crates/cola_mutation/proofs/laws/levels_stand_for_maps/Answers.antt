use Rattle.cola_mutation.proofs.laws.levels_stand_for_maps.Goals as goal

pub returns-clause-runs : goal.returns-clause-runs
returns-clause-runs c = λ held most t levels m s. record { told = s.told; sound = s.sound }

pub returns-clause-levels : goal.returns-clause-levels
returns-clause-levels c = λ held most t levels m tells saved s. record { tells = tells; told = s.told; saved = saved; sound = s.sound }
