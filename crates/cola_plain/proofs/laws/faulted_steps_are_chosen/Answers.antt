use Rattle.cola_plain.proofs.FaultLaws.{faults_are_chosen, no_fault, no_fault_keeps}
use Rattle.cola_plain.proofs.laws.faulted_steps_are_chosen.Goals as goal

pub returns-clause-chosen : goal.returns-clause-chosen
returns-clause-chosen c = faults_are_chosen

pub returns-clause-never : goal.returns-clause-never
returns-clause-never c = no_fault

pub returns-clause-kept : goal.returns-clause-kept
returns-clause-kept c = no_fault_keeps
