use Rattle.cola_mutation.proofs.Causes.{device_rose, bad_cell, full_slot, full_top}
use Rattle.cola_mutation.proofs.laws.refusals_have_causes.Goals as goal

pub returns-clause-device : goal.returns-clause-device
returns-clause-device c = device_rose

pub returns-clause-bad_cell : goal.returns-clause-bad_cell
returns-clause-bad_cell c = bad_cell

pub returns-clause-overfull : goal.returns-clause-overfull
returns-clause-overfull c = full_slot

pub returns-clause-overfull_top : goal.returns-clause-overfull_top
returns-clause-overfull_top c = full_top
