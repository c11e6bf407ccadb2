use Rattle.cola_spec.proofs.MachineLaws.{plain_step, plain_kind, plain_step_is_one, faulted_step_keeps, short_step_keeps}
use Rattle.cola_spec.proofs.laws.plain_steps.Goals as goal

pub returns-clause-exists : goal.returns-clause-exists
returns-clause-exists c = plain_step

pub returns-clause-kind : goal.returns-clause-kind
returns-clause-kind c = plain_kind

pub returns-clause-only : goal.returns-clause-only
returns-clause-only c = plain_step_is_one

pub returns-clause-faulted : goal.returns-clause-faulted
returns-clause-faulted c = faulted_step_keeps

pub returns-clause-short : goal.returns-clause-short
returns-clause-short c = short_step_keeps
