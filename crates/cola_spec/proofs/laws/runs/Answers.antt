use Rattle.cola_spec.proofs.MachineLaws.{run_is_map, plain_run, plain_run_is_one, plain_run_text}
use Rattle.cola_spec.proofs.laws.runs.Goals as goal

pub returns-clause-shape : goal.returns-clause-shape
returns-clause-shape c = run_is_map

pub returns-clause-plain : goal.returns-clause-plain
returns-clause-plain c = plain_run

pub returns-clause-only : goal.returns-clause-only
returns-clause-only c = plain_run_is_one

pub returns-clause-text : goal.returns-clause-text
returns-clause-text c = plain_run_text
