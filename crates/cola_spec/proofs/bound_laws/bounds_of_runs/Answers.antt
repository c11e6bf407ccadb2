use Rattle.cola_spec.proofs.StepLaws.{bound_of_both, run_within}
use Rattle.cola_spec.proofs.bound_laws.bounds_of_runs.Goals as goal

pub returns-clause-both : goal.returns-clause-both
returns-clause-both c = bound_of_both

pub returns-clause-run : goal.returns-clause-run
returns-clause-run c = run_within
