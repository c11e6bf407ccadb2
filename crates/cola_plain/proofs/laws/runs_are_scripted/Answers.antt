use Rattle.cola_plain.proofs.StepLaws.{script_is_run, run_is_scripted, empty_script_is_plain}
use Rattle.cola_plain.proofs.laws.runs_are_scripted.Goals as goal

pub returns-clause-run : goal.returns-clause-run
returns-clause-run c = script_is_run

pub returns-clause-scripted : goal.returns-clause-scripted
returns-clause-scripted c = run_is_scripted

pub returns-clause-plain : goal.returns-clause-plain
returns-clause-plain c = empty_script_is_plain
