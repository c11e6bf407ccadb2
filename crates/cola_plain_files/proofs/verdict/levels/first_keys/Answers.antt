use Rattle.std.proofs.Common.{◌≡◌, ◌≤◌, ◌^◌, length, ap, ◌∙◌, arith}
use Rattle.std.proofs.lemmas.Result.{IfOk-weaker}
use Rattle.cola_runs.specs.Cells.{sample}
use Rattle.cola_plain_runs.specs.Runs.{as_run}
use Rattle.cola_plain_runs.proofs.Lists.{run_length}
use Rattle.cola_runs.proofs.Samples.{sample_length}
use Rattle.cola_plain_files.proofs.verdict.levels.first_keys.Goals as goal

pub returns-in-Some-clause-small : goal.returns-in-Some-clause-small
returns-in-Some-clause-small c =
    IfOk-weaker c.sample.result (λ keys. keys.items ≡ sample (as_run c.shown.result.now)) (λ keys. length keys.items ≤ 2 ^ 24)
    (λ keys e. let same = ap length e ∙ sample_length (as_run c.shown.result.now) in omega (arith, run_length c.shown.result.now, c.shown.ensures.small)) c.sample.ensures
