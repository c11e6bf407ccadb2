use Rattle.std.proofs.Common.{◌≡◌, ◌∷◌, [], ap, ◌∙◌, None}
use Rattle.std.proofs.lemmas.Result.{IfOk-weaker}
use Rattle.cola_cell.specs.Order.{key_cmp}
use Rattle.cola_pairs.specs.Live.{live, between}
use Rattle.cola_plain_files.specs.Levels.{as_runs}
use Rattle.cola_verdict.specs.Tests.{live_pairs}
use Rattle.cola_plain_files.proofs.Live.{all_live, least_from}
use Rattle.cola_plain_files.proofs.verdict.levels.live_pairs_of.Goals as goal

pub returns-in-Some : goal.returns-in-Some
returns-in-Some c =
    let least : c.in-Some.least ≡ 0 ∷ [] = least_from c.least_key.result c.in-Some.least c.in-Some.is c.least_key.ensures.least in
    IfOk-weaker c.live_pairs.result (λ pairs. pairs.items ≡ live key_cmp (between key_cmp c.in-Some.least None) (as_runs c.args.runs.now)) (λ pairs. pairs.items ≡ live_pairs (as_runs c.args.runs.now))
    (λ pairs e. e ∙ ap (λ low. live key_cmp (between key_cmp low None) (as_runs c.args.runs.now)) least ∙ all_live (as_runs c.args.runs.now) c.keys_of_runs.ensures) c.live_pairs.ensures
