use Rattle.std.proofs.Common.{◌≤◌, ◌↔◌, length, false, IsTrue}
use Rattle.std.proofs.lemmas.List.{length-map}
use Rattle.std.proofs.lemmas.Result.{IfOk-weaker}
use Rattle.cola_plain_files.specs.Levels.{as_levels, runs_from, HasFewFrom}
use Rattle.cola_verdict.specs.Tests.{live_pairs}
use Rattle.cola_plain_files.proofs.Tests.{few_from}
use Rattle.cola_plain_files.proofs.verdict.tests.has_few_live.Goals as goal

pub returns : goal.returns
returns c =
    IfOk-weaker c.has_few_keys.result (λ holds. IsTrue holds ↔ (length (live_pairs (runs_from false c.args.clock c.args.number (as_levels c.args.levels.now))) ≤ c.args.most))
    (λ holds. IsTrue holds ↔ HasFewFrom c.args.most c.args.clock c.args.number (as_levels c.args.levels.now))
    (λ holds h. few_from c.args.most c.args.clock c.args.number (as_levels c.args.levels.now) holds (rw length-map c.requires.some) (c.in_ok-has_few_next.ensures.0 c.if-not-branch.false) h) c.has_few_keys.ensures
