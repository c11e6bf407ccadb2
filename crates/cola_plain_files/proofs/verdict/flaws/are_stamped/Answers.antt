use Rattle.std.proofs.Common.{◌≤◌, arith}
use Rattle.std.specs.List.{AllByRecursion}
use Rattle.cola_plain_runs.proofs.Lists.{same_from, all_next}
use Rattle.cola_plain_runs.proofs.Weaving.{list_from}
use Rattle.cola_plain_files.proofs.verdict.flaws.are_stamped.Goals as goal

pub loop-pair-preserved : goal.loop-pair-preserved
loop-pair-preserved c =
    let here = list_from c.args.pairs.now c.loop-pair.pair-index c.pair-item.result c.loop-pair-test.true c.pair-item.is in
    all_next (λ pair. pair.1.stamp ≤ c.args.last) c.pair-item.result _ (omega (arith, c.stamp_of.ensures))
    (same_from (AllByRecursion (λ pair. pair.1.stamp ≤ c.args.last)) _ _ here c.loop-pair.invariant)
