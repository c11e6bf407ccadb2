-- Two merges are compared.
use Rattle.std.proofs.Common.{refl, ◌∙◌}
use Rattle.cola_check.proofs.Common.{err_is}
use Rattle.cola_check.proofs.Cuts.{differ_by, comparing_none, first_stops, second_stops, second_ends, both_differ, compares_on, first_ends, fewer_given}
use Rattle.cola_check.proofs.RunBlocks.{both-none, both-on, both-end}
use Rattle.cola_check.proofs.cut.gives_same.Goals as goal

pub loop-one-init : goal.loop-one-init
loop-one-init g c = record {
  kept = refl;
  blocks = λ spread. both-none c.args.aim.now (g.W.CellSource.state c.args.work.now) c.args.first.now c.args.second.now;
  comparing = comparing_none (g.W.CellSource.state c.args.work.now) c.args.steps.now c.requires.first c.requires.second;
}

pub returns-in_err-one-clause-compared : goal.returns-in_err-one-clause-compared
returns-in_err-one-clause-compared g c =
    first_stops (g.W.CellSource.state c.pull.new.work) c.loop-one.invariant.comparing c.from_residual.result c.in_err-one.field-0.0 (err_is c.from_residual.result c.in_err-one.field-0.0 c.from_residual.ensures.1) c.in_err-one.ensures.pulls

pub returns-in_err-other-clause-compared : goal.returns-in_err-other-clause-compared
returns-in_err-other-clause-compared g c =
    second_stops (g.W.CellSource.state c.pull.new.work) c.loop-one.invariant.comparing c.in_ok-one.field-0 c.in_ok-one.ensures.pulls (g.W.CellSource.state c.pull_by_others.new.work)
    c.from_residual-in_err-other.result c.in_err-other.field-0.0 (err_is c.from_residual-in_err-other.result c.in_err-other.field-0.0 c.from_residual-in_err-other.ensures.1) c.in_err-other.ensures.pulls

pub returns-in_default-2-clause-compared : goal.returns-in_default-2-clause-compared
returns-in_default-2-clause-compared g c =
    second_ends (g.W.CellSource.state c.pull.new.work) c.loop-one.invariant.comparing c.in_ok-one.field-0 c.in_ok-one.ensures.pulls (g.W.CellSource.state c.pull_by_others.new.work)
    c.in_ok-other.field-0 c.in_ok-other.ensures.pulls c.in-Some.one c.in-Some.is c.in_default-2.is

pub returns-then-not-is_same-clause-compared : goal.returns-then-not-is_same-clause-compared
returns-then-not-is_same-clause-compared g c =
    both_differ (g.W.CellSource.state c.pull.new.work) c.loop-one.invariant.comparing c.in_ok-one.field-0 c.in_ok-one.ensures.pulls (g.W.CellSource.state c.pull_by_others.new.work)
    c.in_ok-other.field-0 c.in_ok-other.ensures.pulls c.in-Some.one c.in-Some-2.other c.in-Some.is c.in-Some-2.is (differ_by c.is_same.result c.is_same.ensures c.if-not-is_same.true)

pub loop-one-smaller : goal.loop-one-smaller
loop-one-smaller g c =
    fewer_given (g.W.CellSource.state c.loop-one.work) (g.W.CellSource.state c.pull.new.work) c.loop-one.first c.in_ok-one.field-0 c.in-Some.one c.in-Some.is c.loop-one.invariant.comparing.cells_stay c.in_ok-one.ensures.pulls

pub loop-one-preserved : goal.loop-one-preserved
loop-one-preserved g c = record {
  kept = c.in_ok-other.ensures.kept ∙ c.in_ok-one.ensures.kept ∙ c.loop-one.invariant.kept;
  blocks = λ spread. both-on (g.W.CellSource.state c.pull.new.work) spread (c.loop-one.invariant.blocks spread) c.in_ok-one.ensures.pulls (g.W.CellSource.state c.pull_by_others.new.work) c.pull_by_others.new.merger
      c.pull_by_others.new.steps c.in_ok-other.field-0 c.in_ok-other.ensures.pulls;
  comparing = compares_on (g.W.CellSource.state c.pull.new.work) c.loop-one.invariant.comparing c.in_ok-one.field-0 c.in_ok-one.ensures.pulls (g.W.CellSource.state c.pull_by_others.new.work)
      c.in_ok-other.field-0 c.in_ok-other.ensures.pulls c.in-Some.one c.in-Some-2.other c.in-Some.is c.in-Some-2.is (c.is_same.ensures.0 c.if-not-is_same.false);
}

pub returns-in_err-pull_by_others-clause-compared : goal.returns-in_err-pull_by_others-clause-compared
returns-in_err-pull_by_others-clause-compared g c =
    second_stops (g.W.CellSource.state c.pull.new.work) c.loop-one.invariant.comparing c.in_ok-one.field-0 c.in_ok-one.ensures.pulls (g.W.CellSource.state c.pull_by_others-2.new.work)
    c.from_residual-in_err-pull_by_others.result c.in_err-pull_by_others.field-0.0 (err_is c.from_residual-in_err-pull_by_others.result c.in_err-pull_by_others.field-0.0 c.from_residual-in_err-pull_by_others.ensures.1)
    c.in_err-pull_by_others.ensures.pulls

pub returns-clause-compared : goal.returns-clause-compared
returns-clause-compared g c =
    first_ends (g.W.CellSource.state c.pull.new.work) c.loop-one.invariant.comparing c.in_ok-one.field-0 c.in_ok-one.ensures.pulls (g.W.CellSource.state c.pull_by_others-2.new.work)
    c.in_ok-pull_by_others.field-0 c.in_ok-pull_by_others.ensures.pulls c.is_none.result c.in_default.is c.is_none.ensures

pub returns-in_default-2-clause-blocks : goal.returns-in_default-2-clause-blocks
returns-in_default-2-clause-blocks g c = λ spread.
    both-end (both-on (g.W.CellSource.state c.pull.new.work) spread (c.loop-one.invariant.blocks spread) c.in_ok-one.ensures.pulls (g.W.CellSource.state c.pull_by_others.new.work) c.pull_by_others.new.merger
    c.pull_by_others.new.steps c.in_ok-other.field-0 c.in_ok-other.ensures.pulls)

pub returns-then-not-is_same-clause-blocks : goal.returns-then-not-is_same-clause-blocks
returns-then-not-is_same-clause-blocks g c = λ spread.
    both-end (both-on (g.W.CellSource.state c.pull.new.work) spread (c.loop-one.invariant.blocks spread) c.in_ok-one.ensures.pulls (g.W.CellSource.state c.pull_by_others.new.work) c.pull_by_others.new.merger
    c.pull_by_others.new.steps c.in_ok-other.field-0 c.in_ok-other.ensures.pulls)

pub returns-clause-blocks : goal.returns-clause-blocks
returns-clause-blocks g c = λ spread.
    both-end (both-on (g.W.CellSource.state c.pull.new.work) spread (c.loop-one.invariant.blocks spread) c.in_ok-one.ensures.pulls (g.W.CellSource.state c.pull_by_others-2.new.work) c.pull_by_others-2.new.merger
    c.pull_by_others-2.new.steps c.in_ok-pull_by_others.field-0 c.in_ok-pull_by_others.ensures.pulls)
