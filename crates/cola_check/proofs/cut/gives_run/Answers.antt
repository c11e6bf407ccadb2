-- A merge follows a run.
use Rattle.std.proofs.Common.{◌≡◌, refl, ◌∙◌, arith}
use Rattle.cola_check.proofs.Common.{err_is}
use Rattle.cola_check.proofs.Cuts.{following_none, pull_stops, pull_ends, read_stops, cells_differ, follows_on, follows_all, differ_by}
use Rattle.cola_check.proofs.RunBlocks.{along-none, merge-along, run-along, along-ends}
use Rattle.cola_check.proofs.cut.gives_run.Goals as goal

pub loop-index-init : goal.loop-index-init
loop-index-init g c = record {
  kept = refl;
  blocks = λ away. along-none c.args.aim.now c.args.run.now (g.W.CellSource.state c.args.work.now) c.args.merger.now;
  following = following_none c.args.run.now (g.W.CellSource.state c.args.work.now) c.args.steps.now c.requires.heads;
}

pub returns-in_err-given-clause-followed : goal.returns-in_err-given-clause-followed
returns-in_err-given-clause-followed g c =
    pull_stops (g.W.CellSource.state c.pull.new.work) c.loop-index.invariant.following c.from_residual.result c.in_err-given.field-0.0 (err_is c.from_residual.result c.in_err-given.field-0.0 c.from_residual.ensures.1) c.loop-index-test.true
    c.in_err-given.ensures.pulls

pub returns-in_default-clause-followed : goal.returns-in_default-clause-followed
returns-in_default-clause-followed g c = pull_ends (g.W.CellSource.state c.pull.new.work) c.loop-index.invariant.following c.in_ok-given.field-0 c.in_default.is c.loop-index-test.true c.in_ok-given.ensures.pulls

pub returns-in_err-cell-clause-followed : goal.returns-in_err-cell-clause-followed
returns-in_err-cell-clause-followed g c =
    read_stops (g.W.CellSource.state c.pull.new.work) c.loop-index.invariant.following c.in_ok-given.field-0 c.in_ok-given.ensures.pulls c.loop-index-test.true c.in_err-cell.ensures.one_tick
    c.from_residual-in_err-cell.result c.in_err-cell.field-0.0 (err_is c.from_residual-in_err-cell.result c.in_err-cell.field-0.0 c.from_residual-in_err-cell.ensures.1) c.in_err-cell.ensures.reads

pub returns-then-not-is_same-clause-followed : goal.returns-then-not-is_same-clause-followed
returns-then-not-is_same-clause-followed g c =
    cells_differ (g.W.CellSource.state c.pull.new.work) c.loop-index.invariant.following c.in_ok-given.field-0 c.in_ok-given.ensures.pulls c.loop-index-test.true c.in_ok-cell.ensures.one_tick
    c.in-Some.given c.in_ok-cell.cell c.in-Some.is c.in_ok-cell.ensures.reads (differ_by c.is_same.result c.is_same.ensures c.if-not-is_same.true)

pub loop-index-preserved : goal.loop-index-preserved
loop-index-preserved g c = record {
  kept = c.in_ok-cell.ensures.kept ∙ c.in_ok-given.ensures.kept ∙ c.loop-index.invariant.kept;
  blocks = λ away. run-along (g.W.CellSource.state c.pull.new.work) away (c.loop-index.invariant.blocks away) c.in_ok-given.ensures.pulls c.in_ok-cell.cell c.in_ok-cell.ensures.reads c.loop-index-test.true;
  following = follows_on (g.W.CellSource.state c.pull.new.work) c.loop-index.invariant.following c.in_ok-given.field-0 c.in_ok-given.ensures.pulls c.loop-index-test.true c.in_ok-cell.ensures.one_tick
      c.in-Some.given c.in_ok-cell.cell c.in-Some.is c.in_ok-cell.ensures.reads (c.is_same.ensures.0 c.if-not-is_same.false);
}

pub returns-clause-followed : goal.returns-clause-followed
returns-clause-followed g c = follows_all c.loop-index.invariant.following (let e : c.loop-index.index ≡ c.args.run.now.len = omega (arith, c.loop-index-test.false, c.loop-index.auto.index-end) in e)

pub returns-in_default-clause-blocks : goal.returns-in_default-clause-blocks
returns-in_default-clause-blocks g c = λ away. along-ends (merge-along (g.W.CellSource.state c.pull.new.work) away (c.loop-index.invariant.blocks away) c.in_ok-given.ensures.pulls)

pub returns-then-not-is_same-clause-blocks : goal.returns-then-not-is_same-clause-blocks
returns-then-not-is_same-clause-blocks g c = λ away.
    along-ends (run-along (g.W.CellSource.state c.pull.new.work) away (c.loop-index.invariant.blocks away) c.in_ok-given.ensures.pulls c.in_ok-cell.cell c.in_ok-cell.ensures.reads c.loop-index-test.true)

pub returns-clause-blocks : goal.returns-clause-blocks
returns-clause-blocks g c = λ away. along-ends (c.loop-index.invariant.blocks away)
