use Rattle.std.proofs.Common.{arith}
use Rattle.cola_check.proofs.Common.{Own, costs_then, looks_then}
use Rattle.cola_check.proofs.BadRuns.{told-on, finds-bad}
use Rattle.cola_check.proofs.RunBlocks.{goes-few}
use Rattle.cola_check.proofs.cells.bad_in_run.Goals as goal

pub loop-index-preserved : goal.loop-index-preserved
loop-index-preserved g c =
    let i = c.loop-index.invariant in
    let n = c.in_ok-number in
    record {
      looks = looks_then i.looks n.ensures.looks;
      cost = costs_then i.cost n.ensures.reads.cost;
      goes = let a = i.goes in let b = n.ensures.goes c.in_default.is in omega (arith, a, b);
      told = told-on (g.W.CellSource.state c.args.work.now).held (g.W.CellSource.state c.loop-index.work).held c.args.run.now c.loop-index.index n.field-0 c.requires c.loop-index-test.true i.looks.cells_stay c.in_default.is n.ensures.finds i.told;
    }

pub returns-in-Some-clause-finds : goal.returns-in-Some-clause-finds
returns-in-Some-clause-finds g c =
    let i = c.loop-index.invariant in
    finds-bad (g.W.CellSource.state c.args.work.now).held (g.W.CellSource.state c.loop-index.work).held c.args.run.now c.loop-index.index c.in_ok-number.field-0 c.in-Some.number c.requires c.loop-index-test.true i.looks.cells_stay c.in-Some.is
    c.in_ok-number.ensures.finds i.told

pub returns-in_err-number-clause-blocks : goal.returns-in_err-number-clause-blocks
returns-in_err-number-clause-blocks g c = goes-few (g.W.CellSource.state c.args.work.now) (g.W.CellSource.state c.loop-index.work) Own c.args.run.now c.loop-index.index (g.W.CellSource.state c.bad_at.new.work).spent.turned c.loop-index.invariant.goes c.bad_at.ensures.reads.cost.turned_rises

pub returns-in-Some-clause-blocks : goal.returns-in-Some-clause-blocks
returns-in-Some-clause-blocks g c = goes-few (g.W.CellSource.state c.args.work.now) (g.W.CellSource.state c.loop-index.work) Own c.args.run.now c.loop-index.index (g.W.CellSource.state c.bad_at.new.work).spent.turned c.loop-index.invariant.goes c.bad_at.ensures.reads.cost.turned_rises

pub returns-clause-blocks : goal.returns-clause-blocks
returns-clause-blocks g c = goes-few (g.W.CellSource.state c.args.work.now) (g.W.CellSource.state c.loop-index.work) Own c.args.run.now c.loop-index.index (g.W.CellSource.state c.loop-index.work).spent.turned c.loop-index.invariant.goes (omega arith)
