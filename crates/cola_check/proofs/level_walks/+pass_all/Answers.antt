use Rattle.cola_check.proofs.RunBlocks.{alls-read}
use Rattle.cola_check.proofs.level_walks.+pass_all.Goals as goal

pub returns-clause-blocks : goal.returns-clause-blocks
returns-clause-blocks g t c =
    let w = g.W.CellSource in
    alls-read (w.state c.args.work.now) (w.state c.pass.new.work) (w.state c.pass_all.new.work) c.in_ok-pass.ensures.looks.cells_stay c.pass_all.ensures.looks.cells_stay c.args.key.now c.args.levels.now c.in-Some.level.now
    c.pass.new.self c.in-Some.below.now c.pass_all.new.levels c.pass_all.result c.in-Some.ensures.cases.0 c.in_ok-pass.ensures.passes c.in_ok-pass.ensures.blocks c.pass_all.ensures.blocks
