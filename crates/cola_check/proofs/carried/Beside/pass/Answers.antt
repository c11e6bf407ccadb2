use Rattle.cola_check.proofs.RunBlocks.{beside-reads}
use Rattle.cola_check.proofs.carried.Beside.pass.Goals as goal

pub returns-clause-blocks : goal.returns-clause-blocks
returns-clause-blocks g c = λ apart.
    beside-reads c.in_ok-above.ensures.looks.cells_stay c.in_ok-own.ensures.looks.cells_stay c.in_ok-shadow.ensures.looks.cells_stay
    c.args.self.now (record { above = c.pass.new.self; own = c.pass-2.new.self; shadow = c.pass-3.new.self }) apart c.in_ok-above.ensures.passes.reader_is c.in_ok-own.ensures.passes.reader_is
    c.in_ok-above.ensures.blocks c.in_ok-own.ensures.blocks c.in_ok-shadow.ensures.blocks
