use Rattle.cola_check.proofs.RunBlocks.{beside-began}
use Rattle.cola_check.proofs.carried.Beside.begin.Goals as goal

pub returns-clause-blocks : goal.returns-clause-blocks
returns-clause-blocks g c =
    beside-began c.in_ok-above.ensures.looks.cells_stay c.in_ok-own.ensures.looks.cells_stay c.in_ok-shadow.ensures.looks.cells_stay
    (record { above = c.in_ok-above.above; own = c.in_ok-own.own; shadow = c.in_ok-shadow.shadow }) c.in_ok-above.ensures.begins.reader_is c.in_ok-own.ensures.begins.reader_is c.in_ok-shadow.ensures.begins.reader_is
    c.in_ok-above.ensures.blocks c.in_ok-own.ensures.blocks c.in_ok-shadow.ensures.blocks
