use Rattle.cola_cell.proofs.Padding.{fills-answer}
use Rattle.cola_cell.proofs.short.is_filled.Goals as goal

pub returns-then-len-room : goal.returns-then-len-room
returns-then-len-room c = fills-answer c.args.room.now c.args.len c.is_zero_from.result c.if-len-room.true c.is_zero_from.ensures
