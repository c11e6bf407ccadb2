use Rattle.std.proofs.Common.{sym}
use Rattle.cola_cell.proofs.KeyWords.{rooms-order}
use Rattle.cola_cell.proofs.key.KeyOrd.cmp.Goals as goal

pub returns : goal.returns
returns c =
    rw
    (c.then.ensures, c.words_cmp-order.ensures, c.cmp.ensures, c.len-length.ensures.value, c.len-other_length.ensures.value)
    (sym
    (rooms-order 40 c.args.self.now c.args.other.now c.room.result.now c.room-2.result.now c.room.ensures.value c.room-2.ensures.value c.room.ensures.limits.1 c.room-2.ensures.limits.1))
