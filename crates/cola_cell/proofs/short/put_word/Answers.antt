use Rattle.std.proofs.Common.{refl, length, arith}
use Rattle.byteorder.specs.Endian.{little_bytes}
use Rattle.cola_cell.specs.Bytes.{padded}
use Rattle.cola_cell.proofs.RoomWords.{word-put}
use Rattle.cola_cell.proofs.short.put_word.Goals as goal

pub returns-then-place-into-clause-front : goal.returns-then-place-into-clause-front
returns-then-place-into-clause-front c =
    word-put c.args.place (padded (length c.args.into.now) c.args.room.now) c.args.into.now c.write_u64.new.buf (little_bytes 8 c.word_at.result) _ _
    (omega arith) c.requires.front refl
    (c.word_at.ensures (length c.args.into.now) (omega (arith, c.if-place-into.true, c.requires.whole, c.requires.word))) c.write_u64.ensures
