use Rattle.std.proofs.Common.{◌+◌, ◌-◌, arith}
use Rattle.cola_cell.proofs.RoomWords.{word-behind, word-read}
use Rattle.cola_cell.proofs.short.word_at.Goals as goal

pub returns-then-place-room : goal.returns-then-place-room
returns-then-place-room c = λ n fits. word-behind n c.args.place c.args.room.now (omega (arith, c.if-place-room.true)) fits

pub returns : goal.returns
returns c = λ n fits.
    word-read n c.args.place (c.args.place + 8 - c.args.place) c.read_u64.result c.args.room.now (λ i. let small = c.type_inv.room i in omega arith)
    (omega (arith, c.if-place-room.false, c.requires.words, c.requires.word)) (omega arith) c.read_u64.ensures
