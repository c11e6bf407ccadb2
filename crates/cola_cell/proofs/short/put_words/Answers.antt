use Rattle.std.proofs.Common.{length, arith}
use Rattle.cola_cell.proofs.RoomWords.{words-put}
use Rattle.cola_cell.proofs.short.put_words.Goals as goal

pub returns : goal.returns
returns c =
    words-put (length c.args.into.now) (length c.put_word-8.new.into) c.args.room.now c.put_word-9.new.into c.put_word-9.ensures.front
    (omega (arith, c.put_word.ensures.size, c.put_word-2.ensures.size, c.put_word-3.ensures.size, c.put_word-4.ensures.size, c.put_word-5.ensures.size, c.put_word-6.ensures.size, c.put_word-7.ensures.size, c.put_word-8.ensures.size))
    (omega (arith, c.put_word.ensures.size, c.put_word-2.ensures.size, c.put_word-3.ensures.size, c.put_word-4.ensures.size, c.put_word-5.ensures.size, c.put_word-6.ensures.size, c.put_word-7.ensures.size, c.put_word-8.ensures.size, c.put_word-9.ensures.size))
    c.requires.small c.requires.fits
