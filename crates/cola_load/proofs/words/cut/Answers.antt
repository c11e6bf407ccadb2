use Rattle.std.proofs.Common.{nat_eq, sym}
use Rattle.cola_line.proofs.Splits.{slice_split_position, slice_split_whole}
use Rattle.cola_load.proofs.words.cut.Goals as goal

pub returns-in-Some : goal.returns-in-Some
returns-in-Some c = slice_split_position (λ byte. nat_eq byte 32) c.args.text.now c.in-Some.at (sym c.in-Some.ensures)

pub returns-in-None : goal.returns-in-None
returns-in-None c = slice_split_whole (λ byte. nat_eq byte 32) c.args.text.now (sym c.in-None.ensures)
