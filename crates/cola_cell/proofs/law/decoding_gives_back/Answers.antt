use Rattle.cola_cell.proofs.Unique.{decoded}
use Rattle.cola_cell.proofs.law.decoding_gives_back.Goals as goal

pub returns : goal.returns
returns c = λ format cell bytes answer spells answers. decoded format cell bytes answer spells answers
