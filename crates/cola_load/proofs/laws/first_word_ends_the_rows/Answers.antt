use Rattle.std.proofs.Common.{[], ap}
use Rattle.cola_load.specs.Rows.{rows_said}
use Rattle.cola_load.proofs.FirstWords.{all_without_word, next_word, word_stays}
use Rattle.cola_load.proofs.laws.first_word_ends_the_rows.Goals as goal

pub returns : goal.returns
returns c = record {
  all = λ shape lines none. ap (rows_said shape) (all_without_word shape [] lines none);
  next = λ shape lines line none. next_word shape [] lines line none;
  word = λ shape lines more found is. (word_stays shape [] lines more found is).0;
  rows = λ shape lines more found is. ap (rows_said shape) (word_stays shape [] lines more found is).1;
}
