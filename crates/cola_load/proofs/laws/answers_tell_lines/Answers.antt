use Rattle.cola_load.specs.Said.{said}
use Rattle.cola_load.specs.Judged.{shape, word_next}
use Rattle.cola_load.proofs.FirstWords.{row_told, nothing_told}
use Rattle.cola_load.proofs.laws.answers_tell_lines.Goals as goal

pub returns : goal.returns
returns c = record {
  row = λ old new line key value judged. row_told (word_next old line) (said (shape old) line) key value judged.answered;
  nothing = λ old new line judged. nothing_told old.keys old.before (said (shape old) line) judged.answered;
}
