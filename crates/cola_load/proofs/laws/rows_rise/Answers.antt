use Rattle.std.proofs.Common.{[]}
use Rattle.cola_load.specs.Rows.{lines_before_word}
use Rattle.cola_load.proofs.Chains.{rows_fit, sound_rows}
use Rattle.cola_load.proofs.laws.rows_rise.Goals as goal

pub returns : goal.returns
returns c = record {
  rising = λ shape lines. (sound_rows shape lines).rises;
  few = λ shape lines. (sound_rows shape lines).few;
  fitting = λ shape lines. rows_fit shape (lines_before_word shape [] lines);
}
