use Rattle.std.proofs.Common.{refl}
use Rattle.cola_bottom.proofs.Values.{emitted_values, emitted_answers, emitted_whole}
use Rattle.cola_bottom.proofs.laws.bottom_merge_emits_values.Goals as goal

pub returns : goal.returns
returns c = record {
  values = λ held own incoming slot m g. emitted_values held own incoming slot m g;
  answers = λ held own incoming slot m key g u. emitted_answers held own incoming slot m g key u;
  whole = λ held own incoming slot m g u. emitted_whole held own incoming slot m g u;
  run = λ held own incoming slot. refl;
}
