use Rattle.std.proofs.Common.{[], refl}
use Rattle.cola_load.specs.Judged.{start}
use Rattle.cola_load.proofs.Chains.{comes}
use Rattle.cola_load.proofs.laws.judged_lines_are_the_list.Goals as goal

pub returns : goal.returns
returns c = record {
  rows = λ keys format lines answers state all. (comes keys format [] lines answers (start keys format) state refl all).rows;
  word = λ keys format lines answers state all. (comes keys format [] lines answers (start keys format) state refl all).word;
  stands = λ keys format lines answers state all. (comes keys format [] lines answers (start keys format) state refl all).stands;
}
