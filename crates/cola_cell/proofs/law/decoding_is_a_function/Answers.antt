use Rattle.cola_cell.proofs.DecodedLemmas.{decodes, decoding_is, decoded_is}
use Rattle.cola_cell.proofs.law.decoding_is_a_function.Goals as goal

pub returns : goal.returns
returns c = record {
  decodes = λ format bytes. decodes format bytes;
  answer = λ format bytes answer d. decoding_is format bytes answer d;
  gives_back = λ format cell bytes s. decoded_is format cell bytes s;
}
