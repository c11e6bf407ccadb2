use Rattle.cola_layout.proofs.Refusing.{decodes-back}
use Rattle.cola_layout.proofs.law.decoding_gives_back.Goals as goal

pub returns : goal.returns
returns c = decodes-back
