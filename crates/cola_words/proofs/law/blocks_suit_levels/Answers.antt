use Rattle.cola_words.proofs.Limits.{limit_of_levels}
use Rattle.cola_words.proofs.law.blocks_suit_levels.Goals as goal

pub returns : goal.returns
returns c = limit_of_levels
