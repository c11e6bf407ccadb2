use Rattle.cola_words.proofs.AnyOrder.{neighbours_swap}
use Rattle.cola_words.proofs.law.options_in_any_order.Goals as goal

pub returns : goal.returns
returns c = neighbours_swap
