use Rattle.std.proofs.Common.{ap}
use Rattle.cola_cell.specs.Places.{Block}
use Rattle.cola_look.proofs.TurnLemmas.{eight_in_block}
use Rattle.cola_look.proofs.laws.eight_in_a_block.Goals as goal

pub returns : goal.returns
returns c = λ held level slot i j e. ap (λ n. let b : Block = record { level = level; slot = slot; number = n } in b) (eight_in_block held.fixed.doublings i j e)
