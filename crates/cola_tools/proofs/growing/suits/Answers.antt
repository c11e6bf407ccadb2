use Rattle.cola_tools.proofs.Suiting.{suiting}
use Rattle.cola_tools.proofs.growing.suits.Goals as goal

pub returns-in-Ok-clause-yes : goal.returns-in-Ok-clause-yes
returns-in-Ok-clause-yes c = λ _. suiting c.in-Ok.field-0 c.args.keys c.args.block_exp c.in-Ok.ensures.keys c.in-Ok.ensures.block
