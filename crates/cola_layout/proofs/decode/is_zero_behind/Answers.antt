use Rattle.cola_layout.proofs.Refusing.{zero-behind}
use Rattle.cola_layout.proofs.decode.is_zero_behind.Goals as goal

pub returns : goal.returns
returns c = zero-behind c.args.levels c.args.bytes.now c.is_zero.result c.requires.size c.requires.few c.is_zero.ensures
