use Rattle.std.proofs.Common.{arith}
use Rattle.std.proofs.lemmas.List.{length-take-le}
use Rattle.cola_front.proofs.block.put_header.Goals as goal

pub copy_from_slice-requires : goal.copy_from_slice-requires
copy_from_slice-requires c = let long = length-take-le 512 c.args.block.now c.requires in omega (arith, long, c.told-header)
