use Rattle.std.proofs.Common.{◌≤◌, ◌^◌, arith}
use Rattle.std.proofs.lemmas.Nat.{one_shl}
use Rattle.std.proofs.Math.Pow.{pow_mono}
use Rattle.cola_front.proofs.front.cells_of_block.Goals as goal

pub returns-clause-some : goal.returns-clause-some
returns-clause-some c =
    let least : 2 ^ 3 ≤ 2 ^ c.args.block_exp = pow_mono c.requires.least in
    rw (one_shl c.args.block_exp 64 (omega (arith, c.requires.most))) least

pub returns-clause-few : goal.returns-clause-few
returns-clause-few c =
    let most : 2 ^ c.args.block_exp ≤ 2 ^ 9 = pow_mono c.requires.most in
    rw (one_shl c.args.block_exp 64 (omega (arith, c.requires.most))) most
