use Rattle.std.proofs.Common.{◌≤◌, arith}
use Rattle.std.proofs.lemmas.Nat.{one_shl}
use Rattle.std.proofs.Math.Pow.{pow_mono}
use Rattle.cola_run.proofs.tails.cells_of_block.Goals as goal

pub returns-clause-least : goal.returns-clause-least
returns-clause-least c =
    let g = c.args.geometry.now in
    rw (one_shl g.block_exp 32 (omega (arith, g.block_fits.fits))) (pow_mono g.block_fits.group)

pub returns-clause-most : goal.returns-clause-most
returns-clause-most c =
    let g = c.args.geometry.now in
    let nine : g.block_exp ≤ 9 = omega (arith, g.block_fits.fits) in
    rw (one_shl g.block_exp 32 (omega (arith, g.block_fits.fits))) (pow_mono nine)
