use Rattle.std.proofs.Common.{◌+◌, arith}
use Rattle.cola_layout.specs.Fields.{fields_of}
use Rattle.cola_layout.proofs.Powers.{power-le}
use Rattle.cola_wide.specs.Copied.{block_cells}
use Rattle.cola_wide.proofs.Writes.{shifted, span-some, span-most}
use Rattle.cola_wide.proofs.copying.cells_of_block.Goals as goal

pub returns-clause-some : goal.returns-clause-some
returns-clause-some c =
    let h = c.args.header.now in
    omega (arith, span-some h, span-most h, shifted (block_cells (fields_of h)) (omega (arith, span-most h)))

pub returns-clause-bound : goal.returns-clause-bound
returns-clause-bound c =
    let h = c.args.header.now in
    omega (arith, span-most h, shifted (block_cells (fields_of h)) (omega (arith, span-most h)))

pub returns-clause-few : goal.returns-clause-few
returns-clause-few c =
    let g = c.args.header.now.geometry in
    power-le (g.bottom + 4) 26 (omega (arith, g.shallow))
