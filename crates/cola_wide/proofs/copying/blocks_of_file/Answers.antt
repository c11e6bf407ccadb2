use Rattle.std.proofs.Common.{ℕ, ◌∙◌, ◌+◌, ◌-◌, ◌*◌, ◌^◌, ◌≤◌, ap, arith}
use Rattle.cola_layout.specs.Fields.{fields_of}
use Rattle.cola_layout.proofs.Powers.{power-le}
use Rattle.cola_wide.specs.Copied.{block_cells, block_count}
use Rattle.cola_wide.proofs.Writes.{shifted, blocks-whole}
use Rattle.cola_wide.proofs.copying.blocks_of_file.Goals as goal

pub returns-clause-bound : goal.returns-clause-bound
returns-clause-bound c =
    let h = c.args.header.now in
    let group = h.geometry.block_fits.group in
    let few : block_count (fields_of h) ≤ 2 ^ 23 = power-le (h.geometry.bottom + 4 - h.geometry.block_exp) 23 (omega (arith, group, h.geometry.shallow)) in
    omega (arith, few, shifted (block_count (fields_of h)) (omega (arith, few)))

pub returns-clause-whole : goal.returns-clause-whole
returns-clause-whole c =
    let h = c.args.header.now in
    let group = h.geometry.block_fits.group in
    let few : block_count (fields_of h) ≤ 2 ^ 23 = power-le (h.geometry.bottom + 4 - h.geometry.block_exp) 23 (omega (arith, group, h.geometry.shallow)) in
    ap (λ (n : ℕ). block_cells (fields_of h) * n) (shifted (block_count (fields_of h)) (omega (arith, few))) ∙ blocks-whole h
