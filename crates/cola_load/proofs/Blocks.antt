-- How many blocks a load fills.
use Rattle.std.proofs.Common.{◌≡◌, ℕ, zero, suc, ◌+◌, ◌*◌, ◌/◌, ◌≤◌, ◌∙◌, arith}
use Rattle.std.proofs.lemmas.Nat.{le-div, pow_pos}
use Rattle.std.proofs.Math.Nat.{div-mul-le_self, mul_comm, mul_assoc}
use Rattle.cola_layout.specs.declared.geometry.Geometry.{Geometry}
use Rattle.cola_run.specs.Cells.{block_cells, device_levels}
use Rattle.cola_load.specs.Filled.{run_len}
use Rattle.cola_load.specs.Loading.{full_below, full_blocks}
use Rattle.cola_load.proofs.Rowing.{next-run, below-rise}

pub blocks-rise : (g : Geometry) (rows more : ℕ) → rows ≤ more → full_blocks g rows ≤ full_blocks g more
blocks-rise g rows more h = below-rise g rows more (device_levels g) h

-- a sum of which each part is an eighth of the one before: seven times it, and eight times the next part, are at most eight times
-- the first
below-sum : (g : Geometry) (rows k : ℕ) → 7 * (block_cells g * full_below g rows k) + 8 * run_len rows k ≤ 8 * rows
below-sum g rows zero =
    let z : block_cells g * 0 ≡ 0 = omega arith in
    let o : rows / 1 ≡ rows = omega arith in
    omega (arith, z, o)
below-sum g rows (suc k) =
    let part : run_len rows k / block_cells g * block_cells g ≤ run_len rows k = div-mul-le_self (run_len rows k) (block_cells g) in
    let turn : run_len rows k / block_cells g * block_cells g ≡ block_cells g * (run_len rows k / block_cells g) = mul_comm (run_len rows k / block_cells g) (block_cells g) in
    let e : block_cells g * (run_len rows k / block_cells g + full_below g rows k) ≡ block_cells g * (run_len rows k / block_cells g) + block_cells g * full_below g rows k = omega arith in
    let eighth : 8 * (run_len rows k / 8) ≤ run_len rows k = omega arith in
    omega (arith, below-sum g rows k, part, turn, e, next-run rows k, eighth)

pub blocks-few : (g : Geometry) (rows : ℕ) → full_blocks g rows + (device_levels g + 2) ≤ 8 * rows / (7 * block_cells g) + (g.bottom + 1) + 3
blocks-few g rows =
    let turn : full_blocks g rows * (7 * block_cells g) ≡ 7 * (block_cells g * full_blocks g rows) = mul_comm (full_blocks g rows) (7 * block_cells g) ∙ mul_assoc 7 (block_cells g) (full_blocks g rows) in
    let some = pow_pos g.block_exp in
    let few : full_blocks g rows ≤ 8 * rows / (7 * block_cells g) = le-div (full_blocks g rows) (8 * rows) (7 * block_cells g) (omega (arith, some)) (omega (arith, below-sum g rows (device_levels g), turn)) in
    omega (arith, few, g.block_fits.group)
