-- The sizes of files.
use Rattle.std.proofs.Common.{◌≡◌, ℕ, ◌+◌, ◌^◌, ◌≤◌, arith}
use Rattle.std.proofs.Math.Pow.{pow_mono}
use Rattle.cola_cell.specs.declared.format.Format.{Format}
use Rattle.cola_cell.specs.declared.format.Format.TheVariants.{One, Two}
use Rattle.cola_layout.proofs.Powers.{next_power}
use Rattle.cola_opening.specs.Judged.{file_size}

-- a file has a header's bytes at least
pub header_fits : (format : Format) (bottom : ℕ) → 3 ≤ bottom → 512 ≤ file_size format bottom
header_fits One bottom deep =
    let grows : 2 ^ 7 ≤ 2 ^ (bottom + 4) = pow_mono {i = 7} {j = bottom + 4} (omega arith) in
    omega arith
header_fits Two bottom deep =
    let grows : 2 ^ 7 ≤ 2 ^ (bottom + 4) = pow_mono {i = 7} {j = bottom + 4} (omega arith) in
    omega arith

-- a level more doubles a file
pub sizes-double : (format : Format) (bottom : ℕ) → file_size format (bottom + 1) ≡ file_size format bottom + file_size format bottom
sizes-double One bottom =
    let grows = next_power (bottom + 4) (bottom + 1 + 4) (omega arith) in
    omega (arith, grows)
sizes-double Two bottom =
    let grows = next_power (bottom + 4) (bottom + 1 + 4) (omega arith) in
    omega (arith, grows)
