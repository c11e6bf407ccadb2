-- The room lies in the level's tail.
use Rattle.std.proofs.Common.{◌≡◌, ◌+◌, ◌*◌, ◌%◌, ◌≤◌, ℕ, length, ap, arith}
use Rattle.std.proofs.Math.Nat.{mul-add, mod-lt, mul-le-mul_left}
use Rattle.std.proofs.lemmas.Nat.{pow_pos}
use Rattle.cola_cell.specs.Format.{width}
use Rattle.cola_run.specs.Cells.{block_cells, tail_number}
use Rattle.cola_run.proofs.Steps.{tail_room}
use Rattle.cola_run.proofs.weaving.weave_on_device.Goals as goal

pub slice_bounds-pass-end : goal.slice_bounds-pass-end
slice_bounds-pass-end g c =
    let geometry = c.args.geometry.now in
    let b = block_cells geometry in
    let w = width geometry.format in
    let n = c.shadow_of-shadow.result.len in
    let first : 0 % b ≡ 0 = grind arith in
    let few : c.place_in_tails.result + c.cells_of_room.result ≤ tail_number geometry c.args.level 0 + b =
    omega (arith, mod-lt n (pow_pos geometry.block_exp), c.cells_of_room.ensures, c.place_in_tails.ensures.value, first) in
    let fits : c.width-width.result * c.place_in_tails.result + c.width-width.result * c.cells_of_room.result ≤ length c.args.tails.now =
    omega (
      arith,
      mul-le-mul_left w few,
      mul-add w c.place_in_tails.result c.cells_of_room.result,
      mul-add w (tail_number geometry c.args.level 0) b,
      tail_room geometry c.args.level c.requires.level,
      ap (λ (m : ℕ). m * c.place_in_tails.result) c.width-width.ensures,
      ap (λ (m : ℕ). m * c.cells_of_room.result) c.width-width.ensures,
      c.requires.tails,
    ) in
    fits
