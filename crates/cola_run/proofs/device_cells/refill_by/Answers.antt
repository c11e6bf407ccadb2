-- A cell is the one that the device has at its number.
use Rattle.std.proofs.Common.{◌≡◌, ◌+◌, ◌*◌, ◌/◌, ◌%◌, ◌≤◌, ap, subst, sym, ◌∙◌, ℕ, length, Option, Some, None, refl}
use Rattle.std.proofs.lemmas.Nat.{pow_pos}
use Rattle.std.specs.Prelude.{if◌then◌else◌}
use Rattle.cola_cell.specs.declared.cell.Cell.{Cell}
use Rattle.cola_cell.specs.Decoded.{decoded}
use Rattle.cola_cell.specs.Flat.{found}
use Rattle.cola_device.specs.Bytes.{Gives}
use Rattle.cola_front.specs.Front.{cell_bytes}
use Rattle.cola_run.specs.Cells.{block_cells, block_bytes}
use Rattle.cola_run.proofs.Calls.{finds-block, finds-one}
use Rattle.cola_run.proofs.Numbers.{cell-in_blocks}
use Rattle.cola_run.proofs.device_cells.refill_by.Goals as goal

pub lent-requires : goal.lent-requires
lent-requires g c = record {
  inside =
      let w = c.width-width.result in
      let b = block_cells c.args.geometry.now in
      let e : w * b ≡ c.args.buffers.now.cache.size = ap (λ (n : ℕ). n * b) c.width-width.ensures ∙ sym c.requires.size in
      subst (λ (n : ℕ). c.args.number * w + w ≤ c.args.buffers.now.many * n) e
      (cell-in_blocks w b c.args.buffers.now.many c.args.number (pow_pos c.args.geometry.now.block_exp) c.requires.inside);
}

pub returns-in-Some : goal.returns-in-Some
returns-in-Some g c =
    finds-one (g.D.Device.bytes c.args.buffers.now.cache.device) c.args.geometry.now.format c.args.number c.width-width.result c.in-Some.lent.now
    (if c.refill_from.result then Some c.refill_from.new.into else None) c.width-width.ensures c.in-Some.ensures.size c.in-Some.ensures.given c.refill_from.ensures

pub returns-in-None : goal.returns-in-None
returns-in-None g c =
    let geometry = c.args.geometry.now in
    let told = g.D.Device.bytes c.args.buffers.now.cache.device in
    let number = c.args.number in
    let copy = c.copy.result.now in
    let many : length copy ≡ block_bytes geometry = c.copy.ensures.size ∙ c.requires.size in
    let block : Gives told (number / block_cells geometry * block_bytes geometry) copy =
    subst (λ (n : ℕ). Gives told (number / block_cells geometry * n) copy) c.requires.size (c.copy.ensures.given (number / block_cells geometry) c.requires.held) in
    let cell : Option Cell = if c.refill_from-in-None.result then Some c.refill_from-in-None.new.into else None in
    finds-block told geometry.format (block_cells geometry) number copy cell (found number cell) (pow_pos geometry.block_exp) many block
    (c.refill_from-in-None.ensures ∙ ap (λ (n : ℕ). decoded geometry.format (cell_bytes geometry.format copy (number % n))) c.cells_of_block.ensures.value) refl
