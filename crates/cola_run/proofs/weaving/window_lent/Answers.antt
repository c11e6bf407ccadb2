-- The cells of a run from an index on lie within the file.
use Rattle.std.proofs.Common.{◌≡◌, ◌+◌, ◌-◌, ◌*◌, ◌/◌, ◌^◌, ◌<◌, ℕ, ap, sym, subst, ◌∙◌, arith}
use Rattle.std.proofs.Math.Nat.{add-mul}
use Rattle.std.proofs.lemmas.Nat.{pow_pos}
use Rattle.cola_cell.specs.Places.{number_of}
use Rattle.cola_run.specs.Cells.{block_cells}
use Rattle.cola_run.proofs.Numbers.{cell-in_blocks, block-in_file}
use Rattle.cola_run.proofs.weaving.window_lent.Goals as goal

pub lent-requires : goal.lent-requires
lent-requires g c = record {
  inside =
      let geometry = c.args.geometry.now in
      let run = c.args.reach.run in
      let w = c.width-width.result in
      let n = number_of run.level run.slot c.args.reach.from in
      let count = run.len - c.args.reach.from in
      let ahead : c.args.reach.from < run.len = c.requires.some in
      let last = n + (count - 1) in
      let inside = cell-in_blocks w (block_cells geometry) c.args.buffers.now.many last (pow_pos geometry.block_exp)
      (subst (λ (m : ℕ). last / block_cells geometry < m) (sym c.requires.many)
      (subst (λ (m : ℕ). m / block_cells geometry < 2 ^ (geometry.bottom + 4 - geometry.block_exp))
      (let e : number_of run.level run.slot (c.args.reach.from + (count - 1)) ≡ last = omega arith in e)
      (block-in_file geometry.bottom geometry.block_exp run.level run.slot (c.args.reach.from + (count - 1)) (let f = geometry.block_fits.fits in omega (arith, f)) record {
        level_in = omega (arith, c.requires.there.low);
        slot_in = c.requires.there.slot_in;
        index_in = omega (arith, ahead, c.requires.there.within);
      }))) in
      let sums : n * w + count * w ≡ last * w + w = (let a : n + count ≡ last + 1 = omega (arith, ahead) in sym (add-mul n count w) ∙ ap (λ (m : ℕ). m * w) a ∙ add-mul last 1 w ∙ (let b : last * w + 1 * w ≡ last * w + w = omega arith in b)) in
      let size : w * block_cells geometry ≡ c.args.buffers.now.cache.size = ap (λ (m : ℕ). m * block_cells geometry) c.width-width.ensures ∙ sym c.requires.size in
      let at : c.place-number.result * w ≡ n * w = ap (λ (m : ℕ). m * w) c.place-number.ensures.value in
      omega (arith, inside, sums, at, ap (λ (m : ℕ). c.args.buffers.now.many * m) size);
}
