use Rattle.std.proofs.Common.{◌≡◌, ◌+◌, ℕ, length, ap, sym, subst, ◌∙◌, arith}
use Rattle.cola_cell.specs.Decoded.{decoded}
use Rattle.cola_cell.specs.Flat.{spot_of}
use Rattle.cola_cell.specs.Places.{number_of}
use Rattle.cola_cell.specs.ToldCells.{cells}
use Rattle.cola_layout.specs.Cells.{cell_bytes, file_spots}
use Rattle.cola_plain_files.proofs.Spelled.{AreSpelled, spelled-more, listed}
use Rattle.cola_plain_files.proofs.cells.run_of_file.Goals as goal

pub loop-index-preserved : goal.loop-index-preserved
loop-index-preserved c =
    subst (AreSpelled c.args.format c.args.bytes.now (λ (k : ℕ). number_of c.args.level c.args.slot k) (c.loop-index.index + 1)) (sym c.in_ok-push.ensures.items)
    (spelled-more c.args.format c.args.bytes.now (λ (k : ℕ). number_of c.args.level c.args.slot k) c.loop-index.index c.loop-index.cells.items c.cell_of_file.result c.loop-index.invariant
    (c.cell_of_file.ensures.answer ∙ ap (λ (n : ℕ). decoded c.args.format (cell_bytes c.args.format c.args.bytes.now n)) c.number_at.ensures))

pub returns-clause-listed : goal.returns-clause-listed
returns-clause-listed c =
    let t = c.loop-index.invariant in
    let index : c.loop-index.index ≡ c.args.len = omega (arith, c.loop-index-test.false, c.loop-index.auto.index-end) in
    let many : length c.loop-index.cells.items ≡ c.args.len = t.many ∙ index in
    let spots = file_spots c.args.format c.args.bytes.now c.args.level c.args.slot in
    listed c.loop-index.cells.items spots 0 (λ k h. ap spot_of (t.each k (omega (arith, h, t.many))) ∙ ap spots (let e : k ≡ 0 + k = omega arith in e))
    ∙ ap (λ (n : ℕ). cells spots 0 n) many
