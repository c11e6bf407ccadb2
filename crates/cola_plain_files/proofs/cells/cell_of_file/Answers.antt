use Rattle.std.proofs.Common.{List, ℕ, ap, sym, ◌∙◌, arith}
use Rattle.cola_cell.specs.Decoded.{decoded}
use Rattle.cola_cell.specs.Flat.{spot_of}
use Rattle.cola_plain_files.proofs.Spelled.{beyond-none, cell-between}
use Rattle.cola_plain_files.proofs.cells.cell_of_file.Goals as goal

pub returns-then-number-cells-clause-answer : goal.returns-then-number-cells-clause-answer
returns-then-number-cells-clause-answer c =
    sym (beyond-none c.args.format c.width-width.result c.args.bytes.now c.args.number c.width-width.ensures (omega (arith, c.if-number-cells.true)))

pub returns-then-number-cells-clause-tells : goal.returns-then-number-cells-clause-tells
returns-then-number-cells-clause-tells c =
    ap spot_of (sym (beyond-none c.args.format c.width-width.result c.args.bytes.now c.args.number c.width-width.ensures (omega (arith, c.if-number-cells.true))))

pub returns-clause-answer : goal.returns-clause-answer
returns-clause-answer c =
    c.cell_of.ensures ∙ ap (λ (bytes : List ℕ). decoded c.args.format bytes) (cell-between c.args.format c.width-width.result c.args.bytes.now c.args.number c.width-width.ensures)

pub returns-clause-tells : goal.returns-clause-tells
returns-clause-tells c =
    ap spot_of (c.cell_of.ensures ∙ ap (λ (bytes : List ℕ). decoded c.args.format bytes) (cell-between c.args.format c.width-width.result c.args.bytes.now c.args.number c.width-width.ensures))
