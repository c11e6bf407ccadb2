use Rattle.std.proofs.Common.{◌*◌, ap, ◌∙◌}
use Rattle.cola_cell.specs.declared.cell.Cell.{Cell}
use Rattle.cola_cell.specs.Decoded.{spelling}
use Rattle.cola_cell.specs.Format.{width}
use Rattle.cola_cell.specs.Packed.{passed}
use Rattle.cola_device.specs.Bytes.{splice}
use Rattle.cola_run.specs.Cells.{tail_number}
use Rattle.cola_run.proofs.tails.Tails.put_cell.Goals as goal

pub returns-clause-put : goal.returns-clause-put
returns-clause-put c =
    let g = c.args.geometry.now in
    c.put.ensures.put ∙ ap (λ (x : Cell). splice c.args.self.now (width g.format * tail_number g c.args.level c.args.index) (spelling g.format x))
    (ap (passed c.keeping.result) c.of_cell-packed.ensures ∙ c.keeping.ensures.same)
