use Rattle.cola_opening.proofs.Sizes.{header_fits}
use Rattle.cola_opening.proofs.reading.size_of.Goals as goal

pub returns-clause-header : goal.returns-clause-header
returns-clause-header c =
    let geometry = c.args.geometry.now in
    rw (c.width.ensures, c.cells.ensures.value) (header_fits geometry.format geometry.bottom geometry.bottom_fits.three)
