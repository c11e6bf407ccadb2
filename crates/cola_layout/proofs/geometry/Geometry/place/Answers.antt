use Rattle.std.proofs.Common.{◌+◌, arith}
use Rattle.cola_cell.specs.Places.{IsPlace}
use Rattle.cola_layout.proofs.Places.{place-behind, place-within}
use Rattle.cola_layout.proofs.geometry.Geometry.place.Goals as goal

pub returns-clause-behind_header : goal.returns-clause-behind_header
returns-clause-behind_header c = rw c.cell_at.ensures (place-behind c.args.level c.args.slot c.args.index)

pub returns-clause-within : goal.returns-clause-within
returns-clause-within c =
    let is : IsPlace (c.args.self.now.bottom + 1) c.args.level c.args.slot c.args.index =
    record { level_in = omega (arith, c.requires.level_exists); slot_in = omega (arith, c.requires.slot_exists); index_in = c.requires.index_exists } in
    rw c.cell_at.ensures (place-within c.args.self.now.bottom c.args.level c.args.slot c.args.index is)
