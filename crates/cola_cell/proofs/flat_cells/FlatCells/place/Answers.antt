use Rattle.std.proofs.Common.{◌≡◌, ◌<◌, length, subst, ap, arith}
use Rattle.cola_cell.specs.Places.{number_of}
use Rattle.cola_cell.specs.Flat.{IsFlat}
use Rattle.cola_cell.proofs.FlatLemmas.{number_in}
use Rattle.cola_cell.proofs.flat_cells.FlatCells.place.Goals as goal

pub index_mut-requires : goal.index_mut-requires
index_mut-requires c =
    let f : IsFlat c.args.self.now = subst IsFlat c.self.view_is c.self.invariant in
    let h : number_of c.args.level c.args.slot c.args.index < length c.args.self.now.cells = number_in c.args.self.now c.args.level c.args.slot c.args.index f c.requires.place in
    let e : length c.self.inside.cells.items ≡ length c.args.self.now.cells = ap (λ g. length g.cells) c.self.view_is in
    omega (arith, h, e, c.number.ensures)
