use Rattle.std.proofs.Common.{◌≡◌, ◌<◌, length, get_or, subst, ap, sym, ◌∙◌, arith}
use Rattle.cola_cell.specs.Places.{number_of}
use Rattle.cola_cell.proofs.FlatLemmas.{number_in, place_of_six, read_found}
use Rattle.cola_cell.proofs.flat_cells.FlatCellsCellSource.read.Goals as goal

pub number-number-requires : goal.number-number-requires
number-number-requires g c = place_of_six c.args.self.now c.args.level c.args.slot c.args.index c.access.ensures.sound c.requires

pub index-requires : goal.index-requires
index-requires g c =
    let h : number_of c.args.level c.args.slot c.args.index < length c.args.self.now.cells = number_in c.args.self.now c.args.level c.args.slot c.args.index c.access.ensures.sound c.requires in
    let e : length c.self.inside.cells.items ≡ length c.access.new.self.cells = ap (λ f. length f.cells) c.self.view_is in
    let k : length c.access.new.self.cells ≡ length c.args.self.now.cells = ap (λ f. length f.cells) c.access.ensures.after in
    omega (arith, h, e, k, c.number-number.ensures)

pub returns-clause-answer : goal.returns-clause-answer
returns-clause-answer g c =
    let same : c.self.inside.cells.items ≡ c.args.self.now.cells = ap (λ f. f.cells) c.self.view_is ∙ ap (λ f. f.cells) c.access.ensures.after in
    let h : number_of c.args.level c.args.slot c.args.index < length c.args.self.now.cells = number_in c.args.self.now c.args.level c.args.slot c.args.index c.access.ensures.sound c.requires in
    let found_there : c.index.result.now ≡ get_or c.args.self.now.cells c.number-number.result c.index.result.now = subst (λ cells. c.index.result.now ≡ get_or cells c.number-number.result c.index.result.now) same c.index.ensures in
    c.ok_or.ensures.value ∙ read_found c.args.self.now c.args.level c.args.slot c.args.index c.number-number.result c.index.result.now (sym c.access.ensures.fails ∙ c.if-access.false) c.number-number.ensures (omega (arith, h, c.number-number.ensures)) found_there
