use Rattle.std.proofs.Common.{ℕ, List, Option, take, drop, ◌++◌, ap, ◌∙◌}
use Rattle.cola_cell.specs.declared.cell.Cell.{Cell}
use Rattle.cola_front.specs.Front.{FrontCells, places_in, stored_all}
use Rattle.cola_front.proofs.Places.{first_stored}
use Rattle.cola_front.proofs.front.Front.put_first.Goals as goal

pub returns-clause-put : goal.returns-clause-put
returns-clause-put c =
    let i = c.self.inside in
    let header = c.args.header.now in
    c.put_header.ensures
    ∙ (ap (λ (xs : List ℕ). header ++ drop 512 xs) c.put_cells.ensures.put
    ∙ (ap (λ (xs : List ℕ). header ++ drop 512 (stored_all i.format (places_in i.format xs 0 i.block))) c.deref.ensures.value
    ∙ (ap (λ (xs : List (Option Cell)). header ++ drop 512 (stored_all i.format xs)) (first_stored i.format i.block i.bytes.items.items)
    ∙ ap (λ (f : FrontCells). header ++ drop 512 (stored_all f.format (take f.block f.cells))) c.self.view_is)))
