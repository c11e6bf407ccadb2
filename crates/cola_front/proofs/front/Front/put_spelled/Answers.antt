use Rattle.std.proofs.Common.{◌≡◌, ◌*◌, ℕ, List, ap, ◌∙◌}
use Rattle.std.proofs.lemmas.List.{with_items_is}
use Rattle.std.specs.Vec.{with_items}
use Rattle.cola_cell.specs.Format.{width}
use Rattle.cola_device.specs.Bytes.{part, splice}
use Rattle.cola_front.proofs.Stored.{spelled_placed, spelled_others, spelled_sound}
use Rattle.cola_front.proofs.front.Front.put_spelled.Goals as goal

pub returns-clause-placed : goal.returns-clause-placed
returns-clause-placed c =
    let i = c.self.inside in
    let back : (with_items i.bytes.items c.copy_cells.new.bytes).items ≡ c.copy_cells.new.bytes = with_items_is i.bytes.items c.copy_cells.new.bytes (c.copy_cells.auto.bytes ∙ c.deref_mut.ensures.len) in
    spelled_placed i.format i.block i.bytes.items.items c.args.self.now c.self.view_is c.args.cells.now (with_items i.bytes.items c.copy_cells.new.bytes).items c.args.place c.args.count c.self.invariant
    c.requires.behind_header c.requires.within c.requires.size
    (back ∙ c.copy_cells.ensures ∙ ap (λ (xs : List ℕ). splice xs (width i.format * c.args.place) (part c.args.cells.now (width i.format * 0) (width i.format * c.args.count))) c.deref_mut.ensures.value) c.requires.spelled

pub returns-clause-others : goal.returns-clause-others
returns-clause-others c =
    let i = c.self.inside in
    let back : (with_items i.bytes.items c.copy_cells.new.bytes).items ≡ c.copy_cells.new.bytes = with_items_is i.bytes.items c.copy_cells.new.bytes (c.copy_cells.auto.bytes ∙ c.deref_mut.ensures.len) in
    spelled_others i.format i.block i.bytes.items.items c.args.self.now c.self.view_is c.args.cells.now (with_items i.bytes.items c.copy_cells.new.bytes).items c.args.place c.args.count c.self.invariant
    c.requires.behind_header c.requires.within c.requires.size
    (back ∙ c.copy_cells.ensures ∙ ap (λ (xs : List ℕ). splice xs (width i.format * c.args.place) (part c.args.cells.now (width i.format * 0) (width i.format * c.args.count))) c.deref_mut.ensures.value)

pub returns-clause-sound : goal.returns-clause-sound
returns-clause-sound c =
    let i = c.self.inside in
    let back : (with_items i.bytes.items c.copy_cells.new.bytes).items ≡ c.copy_cells.new.bytes = with_items_is i.bytes.items c.copy_cells.new.bytes (c.copy_cells.auto.bytes ∙ c.deref_mut.ensures.len) in
    spelled_sound i.format i.block i.bytes.items.items c.args.self.now c.self.view_is c.args.cells.now (with_items i.bytes.items c.copy_cells.new.bytes).items c.args.place c.args.count c.self.invariant
    c.requires.behind_header c.requires.within c.requires.size
    (back ∙ c.copy_cells.ensures ∙ ap (λ (xs : List ℕ). splice xs (width i.format * c.args.place) (part c.args.cells.now (width i.format * 0) (width i.format * c.args.count))) c.deref_mut.ensures.value)
