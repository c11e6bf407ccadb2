use Rattle.std.proofs.Common.{◌≡◌, ◌-◌, ◌*◌, ℕ, List, ap, ◌∙◌}
use Rattle.std.proofs.lemmas.List.{with_items_is}
use Rattle.std.specs.Vec.{with_items}
use Rattle.cola_cell.specs.Format.{width}
use Rattle.cola_device.specs.Bytes.{part, splice}
use Rattle.cola_front.proofs.Stored.{taken_there, taken_below, taken_above}
use Rattle.cola_front.proofs.front.Front.take.Goals as goal

pub returns-clause-taken : goal.returns-clause-taken
returns-clause-taken c =
    let i = c.self.inside in
    let at = c.args.from - c.args.first in
    let back : (with_items i.bytes.items c.copy_cells.new.bytes).items ≡ c.copy_cells.new.bytes = with_items_is i.bytes.items c.copy_cells.new.bytes (c.copy_cells.auto.bytes ∙ c.deref_mut.ensures.len) in
    taken_there i.format i.block i.bytes.items.items c.args.self.now c.self.view_is c.args.block.now (with_items i.bytes.items c.copy_cells.new.bytes).items c.args.first c.args.from c.self.invariant
    c.requires.begin c.requires.behind c.requires.number c.requires.end c.requires.whole
    (back ∙ c.copy_cells.ensures ∙ ap (λ (xs : List ℕ). splice xs (width i.format * c.args.from) (part c.args.block.now (width i.format * at) (width i.format * (i.block - at)))) c.deref_mut.ensures.value)

pub returns-clause-below : goal.returns-clause-below
returns-clause-below c =
    let i = c.self.inside in
    let at = c.args.from - c.args.first in
    let back : (with_items i.bytes.items c.copy_cells.new.bytes).items ≡ c.copy_cells.new.bytes = with_items_is i.bytes.items c.copy_cells.new.bytes (c.copy_cells.auto.bytes ∙ c.deref_mut.ensures.len) in
    taken_below i.format i.block i.bytes.items.items c.args.self.now c.self.view_is c.args.block.now (with_items i.bytes.items c.copy_cells.new.bytes).items c.args.first c.args.from c.self.invariant
    c.requires.begin c.requires.behind c.requires.number c.requires.end c.requires.whole
    (back ∙ c.copy_cells.ensures ∙ ap (λ (xs : List ℕ). splice xs (width i.format * c.args.from) (part c.args.block.now (width i.format * at) (width i.format * (i.block - at)))) c.deref_mut.ensures.value)

pub returns-clause-above : goal.returns-clause-above
returns-clause-above c =
    let i = c.self.inside in
    let at = c.args.from - c.args.first in
    let back : (with_items i.bytes.items c.copy_cells.new.bytes).items ≡ c.copy_cells.new.bytes = with_items_is i.bytes.items c.copy_cells.new.bytes (c.copy_cells.auto.bytes ∙ c.deref_mut.ensures.len) in
    taken_above i.format i.block i.bytes.items.items c.args.self.now c.self.view_is c.args.block.now (with_items i.bytes.items c.copy_cells.new.bytes).items c.args.first c.args.from c.self.invariant
    c.requires.begin c.requires.behind c.requires.number c.requires.end c.requires.whole
    (back ∙ c.copy_cells.ensures ∙ ap (λ (xs : List ℕ). splice xs (width i.format * c.args.from) (part c.args.block.now (width i.format * at) (width i.format * (i.block - at)))) c.deref_mut.ensures.value)
