use Rattle.std.proofs.Common.{◌≡◌, ◌*◌, ℕ, List, Some, ap, ◌∙◌}
use Rattle.std.proofs.lemmas.List.{with_items_is}
use Rattle.std.specs.Vec.{with_items}
use Rattle.cola_cell.specs.Format.{width}
use Rattle.cola_cell.specs.Packed.{passed}
use Rattle.cola_device.specs.Bytes.{splice}
use Rattle.cola_front.specs.Front.{stored}
use Rattle.cola_front.proofs.Stored.{sound_of, written}
use Rattle.cola_front.proofs.front.Front.write_as.Goals as goal

pub returns-clause-after : goal.returns-clause-after
returns-clause-after c =
    let i = c.self.inside in
    let cell = passed c.args.pass c.args.cell.now in
    let back : (with_items i.bytes.items c.put_as.new.block).items ≡ c.put_as.new.block = with_items_is i.bytes.items c.put_as.new.block (c.put_as.auto.block ∙ c.deref_mut.ensures.len) in
    written i.format i.block i.bytes.items.items c.args.self.now c.self.view_is c.args.place cell (with_items i.bytes.items c.put_as.new.block).items c.self.invariant c.requires.behind_header c.requires.within c.put_as.ensures.spelled
    (back ∙ c.put_as.ensures.put ∙ ap (λ (xs : List ℕ). splice xs (width i.format * c.args.place) (stored i.format (Some cell))) c.deref_mut.ensures.value)

pub returns-clause-sound : goal.returns-clause-sound
returns-clause-sound c = let i = c.self.inside in sound_of i.format i.block i.bytes.items.items c.args.self.now c.self.view_is c.self.invariant
