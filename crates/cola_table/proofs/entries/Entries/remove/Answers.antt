use Rattle.std.proofs.Common.{ℕ, List, [], ◌<◌, length, ap, sym, ◌∙◌, arith}
use Rattle.std.proofs.lemmas.List.{length-map, get_or-map, get_or_default}
use Rattle.cola_spec.specs.Map.{Stored}
use Rattle.cola_table.specs.Slots.{entry_in}
use Rattle.cola_table.proofs.Slots.{slot_in_range, freed, entries_freed}
use Rattle.cola_table.proofs.entries.Entries.remove.Goals as goal

pub index-requires : goal.index-requires
index-requires c =
    let lt : c.args.place < length c.self.inside.order.items = simp length-map at (rw (← c.self.view_is) at c.requires) in
    let slot = slot_in_range _ _ _ _ c.args.place c.remove-slot.result c.self.invariant.are_slots lt in
    omega (arith, c.remove-slot.ensures.value, c.self.inside.slots.ok.0)

-- the slot is free now
pub invariant_of-self : goal.invariant_of-self
invariant_of-self c =
    let lt : c.args.place < length c.self.inside.order.items = simp length-map at (rw (← c.self.view_is) at c.requires) in
    let are = c.self.invariant.are_slots in
    let ok = c.push-pushed.ensures.succeeds (omega (arith, lt, are.counted, are.within, c.self.invariant.free_room, c.self.inside.free.ok.0)) in
    record {
      are_slots = rw (c.remove-slot.ensures.items, c.push-pushed.ensures.items, ok) (rw (← c.remove-slot.ensures.value) at (freed c.self.inside.limit c.self.inside.slots.items _ _ c.args.place c.remove-slot.result are lt));
      slots_room = c.self.invariant.slots_room;
      order_room = omega (arith, c.self.invariant.order_room, c.remove-slot.ensures.capacity);
      free_room = omega (arith, c.self.invariant.free_room, c.push-pushed.ensures.capacity);
    }

pub returns-clause-entry : goal.returns-clause-entry
returns-clause-entry c =
    let lt : c.args.place < length c.self.inside.order.items = simp length-map at (rw (← c.self.view_is) at c.requires) in
    let slot = slot_in_range _ _ _ _ c.args.place c.remove-slot.result c.self.invariant.are_slots lt in
    let d : List ℕ × Stored = ([], record { value = []; stamp = 0 }) in
    rw (← c.self.view_is) (
    get_or-map (entry_in c.self.inside.slots.items) c.self.inside.order.items c.args.place c.remove-slot.result c.index.result.now lt
    ∙ ap (entry_in c.self.inside.slots.items) (sym c.remove-slot.ensures.value)
    ∙ get_or_default c.self.inside.slots.items c.remove-slot.result d c.index.result.now (omega (arith, c.remove-slot.ensures.value))
    ∙ sym c.index.ensures)

pub returns-clause-kept : goal.returns-clause-kept
returns-clause-kept c =
    rw (← c.self.view_is, c.remove-slot.ensures.items) (ap (λ (l : List (List ℕ × Stored)). record { limit = c.self.inside.limit; list = l }) (entries_freed c.self.inside.limit c.self.inside.slots.items c.self.inside.order.items c.self.inside.free.items c.args.place))
