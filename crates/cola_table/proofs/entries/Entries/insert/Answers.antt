use Rattle.std.proofs.Common.{◌≡◌, ℕ, List, [], ◌<◌, ◌≤◌, length, ap, arith}
use Rattle.std.proofs.lemmas.List.{length-map, length-set, nil_from_length}
use Rattle.cola_spec.specs.Map.{Stored}
use Rattle.cola_table.proofs.Slots.{reused, pushed, entries_reused, entries_pushed}
use Rattle.cola_table.proofs.entries.Entries.insert.Goals as goal

-- a free slot is taken
pub index_mut-requires : goal.index_mut-requires
index_mut-requires c =
    let le : c.args.place ≤ length c.self.inside.order.items = simp length-map at (rw (← c.self.view_is) at c.requires.in_range) in
    let now = reused c.self.inside.limit c.self.inside.slots.items _ _ c.pop.new.self.items c.in-Some.slot c.args.place c.self.invariant.are_slots c.in-Some.ensures.items le in
    omega (arith, now.1, c.self.inside.slots.ok.0)

pub invariant_of-self : goal.invariant_of-self
invariant_of-self c =
    let le : c.args.place ≤ length c.self.inside.order.items = simp length-map at (rw (← c.self.view_is) at c.requires.in_range) in
    let room : length c.self.inside.order.items < c.self.inside.limit = simp length-map at (rw (← c.self.view_is) at c.requires.has_room) in
    let now = reused c.self.inside.limit c.self.inside.slots.items _ _ c.pop.new.self.items c.in-Some.slot c.args.place c.self.invariant.are_slots c.in-Some.ensures.items le in
    let ok = c.insert-in_place.ensures.succeeds (omega (arith, c.self.invariant.order_room, c.self.inside.order.ok.0)) in
    record {
      are_slots = rw (length-set c.self.inside.slots.items c.in-Some.slot c.args.entry, c.insert-in_place.ensures.items, ok) now.2;
      slots_room = c.self.invariant.slots_room;
      order_room = omega (arith, c.self.invariant.order_room, c.insert-in_place.ensures.capacity);
      free_room = omega (arith, c.self.invariant.free_room, c.in-Some.ensures.capacity);
    }

pub returns-in-Some : goal.returns-in-Some
returns-in-Some c =
    let le : c.args.place ≤ length c.self.inside.order.items = simp length-map at (rw (← c.self.view_is) at c.requires.in_range) in
    let room : length c.self.inside.order.items < c.self.inside.limit = simp length-map at (rw (← c.self.view_is) at c.requires.has_room) in
    let now = reused c.self.inside.limit c.self.inside.slots.items _ _ c.pop.new.self.items c.in-Some.slot c.args.place c.self.invariant.are_slots c.in-Some.ensures.items le in
    let ok = c.insert-in_place.ensures.succeeds (omega (arith, c.self.invariant.order_room, c.self.inside.order.ok.0)) in
    rw (← c.self.view_is, c.insert-in_place.ensures.items, ok) (ap (λ (l : List (List ℕ × Stored)). record { limit = c.self.inside.limit; list = l }) (entries_reused c.self.inside.limit c.self.inside.slots.items c.self.inside.order.items c.self.inside.free.items c.args.entry c.in-Some.slot c.args.place now.0 now.1))

-- no slot is free, and a new one is taken
pub invariant_of-self-in-None : goal.invariant_of-self-in-None
invariant_of-self-in-None c =
    let le : c.args.place ≤ length c.self.inside.order.items = simp length-map at (rw (← c.self.view_is) at c.requires.in_range) in
    let room : length c.self.inside.order.items < c.self.inside.limit = simp length-map at (rw (← c.self.view_is) at c.requires.has_room) in
    let none : c.self.inside.free.items ≡ [] = nil_from_length _ (omega (arith, c.in-None.ensures.cases.0, c.self.inside.free.ok.0)) in
    let rest : c.pop.new.self.items ≡ [] = nil_from_length _ (omega (arith, c.in-None.ensures.cases.1, c.pop.new.self.ok.0)) in
    let few = c.self.invariant.are_slots.counted in
    let at_end = c.push-pushed.ensures.succeeds (omega (arith, few, room, ap length none, c.self.invariant.slots_room, c.self.inside.slots.ok.0)) in
    let ok = c.insert-in_place-in-None.ensures.succeeds (omega (arith, room, c.self.invariant.order_room, c.self.inside.order.ok.0)) in
    record {
      are_slots = rw (c.push-pushed.ensures.items, at_end, c.insert-in_place-in-None.ensures.items, ok, c.len-slot.ensures, c.self.inside.slots.ok.0, rest) (pushed c.self.inside.limit c.self.inside.slots.items _ _ c.args.entry c.args.place c.self.invariant.are_slots none le room);
      slots_room = omega (arith, c.self.invariant.slots_room, c.push-pushed.ensures.capacity);
      order_room = omega (arith, c.self.invariant.order_room, c.insert-in_place-in-None.ensures.capacity);
      free_room = omega (arith, c.self.invariant.free_room, c.in-None.ensures.capacity);
    }

pub returns-in-None : goal.returns-in-None
returns-in-None c =
    let room : length c.self.inside.order.items < c.self.inside.limit = simp length-map at (rw (← c.self.view_is) at c.requires.has_room) in
    let none : c.self.inside.free.items ≡ [] = nil_from_length _ (omega (arith, c.in-None.ensures.cases.0, c.self.inside.free.ok.0)) in
    let few = c.self.invariant.are_slots.counted in
    let at_end = c.push-pushed.ensures.succeeds (omega (arith, few, room, ap length none, c.self.invariant.slots_room, c.self.inside.slots.ok.0)) in
    let ok = c.insert-in_place-in-None.ensures.succeeds (omega (arith, room, c.self.invariant.order_room, c.self.inside.order.ok.0)) in
    rw (← c.self.view_is, c.push-pushed.ensures.items, at_end, c.insert-in_place-in-None.ensures.items, ok, c.len-slot.ensures, c.self.inside.slots.ok.0) (ap (λ (l : List (List ℕ × Stored)). record { limit = c.self.inside.limit; list = l }) (entries_pushed c.self.inside.limit c.self.inside.slots.items c.self.inside.order.items c.self.inside.free.items c.args.entry c.args.place c.self.invariant.are_slots))
