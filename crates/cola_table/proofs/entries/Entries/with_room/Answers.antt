use Rattle.cola_table.proofs.Slots.{no_slots}
use Rattle.cola_table.proofs.entries.Entries.with_room.Goals as goal

pub invariant_of-result : goal.invariant_of-result
invariant_of-result c = record {
  are_slots = rw (c.in_ok-slots.ensures.items, c.in_ok-order.ensures.items, c.in_ok-free.ensures.items) (no_slots c.args.limit);
  slots_room = c.in_ok-slots.ensures.capacity;
  order_room = c.in_ok-order.ensures.capacity;
  free_room = c.in_ok-free.ensures.capacity;
}
