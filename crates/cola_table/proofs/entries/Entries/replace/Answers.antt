use Rattle.std.proofs.Common.{ℕ, List, ◌<◌, length, ap, arith}
use Rattle.std.proofs.lemmas.List.{length-map}
use Rattle.cola_spec.specs.Map.{Stored}
use Rattle.cola_table.proofs.Slots.{slot_in_range, entries_replaced}
use Rattle.cola_table.proofs.entries.Entries.replace.Goals as goal

pub index_mut-requires : goal.index_mut-requires
index_mut-requires c =
    let lt : c.args.place < length c.self.inside.order.items = simp length-map at (rw (← c.self.view_is) at c.requires) in
    let slot = slot_in_range _ _ _ _ c.args.place c.index.result.now c.self.invariant.are_slots lt in
    omega (arith, c.index.ensures, c.self.inside.slots.ok.0)

pub returns : goal.returns
returns c =
    let lt : c.args.place < length c.self.inside.order.items = simp length-map at (rw (← c.self.view_is) at c.requires) in
    let same = entries_replaced _ _ _ _ c.args.entry c.args.place c.index.result.now c.self.invariant.are_slots lt in
    rw (← c.self.view_is) (ap (λ (l : List (List ℕ × Stored)). record { limit = c.self.inside.limit; list = l }) (rw (← c.index.ensures) at same))
