use Rattle.cola_plain.proofs.MapLemmas.{stands_with_value}
use Rattle.cola_plain.proofs.map.Map.with_value.Goals as goal

pub returns-clause-given : goal.returns-clause-given
returns-clause-given c m stands fresh =
    stands_with_value c.args.self.now _ c.args.shape.now m c.args.key.now c.args.value.now (record { key = c.in_ok-from_slice.field-0; value = c.in_ok-from_slice-2.field-0; stamp = c.next_stamp.result }) stands fresh
    c.next_last-last.ensures c.next_stamp.ensures c.in_ok-from_slice.ensures.items c.in_ok-from_slice-2.ensures.items c.in_ok-store.ensures.stored
