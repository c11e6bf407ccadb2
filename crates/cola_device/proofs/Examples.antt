-- The definitions at small values.
use Rattle.std.proofs.Common.{◌≡◌, ◌-◌, ◌^◌, true, false, [], ◌∷◌, refl}
use Rattle.cola_device.specs.Bytes.{part, splice}
use Rattle.cola_device.specs.Counts.{one_more}
use Rattle.cola_device.specs.Memory.{unused, next_fails, after_call, after_layout, after_read, after_write}

splice_in_the_middle : splice (1 ∷ 2 ∷ 3 ∷ 4 ∷ []) 1 (8 ∷ 9 ∷ []) ≡ 1 ∷ 8 ∷ 9 ∷ 4 ∷ []
splice_in_the_middle = refl

splice_at_the_end : splice (1 ∷ 2 ∷ 3 ∷ 4 ∷ []) 3 (8 ∷ []) ≡ 1 ∷ 2 ∷ 3 ∷ 8 ∷ []
splice_at_the_end = refl

splice_of_none : splice (1 ∷ 2 ∷ 3 ∷ 4 ∷ []) 4 [] ≡ 1 ∷ 2 ∷ 3 ∷ 4 ∷ []
splice_of_none = refl

part_in_the_middle : part (1 ∷ 2 ∷ 3 ∷ 4 ∷ []) 1 2 ≡ 2 ∷ 3 ∷ []
part_in_the_middle = refl

count_goes_on : one_more 7 ≡ 8
count_goes_on = refl

count_ends : one_more (2 ^ 64 - 1) ≡ 2 ^ 64 - 1
count_ends = refl

-- the second call fails, and the others do not
first_call_is_carried_out : next_fails (unused [] 2 (2 ∷ []) 0) ≡ false
first_call_is_carried_out = refl

second_call_fails : next_fails (after_call false (unused [] 2 (2 ∷ []) 0)) ≡ true
second_call_fails = refl

layout_within_the_room : (after_layout 2 (unused [] 2 [] 0)).bytes ≡ 0 ∷ 0 ∷ []
layout_within_the_room = refl

layout_past_the_room : (after_layout 3 (unused [] 2 [] 0)).bytes ≡ 0xa5 ∷ 0xa5 ∷ []
layout_past_the_room = refl

layout_past_the_room_is_a_fault : (after_layout 3 (unused [] 2 [] 0)).counts.faults ≡ 1
layout_past_the_room_is_a_fault = refl

write_takes_its_place : (after_write 1 (8 ∷ []) (unused (1 ∷ 2 ∷ 3 ∷ []) 3 [] 0)).bytes ≡ 1 ∷ 8 ∷ 3 ∷ []
write_takes_its_place = refl

failing_write_spoils_its_place : (after_write 1 (8 ∷ []) (unused (1 ∷ 2 ∷ 3 ∷ []) 3 (1 ∷ []) 0)).bytes ≡ 1 ∷ 0xa5 ∷ 3 ∷ []
failing_write_spoils_its_place = refl

failing_read_counts : (after_read (unused [] 0 (1 ∷ []) 0)).counts ≡ record { faults = 1; reads = 1; writes = 0; others = 0 }
failing_read_counts = refl
