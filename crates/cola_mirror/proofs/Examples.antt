-- The definitions at small values.
use Rattle.std.proofs.Common.{◌≡◌, true, false, [], ◌∷◌, Some, None, refl}
use Rattle.cola_mirror.specs.declared.sides.Sides.TheVariants.{Both, First, Second}
use Rattle.cola_mirror.specs.Sides.{asks_second, after_change, after_settle}
use Rattle.cola_mirror.specs.Differ.{first_difference, pieces_of}
use Rattle.cola_mirror.specs.Rebuild.{first_bytes}

same_lists : first_difference (1 ∷ 2 ∷ []) (1 ∷ 2 ∷ []) ≡ None
same_lists = refl

no_items : first_difference [] [] ≡ None
no_items = refl

another_item : first_difference (1 ∷ 2 ∷ 3 ∷ []) (1 ∷ 5 ∷ 4 ∷ []) ≡ Some 1
another_item = refl

first_ends : first_difference (1 ∷ 2 ∷ []) (1 ∷ 2 ∷ 0 ∷ []) ≡ Some 2
first_ends = refl

second_ends : first_difference (1 ∷ []) [] ≡ Some 0
second_ends = refl

pieces_of_a_row : pieces_of 8192 ≡ 16
pieces_of_a_row = refl

last_piece_is_shorter : pieces_of 1025 ≡ 3
last_piece_is_shorter = refl

second_is_asked_behind_a_failure : asks_second Both true ≡ true
second_is_asked_behind_a_failure = refl

lost_side_is_not_asked : asks_second First true ≡ false
lost_side_is_not_asked = refl

first_is_lost : after_change Both true false ≡ Second
first_is_lost = refl

second_is_lost_where_both_fail : after_change Both true true ≡ First
second_is_lost_where_both_fail = refl

last_side_stays : after_change First true true ≡ First
last_side_stays = refl

settle_loses_no_last_side : after_settle Both true true ≡ Both
settle_loses_no_last_side = refl

first_bytes_of_one : first_bytes (7 ∷ []) ≡ 7 ∷ []
first_bytes_of_one = refl
