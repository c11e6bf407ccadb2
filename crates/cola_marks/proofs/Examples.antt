-- The definitions at small values.
use Rattle.std.proofs.Common.{◌≡◌, [], ◌∷◌, refl}
use Rattle.cola_marks.specs.Pages.{pages_touched, marked}

no_bytes_touch_no_page : pages_touched 5 0 ≡ 0
no_bytes_touch_no_page = refl

one_block_touches_one_page : pages_touched 6144 2048 ≡ 1
one_block_touches_one_page = refl

two_bytes_touch_two_pages : pages_touched 4095 2 ≡ 2
two_bytes_touch_two_pages = refl

whole_pages_touch_no_more : pages_touched 8192 65536 ≡ 16
whole_pages_touch_no_more = refl

a_byte_behind_touches_one_more : pages_touched 8193 65536 ≡ 17
a_byte_behind_touches_one_more = refl

marks_are_counted : marked (0 ∷ 1 ∷ 0 ∷ 7 ∷ []) ≡ 2
marks_are_counted = refl
