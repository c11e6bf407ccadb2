-- The definitions, computed on worked examples.
use Rattle.std.specs.Prelude.{ℕ, ◌≡◌, refl, true, false, List, [], ◌∷◌, codes, ◌++◌, length, map, Some, None}
use Rattle.std.specs.Fmt.{digits}
use Rattle.cola_spec.specs.Map.{Shape, New, Old, Full, Worn, Other}
use Rattle.cola_spec.specs.Lines.{raw_lines, ended_lines, line_of, Text, TooLong}
use Rattle.cola_spec.specs.Command.{Put, PutIf, Del, Get, Stamp, Range, Scan, Count, Close, Reopen, command_of, requests}
use Rattle.cola_spec.specs.Reply as reply
use Rattle.cola_spec.specs.Reply.{reply_text}
use Rattle.cola_spec.specs.Bounds.{levels_of, put_bound, get_bound, range_bound, command_bound, request_bound}
use Rattle.cola_spec.specs.Kinds.{requests_bound}
use Rattle.cola_spec.specs.Spelling.{command_lines, command_text}
use Rattle.cola_spec.specs.Told.{told}

-- a store of 32 keys without stamps, and one with stamps
abbrev pub small_shape : Shape
small_shape = record { limit = 32; key_limit = 24; value_limit = 32; stamped = false }

abbrev pub stamped_shape : Shape
stamped_shape = record { limit = 32; key_limit = 40; value_limit = 72; stamped = true }

-- Lines

abbrev eight_bytes : List ℕ
eight_bytes = codes "abcdefgh"

abbrev forty_bytes : List ℕ
forty_bytes = eight_bytes ++ eight_bytes ++ eight_bytes ++ eight_bytes ++ eight_bytes

abbrev limit_bytes : List ℕ
limit_bytes = forty_bytes ++ forty_bytes ++ forty_bytes ++ forty_bytes

pub no_lines : raw_lines [] ≡ []
no_lines = refl

pub one_line_with_an_end : raw_lines (codes "get a" ++ 10 ∷ []) ≡ codes "get a" ∷ []
one_line_with_an_end = refl

pub one_line_without_an_end : raw_lines (codes "get a") ≡ codes "get a" ∷ []
one_line_without_an_end = refl

pub an_empty_line : raw_lines (10 ∷ 10 ∷ codes "a") ≡ [] ∷ [] ∷ codes "a" ∷ []
an_empty_line = refl

pub ended_by_a_line_feed : ended_lines (codes "get a" ++ 10 ∷ codes "get b") ≡ codes "get a" ∷ []
ended_by_a_line_feed = refl

pub a_return_is_dropped : line_of (codes "get a" ++ 13 ∷ []) ≡ Text (codes "get a")
a_return_is_dropped = refl

pub one_return_is_dropped : line_of (codes "get a" ++ 13 ∷ 13 ∷ []) ≡ Text (codes "get a" ++ 13 ∷ [])
one_return_is_dropped = refl

pub a_return_within_stays : line_of (codes "get" ++ 13 ∷ codes "a") ≡ Text (codes "get" ++ 13 ∷ codes "a")
a_return_within_stays = refl

pub length_limit_bytes : length limit_bytes ≡ 160
length_limit_bytes = refl

pub a_line_at_the_limit : line_of limit_bytes ≡ Text limit_bytes
a_line_at_the_limit = refl

pub a_line_past_the_limit : line_of (97 ∷ limit_bytes) ≡ TooLong
a_line_past_the_limit = refl

pub a_return_counts : line_of (limit_bytes ++ 13 ∷ []) ≡ TooLong
a_return_counts = refl

-- Commands

pub a_put : command_of small_shape (codes "put a 1") ≡ Some (Put (codes "a") (codes "1"))
a_put = refl

pub a_put_of_nothing : command_of small_shape (codes "put a ") ≡ Some (Put (codes "a") [])
a_put_of_nothing = refl

pub a_put_without_a_value : command_of small_shape (codes "put a") ≡ None
a_put_without_a_value = refl

pub a_put_without_a_key : command_of small_shape (codes "put  1") ≡ None
a_put_without_a_key = refl

pub a_put_with_more : command_of small_shape (codes "put a 1 ") ≡ None
a_put_with_more = refl

pub a_longest_put : command_of small_shape (codes "put abcdefghabcdefghabcdefgh abcdefghabcdefghabcdefghabcdefgh") ≡ Some (Put (codes "abcdefghabcdefghabcdefgh") (codes "abcdefghabcdefghabcdefghabcdefgh"))
a_longest_put = refl

pub a_key_too_long : command_of small_shape (codes "put abcdefghabcdefghabcdefghi 1") ≡ None
a_key_too_long = refl

pub a_value_too_long : command_of small_shape (codes "put a abcdefghabcdefghabcdefghabcdefghi") ≡ None
a_value_too_long = refl

pub a_longer_key_in_the_wide_shape : command_of stamped_shape (codes "get abcdefghabcdefghabcdefghi") ≡ Some (Get (codes "abcdefghabcdefghabcdefghi"))
a_longer_key_in_the_wide_shape = refl

pub a_get_with_a_space : command_of small_shape (codes "get a ") ≡ None
a_get_with_a_space = refl

pub a_verb_in_capitals : command_of small_shape (codes "GET a") ≡ None
a_verb_in_capitals = refl

pub a_byte_of_zero : command_of small_shape (codes "get a" ++ 0 ∷ []) ≡ None
a_byte_of_zero = refl

pub a_range : command_of small_shape (codes "range b a") ≡ Some (Range (codes "b") (codes "a"))
a_range = refl

pub a_scan : command_of small_shape (codes "scan a 0") ≡ Some (Scan (codes "a") 0)
a_scan = refl

pub a_scan_with_zeros : command_of small_shape (codes "scan a 0000000012") ≡ Some (Scan (codes "a") 12)
a_scan_with_zeros = refl

pub a_scan_of_too_many_digits : command_of small_shape (codes "scan a 00000000012") ≡ None
a_scan_of_too_many_digits = refl

pub a_scan_with_a_sign : command_of small_shape (codes "scan a +5") ≡ None
a_scan_with_a_sign = refl

pub a_scan_of_nothing : command_of small_shape (codes "scan a ") ≡ None
a_scan_of_nothing = refl

pub words_alone : command_of small_shape (codes "count") ≡ Some Count
words_alone = refl

pub a_close : command_of small_shape (codes "close") ≡ Some Close
a_close = refl

pub a_close_with_more : command_of small_shape (codes "close now") ≡ None
a_close_with_more = refl

pub no_stamp : command_of small_shape (codes "stamp a") ≡ None
no_stamp = refl

pub no_put_if : command_of small_shape (codes "putif a 0 v") ≡ None
no_put_if = refl

pub a_stamp : command_of stamped_shape (codes "stamp a") ≡ Some (Stamp (codes "a"))
a_stamp = refl

pub a_put_if : command_of stamped_shape (codes "putif a 1 w") ≡ Some (PutIf (codes "a") 1 (codes "w"))
a_put_if = refl

pub a_put_if_of_most_digits : command_of stamped_shape (codes "putif a 9999999999999999999 w") ≡ Some (PutIf (codes "a") 9999999999999999999 (codes "w"))
a_put_if_of_most_digits = refl

pub a_put_if_of_more_digits : command_of stamped_shape (codes "putif a 00000000000000000001 w") ≡ None
a_put_if_of_more_digits = refl

pub what_lines_ask : requests small_shape (codes "count" ∷ [] ∷ (13 ∷ []) ∷ codes "who" ∷ (97 ∷ limit_bytes) ∷ codes "open" ∷ []) ≡ Some Count ∷ None ∷ None ∷ Some Reopen ∷ []
what_lines_ask = refl

-- Replies

pub text_of_new : reply_text false 7 (reply.Put New) ≡ codes "new" ++ 10 ∷ []
unfolding digits
text_of_new = refl

pub text_of_new_with_cost : reply_text true 120 (reply.Put New) ≡ codes "new # 120" ++ 10 ∷ []
unfolding digits
text_of_new_with_cost = refl

pub text_of_old : reply_text true 0 (reply.Put (Old (codes "v"))) ≡ codes "old v # 0" ++ 10 ∷ []
unfolding digits
text_of_old = refl

pub text_of_old_nothing : reply_text false 0 (reply.Put (Old [])) ≡ codes "old " ++ 10 ∷ []
unfolding digits
text_of_old_nothing = refl

pub text_of_full : reply_text true 5 (reply.Put Full) ≡ codes "full" ++ 10 ∷ []
unfolding digits
text_of_full = refl

pub text_of_worn : reply_text true 5 (reply.Put Worn) ≡ codes "worn" ++ 10 ∷ []
unfolding digits
text_of_worn = refl

pub text_of_other : reply_text true 5 (reply.Put (Other 3)) ≡ codes "other 3 # 5" ++ 10 ∷ []
unfolding digits
text_of_other = refl

pub text_of_gone : reply_text false 0 (reply.Deleted (Some (codes "24"))) ≡ codes "gone 24" ++ 10 ∷ []
unfolding digits
text_of_gone = refl

pub text_of_none : reply_text true 9 (reply.Got None) ≡ codes "none # 9" ++ 10 ∷ []
unfolding digits
text_of_none = refl

pub text_of_a_value : reply_text false 0 (reply.Got (Some [])) ≡ codes "val " ++ 10 ∷ []
unfolding digits
text_of_a_value = refl

pub text_of_a_stamp : reply_text false 0 (reply.Stamped (Some 4)) ≡ codes "at 4" ++ 10 ∷ []
unfolding digits
text_of_a_stamp = refl

pub text_of_rows : reply_text true 3 (reply.Rows ((codes "a", codes "1") ∷ (codes "b", []) ∷ [])) ≡ codes "row a 1" ++ 10 ∷ codes "row b " ++ 10 ∷ codes "end 2" ++ 10 ∷ []
unfolding digits
text_of_rows = refl

pub text_of_no_rows : reply_text true 3 (reply.Rows []) ≡ codes "end 0" ++ 10 ∷ []
unfolding digits
text_of_no_rows = refl

pub text_of_cut_rows : reply_text true 3 (reply.Cut ((codes "a", codes "1") ∷ []) (reply.Damaged 87)) ≡ codes "row a 1" ++ 10 ∷ codes "damaged 87" ++ 10 ∷ []
unfolding digits
text_of_cut_rows = refl

pub text_of_a_count : reply_text true 3 (reply.Counted 31) ≡ codes "count 31" ++ 10 ∷ []
unfolding digits
text_of_a_count = refl

pub text_of_overfull : reply_text true 3 (reply.Failed (reply.Overfull 0)) ≡ codes "overfull 0" ++ 10 ∷ []
unfolding digits
text_of_overfull = refl

pub text_of_opened : reply_text true 3 (reply.Opened 2) ≡ codes "open 2" ++ 10 ∷ []
unfolding digits
text_of_opened = refl

pub text_of_a_value_with_spaces : reply_text true 12 (reply.Got (Some (codes "a # 1"))) ≡ codes "val a # 1 # 12" ++ 10 ∷ []
unfolding digits
text_of_a_value_with_spaces = refl

pub text_of_gone_with_cost : reply_text true 40 (reply.Deleted (Some (codes "24"))) ≡ codes "gone 24 # 40" ++ 10 ∷ []
unfolding digits
text_of_gone_with_cost = refl

pub text_of_not_gone : reply_text false 9 (reply.Deleted None) ≡ codes "none" ++ 10 ∷ []
unfolding digits
text_of_not_gone = refl

pub text_of_no_stamp : reply_text true 8 (reply.Stamped None) ≡ codes "none # 8" ++ 10 ∷ []
unfolding digits
text_of_no_stamp = refl

pub text_of_fault : reply_text true 3 (reply.Failed reply.Fault) ≡ codes "fault" ++ 10 ∷ []
text_of_fault = refl

pub text_of_damaged : reply_text true 3 (reply.Failed (reply.Damaged 87)) ≡ codes "damaged 87" ++ 10 ∷ []
unfolding digits
text_of_damaged = refl

pub text_of_closed : reply_text true 3 reply.Closed ≡ codes "closed" ++ 10 ∷ []
text_of_closed = refl

pub text_of_no_store : reply_text true 3 (reply.Refused reply.NotStore) ≡ codes "notstore" ++ 10 ∷ []
text_of_no_store = refl

pub text_of_not_closed : reply_text true 3 (reply.Refused reply.NotClosed) ≡ codes "notclosed" ++ 10 ∷ []
text_of_not_closed = refl

pub text_of_small : reply_text true 3 (reply.Refused reply.Small) ≡ codes "small" ++ 10 ∷ []
text_of_small = refl

pub text_of_memory : reply_text true 3 (reply.Refused reply.Memory) ≡ codes "memory" ++ 10 ∷ []
text_of_memory = refl

pub text_of_already : reply_text true 3 reply.Already ≡ codes "already" ++ 10 ∷ []
text_of_already = refl

pub text_of_shut : reply_text true 3 reply.Shut ≡ codes "shut" ++ 10 ∷ []
text_of_shut = refl

pub text_of_bad : reply_text true 3 reply.Bad ≡ codes "bad" ++ 10 ∷ []
text_of_bad = refl

-- what two texts do not tell apart
pub none_is_one_text : (told (reply.Deleted None) ≡ told (reply.Got None)) × (told (reply.Stamped None) ≡ told (reply.Got None))
none_is_one_text = (refl, refl)

pub cut_before_the_first_row : told (reply.Cut [] reply.Fault) ≡ reply.Failed reply.Fault
cut_before_the_first_row = refl

-- Texts that ask commands

pub text_of_a_put : command_text (Put (codes "a") (codes "1")) ≡ codes "put a 1"
text_of_a_put = refl

pub text_of_a_put_if : command_text (PutIf (codes "a") 12 (codes "w")) ≡ codes "putif a 12 w"
unfolding digits
text_of_a_put_if = refl

pub text_of_a_scan : command_text (Scan (codes "a") 0) ≡ codes "scan a 0"
unfolding digits
text_of_a_scan = refl

pub lines_of_two_commands : command_lines (Get (codes "a") ∷ Count ∷ []) ≡ codes "get a" ++ 13 ∷ 10 ∷ codes "count" ++ 13 ∷ 10 ∷ []
lines_of_two_commands = refl

abbrev seventy_two_bytes : List ℕ
seventy_two_bytes = forty_bytes ++ eight_bytes ++ eight_bytes ++ eight_bytes ++ eight_bytes

pub longest_command : length (command_text (PutIf forty_bytes 9999999999999999999 seventy_two_bytes)) ≡ 139
unfolding digits
longest_command = refl

-- Bounds

pub levels_at_1 : levels_of 1 ≡ 4
levels_at_1 = refl

pub levels_at_32 : levels_of 32 ≡ 4
levels_at_32 = refl

pub levels_at_33 : levels_of 33 ≡ 5
levels_at_33 = refl

pub levels_at_512 : levels_of 512 ≡ 8
levels_at_512 = refl

pub levels_at_1000 : levels_of 1000 ≡ 9
levels_at_1000 = refl

pub levels_at_65536 : levels_of 65536 ≡ 15
levels_at_65536 = refl

pub put_bound_at_33 : put_bound (levels_of 33) ≡ 200
put_bound_at_33 = refl

pub get_bound_at_33 : get_bound (levels_of 33) ≡ 40
get_bound_at_33 = refl

pub put_bound_at_1000 : put_bound (levels_of 1000) ≡ 360
put_bound_at_1000 = refl

pub get_bound_at_1000 : get_bound (levels_of 1000) ≡ 72
get_bound_at_1000 = refl

pub put_bound_at_65536 : put_bound (levels_of 65536) ≡ 600
put_bound_at_65536 = refl

pub get_bound_at_65536 : get_bound (levels_of 65536) ≡ 120
get_bound_at_65536 = refl

-- each kind of command in a store of 1,000 keys, which has nine levels
pub bounds_of_mutations : map (λ command. command_bound 9 command) (Put (codes "a") (codes "1") ∷ PutIf (codes "a") 0 (codes "1") ∷ Del (codes "a") ∷ []) ≡ 360 ∷ 360 ∷ 360 ∷ []
bounds_of_mutations = refl

pub bounds_of_look_ups : map (λ command. command_bound 9 command) (Get (codes "a") ∷ Stamp (codes "a") ∷ []) ≡ 72 ∷ 72 ∷ []
bounds_of_look_ups = refl

pub bounds_of_rows : map (λ command. command_bound 9 command) (Range (codes "a") (codes "b") ∷ Scan (codes "a") 1 ∷ []) ≡ 2129 ∷ 2129 ∷ []
bounds_of_rows = refl

pub bounds_of_others : map (request_bound 9) (Some Count ∷ Some Close ∷ Some Reopen ∷ None ∷ []) ≡ 0 ∷ 0 ∷ 0 ∷ 0 ∷ []
bounds_of_others = refl

pub bound_of_some_requests : requests_bound 9 (Some (Put (codes "a") (codes "1")) ∷ None ∷ Some (Get (codes "a")) ∷ Some Count ∷ []) ≡ 432
bound_of_some_requests = refl

pub range_bound_at_32 : range_bound (levels_of 32) ≡ 100
range_bound_at_32 = refl
