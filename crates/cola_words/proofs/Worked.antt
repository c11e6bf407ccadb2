-- Worked words, by computing.
use Rattle.std.proofs.Common.{◌≡◌, true, false, [], ◌∷◌, Some, None, refl, codes}
use Rattle.cola_cell.specs.declared.format.Format.TheVariants.{One, Two}
use Rattle.cola_words.specs.declared.mode.Mode.TheVariants.{Mem, Create, Run, Gen, Upgrade, Check, Load, Grow, Rebuild}
use Rattle.cola_words.specs.declared.mode.Opening.TheVariants.{Existing, Made}
use Rattle.cola_words.specs.Modes.{mode_of, files_of}

mem_least : mode_of (codes "mem" ∷ codes "1" ∷ []) ≡ Some (Mem 1)
mem_least = refl

mem_most : mode_of (codes "mem" ∷ codes "65536" ∷ []) ≡ Some (Mem 65536)
mem_most = refl

mem_none : mode_of (codes "mem" ∷ codes "0" ∷ []) ≡ None
mem_none = refl

mem_too_many : mode_of (codes "mem" ∷ codes "65537" ∷ []) ≡ None
mem_too_many = refl

mem_alone : mode_of (codes "mem" ∷ []) ≡ None
mem_alone = refl

mem_and_more : mode_of (codes "mem" ∷ codes "4" ∷ codes "5" ∷ []) ≡ None
mem_and_more = refl

create_plain : mode_of (codes "create" ∷ codes "F" ∷ codes "--keys" ∷ codes "32" ∷ []) ≡ Some (Create 32 5 One)
create_plain = refl

create_all : mode_of (codes "create" ∷ codes "F" ∷ codes "--version" ∷ codes "2" ∷ codes "--block" ∷ codes "6" ∷ codes "--keys" ∷ codes "33" ∷ []) ≡ Some (Create 33 6 Two)
create_all = refl

create_most : mode_of (codes "create" ∷ codes "F" ∷ codes "--keys" ∷ codes "16777216" ∷ codes "--block" ∷ codes "9" ∷ []) ≡ Some (Create 16777216 9 One)
create_most = refl

create_no_keys : mode_of (codes "create" ∷ codes "F" ∷ codes "--keys" ∷ codes "0" ∷ []) ≡ None
create_no_keys = refl

create_too_many : mode_of (codes "create" ∷ codes "F" ∷ codes "--keys" ∷ codes "16777217" ∷ []) ≡ None
create_too_many = refl

create_block_too_large : mode_of (codes "create" ∷ codes "F" ∷ codes "--keys" ∷ codes "32" ∷ codes "--block" ∷ codes "6" ∷ []) ≡ None
create_block_too_large = refl

create_block_2 : mode_of (codes "create" ∷ codes "F" ∷ codes "--keys" ∷ codes "32" ∷ codes "--block" ∷ codes "2" ∷ []) ≡ None
create_block_2 = refl

create_block_10 : mode_of (codes "create" ∷ codes "F" ∷ codes "--keys" ∷ codes "16777216" ∷ codes "--block" ∷ codes "10" ∷ []) ≡ None
create_block_10 = refl

create_version_3 : mode_of (codes "create" ∷ codes "F" ∷ codes "--keys" ∷ codes "32" ∷ codes "--version" ∷ codes "3" ∷ []) ≡ None
create_version_3 = refl

create_joined : mode_of (codes "create" ∷ codes "F" ∷ codes "--keys=32" ∷ []) ≡ None
create_joined = refl

create_twice : mode_of (codes "create" ∷ codes "F" ∷ codes "--keys" ∷ codes "32" ∷ codes "--keys" ∷ codes "32" ∷ []) ≡ None
create_twice = refl

create_bare : mode_of (codes "create" ∷ codes "F" ∷ []) ≡ None
create_bare = refl

create_no_value : mode_of (codes "create" ∷ codes "F" ∷ codes "--keys" ∷ []) ≡ None
create_no_value = refl

create_plus : mode_of (codes "create" ∷ codes "F" ∷ codes "--keys" ∷ codes "+5" ∷ []) ≡ None
create_plus = refl

create_long_number : mode_of (codes "create" ∷ codes "F" ∷ codes "--keys" ∷ codes "00000000005" ∷ []) ≡ None
create_long_number = refl

create_zeros : mode_of (codes "create" ∷ codes "F" ∷ codes "--keys" ∷ codes "0000000005" ∷ []) ≡ Some (Create 5 5 One)
create_zeros = refl

create_cache : mode_of (codes "create" ∷ codes "F" ∷ codes "--keys" ∷ codes "32" ∷ codes "--cache" ∷ codes "1" ∷ []) ≡ None
create_cache = refl

create_dash : mode_of (codes "create" ∷ codes "-F" ∷ codes "--keys" ∷ codes "32" ∷ []) ≡ None
create_dash = refl

create_empty_file : mode_of (codes "create" ∷ codes "" ∷ codes "--keys" ∷ codes "32" ∷ []) ≡ None
create_empty_file = refl

create_empty_word : mode_of (codes "create" ∷ codes "F" ∷ codes "--keys" ∷ codes "32" ∷ codes "" ∷ []) ≡ None
create_empty_word = refl

create_file_last : mode_of (codes "create" ∷ codes "--keys" ∷ codes "32" ∷ codes "F" ∷ []) ≡ None
create_file_last = refl

run_plain : mode_of (codes "run" ∷ codes "F" ∷ []) ≡ Some (Run 0 false None)
run_plain = refl

run_all : mode_of (codes "run" ∷ codes "F" ∷ codes "--mirror" ∷ codes "G" ∷ codes "--cost" ∷ codes "--cache" ∷ codes "4096" ∷ []) ≡ Some (Run 4096 true (Some 3))
run_all = refl

run_mirror_4 : mode_of (codes "run" ∷ codes "F" ∷ codes "--cost" ∷ codes "--mirror" ∷ codes "G" ∷ []) ≡ Some (Run 0 true (Some 4))
run_mirror_4 = refl

run_mirror_5 : mode_of (codes "run" ∷ codes "F" ∷ codes "--cache" ∷ codes "7" ∷ codes "--mirror" ∷ codes "G" ∷ []) ≡ Some (Run 7 false (Some 5))
run_mirror_5 = refl

run_mirror_6 : mode_of (codes "run" ∷ codes "F" ∷ codes "--cache" ∷ codes "7" ∷ codes "--cost" ∷ codes "--mirror" ∷ codes "G" ∷ []) ≡ Some (Run 7 true (Some 6))
run_mirror_6 = refl

run_cache_large : mode_of (codes "run" ∷ codes "F" ∷ codes "--cache" ∷ codes "4097" ∷ []) ≡ None
run_cache_large = refl

run_cost_twice : mode_of (codes "run" ∷ codes "F" ∷ codes "--cost" ∷ codes "--cost" ∷ []) ≡ None
run_cost_twice = refl

run_cost_value : mode_of (codes "run" ∷ codes "F" ∷ codes "--cost=1" ∷ []) ≡ None
run_cost_value = refl

run_dashes : mode_of (codes "run" ∷ codes "F" ∷ codes "--" ∷ codes "--cost" ∷ []) ≡ None
run_dashes = refl

run_short : mode_of (codes "run" ∷ codes "F" ∷ codes "--cos" ∷ []) ≡ None
run_short = refl

run_mirror_option : mode_of (codes "run" ∷ codes "F" ∷ codes "--mirror" ∷ codes "--cost" ∷ []) ≡ None
run_mirror_option = refl

run_mirror_empty : mode_of (codes "run" ∷ codes "F" ∷ codes "--mirror" ∷ codes "" ∷ []) ≡ None
run_mirror_empty = refl

run_keys : mode_of (codes "run" ∷ codes "F" ∷ codes "--keys" ∷ codes "1" ∷ []) ≡ None
run_keys = refl

gen_plain : mode_of (codes "gen" ∷ codes "F" ∷ codes "--keys" ∷ codes "0000000008" ∷ []) ≡ Some (Gen 8)
gen_plain = refl

gen_bare : mode_of (codes "gen" ∷ codes "F" ∷ []) ≡ None
gen_bare = refl

gen_long_number : mode_of (codes "gen" ∷ codes "F" ∷ codes "--keys" ∷ codes "00000000005" ∷ []) ≡ None
gen_long_number = refl

gen_block : mode_of (codes "gen" ∷ codes "F" ∷ codes "--keys" ∷ codes "8" ∷ codes "--block" ∷ codes "5" ∷ []) ≡ None
gen_block = refl

gen_version : mode_of (codes "gen" ∷ codes "F" ∷ codes "--keys" ∷ codes "8" ∷ codes "--version" ∷ codes "1" ∷ []) ≡ None
gen_version = refl

upgrade_plain : mode_of (codes "upgrade" ∷ codes "F" ∷ codes "G" ∷ []) ≡ Some Upgrade
upgrade_plain = refl

upgrade_one : mode_of (codes "upgrade" ∷ codes "F" ∷ []) ≡ None
upgrade_one = refl

upgrade_more : mode_of (codes "upgrade" ∷ codes "F" ∷ codes "G" ∷ codes "H" ∷ []) ≡ None
upgrade_more = refl

upgrade_dash : mode_of (codes "upgrade" ∷ codes "F" ∷ codes "-G" ∷ []) ≡ None
upgrade_dash = refl

check_plain : mode_of (codes "check" ∷ codes "F" ∷ []) ≡ Some Check
check_plain = refl

check_more : mode_of (codes "check" ∷ codes "F" ∷ codes "G" ∷ []) ≡ None
check_more = refl

load_all : mode_of (codes "load" ∷ codes "F" ∷ codes "--block" ∷ codes "3" ∷ codes "--keys" ∷ codes "1" ∷ codes "--version" ∷ codes "1" ∷ []) ≡ Some (Load 1 3 One)
load_all = refl

load_plain : mode_of (codes "load" ∷ codes "F" ∷ codes "--keys" ∷ codes "512" ∷ []) ≡ Some (Load 512 5 One)
load_plain = refl

grow_plain : mode_of (codes "grow" ∷ codes "F" ∷ codes "G" ∷ codes "--keys" ∷ codes "16777216" ∷ []) ≡ Some (Grow 16777216 5)
grow_plain = refl

grow_block : mode_of (codes "grow" ∷ codes "F" ∷ codes "G" ∷ codes "--block" ∷ codes "9" ∷ codes "--keys" ∷ codes "257" ∷ []) ≡ Some (Grow 257 9)
grow_block = refl

grow_version : mode_of (codes "grow" ∷ codes "F" ∷ codes "G" ∷ codes "--keys" ∷ codes "5" ∷ codes "--version" ∷ codes "2" ∷ []) ≡ None
grow_version = refl

grow_one : mode_of (codes "grow" ∷ codes "F" ∷ codes "--keys" ∷ codes "5" ∷ []) ≡ None
grow_one = refl

rebuild_plain : mode_of (codes "rebuild" ∷ codes "F" ∷ codes "G" ∷ []) ≡ Some Rebuild
rebuild_plain = refl

rebuild_more : mode_of (codes "rebuild" ∷ codes "F" ∷ codes "G" ∷ codes "--cost" ∷ []) ≡ None
rebuild_more = refl

no_words : mode_of ([]) ≡ None
no_words = refl

first_empty : mode_of (codes "" ∷ []) ≡ None
first_empty = refl

upper_case : mode_of (codes "Run" ∷ codes "F" ∷ []) ≡ None
upper_case = refl

abbreviated : mode_of (codes "ru" ∷ codes "F" ∷ []) ≡ None
abbreviated = refl

no_mode : mode_of (codes "serve" ∷ codes "F" ∷ []) ≡ None
no_mode = refl

mem_files : files_of (codes "mem" ∷ codes "4" ∷ []) ≡ (None, None)
mem_files = refl

create_files : files_of (codes "create" ∷ codes "F" ∷ codes "--keys" ∷ codes "32" ∷ []) ≡ (Some (Made 1), None)
create_files = refl

run_files : files_of (codes "run" ∷ codes "F" ∷ []) ≡ (Some (Existing 1), None)
run_files = refl

mirror_files : files_of (codes "run" ∷ codes "F" ∷ codes "--cost" ∷ codes "--mirror" ∷ codes "G" ∷ []) ≡ (Some (Existing 1), Some (Existing 4))
mirror_files = refl

gen_files : files_of (codes "gen" ∷ codes "F" ∷ codes "--keys" ∷ codes "8" ∷ []) ≡ (Some (Made 1), None)
gen_files = refl

upgrade_files : files_of (codes "upgrade" ∷ codes "F" ∷ codes "G" ∷ []) ≡ (Some (Existing 1), Some (Made 2))
upgrade_files = refl

check_files : files_of (codes "check" ∷ codes "F" ∷ []) ≡ (Some (Existing 1), None)
check_files = refl

load_files : files_of (codes "load" ∷ codes "F" ∷ codes "--keys" ∷ codes "512" ∷ []) ≡ (Some (Made 1), None)
load_files = refl

grow_files : files_of (codes "grow" ∷ codes "F" ∷ codes "G" ∷ codes "--keys" ∷ codes "512" ∷ []) ≡ (Some (Existing 1), Some (Made 2))
grow_files = refl

rebuild_files : files_of (codes "rebuild" ∷ codes "F" ∷ codes "G" ∷ []) ≡ (Some (Existing 1), Some (Made 2))
rebuild_files = refl

no_files : files_of (codes "create" ∷ codes "F" ∷ []) ≡ (None, None)
no_files = refl
