-- The modes that the words of the command line name. A word is the list of its bytes.
use Rattle.std.specs.Prelude.{ℕ, ◌≤◌, nat_le, ◌&&◌, Bool, not, if◌then◌else◌, List, [], ◌∷◌, Option, Some, None, bytes_eq, codes, ⊤}
use Rattle.std.specs.Option.{option_map, option_and_then, is_some, unwrap_or}
use Rattle.cola_words.specs.declared.options.Options.{Options}
use Rattle.cola_words.specs.declared.options.NewFile.{NewFile}
use Rattle.cola_words.specs.declared.mode.Mode.{Mode}
use Rattle.cola_words.specs.declared.mode.Mode.TheVariants.{Mem, Create, Run, Gen, Upgrade, Check, Load, Grow, Rebuild}
use Rattle.cola_words.specs.declared.mode.Opening.{Opening}
use Rattle.cola_words.specs.declared.mode.Opening.TheVariants.{Existing, Made}
use Rattle.cola_words.specs.Options.{is_path, number_in, options_in}
use Rattle.cola_words.specs.Sizes.{SuitStore, new_file_of}

-- the words behind one that names a file
abbrev pub behind_path : List (List ℕ) → Option (List (List ℕ))
behind_path [] = None
behind_path (path ∷ words) = if is_path path then Some words else None

-- a mode with no more words
abbrev pub ended : Mode → List (List ℕ) → Option Mode
ended mode [] = Some mode
ended mode (word ∷ words) = None

-- a table in memory is for 1 to 65536 keys
abbrev pub mem_for : ℕ → Option Mode
mem_for keys = if nat_le 1 keys && nat_le keys 65536 then Some (Mem keys) else None

-- `mem N`
abbrev pub mem_of : List (List ℕ) → Option Mode
mem_of (number ∷ []) = option_and_then mem_for (number_in number)
mem_of _ = None

abbrev pub create_for : NewFile → Mode
create_for file = Create file.keys file.block_exp file.format

abbrev pub load_for : NewFile → Mode
load_for file = Load file.keys file.block_exp file.format

abbrev pub grow_for : NewFile → Mode
grow_for file = Grow file.keys file.block_exp

abbrev pub gen_for : NewFile → Mode
gen_for file = Gen file.keys

-- `gen` has neither a block nor a version to choose
abbrev pub gen_with : Options → Option Mode
gen_with o = if is_some o.block then None else if is_some o.version then None else option_map gen_for (new_file_of o)

-- `grow` has no version to choose: a copy is in the format of its file
abbrev pub grow_with : Options → Option Mode
grow_with o = if is_some o.version then None else option_map grow_for (new_file_of o)

-- the options are none of a new file's
abbrev pub are_of_session : Options → Bool
are_of_session o = not (is_some o.keys) && not (is_some o.block) && not (is_some o.version)

-- a cache has up to 4096 blocks
abbrev pub run_for : ℕ → Options → Option Mode
run_for cache o = if nat_le cache 4096 then Some (Run cache o.cost o.mirror) else None

-- a session has no cache, prints no costs and has one file, where the options say nothing else
abbrev pub run_with : Options → Option Mode
run_with o = if are_of_session o then run_for (unwrap_or o.cache 0) o else None

-- what stands behind the first word of each mode

abbrev pub create_of : List (List ℕ) → Option Mode
create_of words = option_and_then (λ rest. option_map create_for (option_and_then new_file_of (options_in 2 rest))) (behind_path words)

abbrev pub load_of : List (List ℕ) → Option Mode
load_of words = option_and_then (λ rest. option_map load_for (option_and_then new_file_of (options_in 2 rest))) (behind_path words)

abbrev pub run_of : List (List ℕ) → Option Mode
run_of words = option_and_then (λ rest. option_and_then run_with (options_in 2 rest)) (behind_path words)

abbrev pub gen_of : List (List ℕ) → Option Mode
gen_of words = option_and_then (λ rest. option_and_then gen_with (options_in 2 rest)) (behind_path words)

abbrev pub check_of : List (List ℕ) → Option Mode
check_of words = option_and_then (ended Check) (behind_path words)

-- two files, and no more words
abbrev pub two_files : Mode → List (List ℕ) → Option Mode
two_files mode words = option_and_then (λ rest. option_and_then (ended mode) (behind_path rest)) (behind_path words)

abbrev pub grow_of : List (List ℕ) → Option Mode
grow_of words = option_and_then (λ rest. option_and_then (λ more. option_and_then grow_with (options_in 3 more)) (behind_path rest)) (behind_path words)

-- the mode of a first word and the words behind it
abbrev pub named : List ℕ → List (List ℕ) → Option Mode
named first words =
    if bytes_eq first (codes "mem") then mem_of words
    else if bytes_eq first (codes "create") then create_of words
    else if bytes_eq first (codes "run") then run_of words
    else if bytes_eq first (codes "gen") then gen_of words
    else if bytes_eq first (codes "upgrade") then two_files Upgrade words
    else if bytes_eq first (codes "check") then check_of words
    else if bytes_eq first (codes "load") then load_of words
    else if bytes_eq first (codes "grow") then grow_of words
    else if bytes_eq first (codes "rebuild") then two_files Rebuild words
    else None

-- the mode of all words, and none where they name no mode
abbrev pub mode_of : List (List ℕ) → Option Mode
mode_of [] = None
mode_of (first ∷ words) = named first words

-- where a mode makes a file, there is a store of its sizes; a cache has up to 4096 blocks
abbrev pub HasSizes : Mode → Type 0
HasSizes (Create keys block_exp format) = SuitStore keys block_exp
HasSizes (Load keys block_exp format) = SuitStore keys block_exp
HasSizes (Grow keys block_exp) = SuitStore keys block_exp
HasSizes (Gen keys) = SuitStore keys 5
HasSizes (Mem keys) = ⊤
HasSizes (Run cache cost mirror) = cache ≤ 4096
HasSizes Upgrade = ⊤
HasSizes Check = ⊤
HasSizes Rebuild = ⊤

-- how a mode opens its first file, which the second word names: one that is there, or one that is made where it is not
abbrev pub first_opening : Mode → Option Opening
first_opening (Mem keys) = None
first_opening (Create keys block_exp format) = Some (Made 1)
first_opening (Run cache cost mirror) = Some (Existing 1)
first_opening (Gen keys) = Some (Made 1)
first_opening Upgrade = Some (Existing 1)
first_opening Check = Some (Existing 1)
first_opening (Load keys block_exp format) = Some (Made 1)
first_opening (Grow keys block_exp) = Some (Existing 1)
first_opening Rebuild = Some (Existing 1)

-- and its second one: the mirror's other, or the file that is written, which the third word names
abbrev pub second_opening : Mode → Option Opening
second_opening (Mem keys) = None
second_opening (Create keys block_exp format) = None
second_opening (Run cache cost mirror) = option_map Existing mirror
second_opening (Gen keys) = None
second_opening Upgrade = Some (Made 2)
second_opening Check = None
second_opening (Load keys block_exp format) = None
second_opening (Grow keys block_exp) = Some (Made 2)
second_opening Rebuild = Some (Made 2)

-- the files of all words: none where they name no mode
abbrev pub files_of : List (List ℕ) → Option Opening × Option Opening
files_of words = (option_and_then first_opening (mode_of words), option_and_then second_opening (mode_of words))
