-- The sizes of a new file, as its options say them.
use Rattle.std.specs.Prelude.{ℕ, nat_eq, nat_le, nat_lt, ◌^◌, ◌&&◌, Bool, not, if◌then◌else◌, Option, Some, None}
use Rattle.std.specs.Option.{option_map, option_and_then, is_some, unwrap_or}
use Rattle.cola_cell.specs.declared.format.Format.{Format}
use Rattle.cola_cell.specs.declared.format.Format.TheVariants.{One, Two}
use Rattle.cola_layout.specs.declared.fault.LayoutFault.{LayoutFault}
use Rattle.cola_layout.specs.Geometry.{Refuses}
use Rattle.cola_words.specs.declared.options.Options.{Options}
use Rattle.cola_words.specs.declared.options.NewFile.{NewFile}

-- the largest exponent of a block in a store for so many keys: 9, or fewer where its lowest level is too small
abbrev pub block_limit : ℕ → ℕ
block_limit keys =
    if nat_lt 256 keys then 9
    else if nat_lt 128 keys then 8
    else if nat_lt 64 keys then 7
    else if nat_lt 32 keys then 6
    else 5

-- a file may be for so many keys, with blocks of 2^block cells
abbrev pub are_sizes : ℕ → ℕ → Bool
are_sizes keys block = nat_le 1 keys && nat_le keys (2 ^ 24) && (nat_le 3 block && nat_le block (block_limit keys))

-- there is a store for so many keys with such blocks: nothing speaks against its geometry
abbrev pub SuitStore : ℕ → ℕ → Type 0
SuitStore keys block = (fault : LayoutFault) → Refuses keys block fault → ⊥

-- the exponent of a block in a store for so many keys, where it suits them
abbrev pub block_exp_for : ℕ → ℕ → Option ℕ
block_exp_for keys block = if are_sizes keys block then Some block else None

-- the format of a version, which is 1 or 2
abbrev pub format_of : ℕ → Option Format
format_of version =
    if nat_eq version 1 then Some One
    else if nat_eq version 2 then Some Two
    else None

-- the options are none of a session's
abbrev pub are_of_file : Options → Bool
are_of_file o = not (is_some o.cache) && not o.cost && not (is_some o.mirror)

-- the new file of a number of keys and the options beside it: blocks are of 2^5 cells and the version is 1, where the
-- options say nothing else
abbrev pub file_for : Options → ℕ → Option NewFile
file_for o keys =
    option_and_then (λ block.
    option_map (λ format. record { keys = keys; block_exp = block; format = format }) (format_of (unwrap_or o.version 1)))
    (block_exp_for keys (unwrap_or o.block 5))

-- the new file of options: the number of keys has to be there
abbrev pub new_file_of : Options → Option NewFile
new_file_of o = if are_of_file o then option_and_then (file_for o) o.keys else None
