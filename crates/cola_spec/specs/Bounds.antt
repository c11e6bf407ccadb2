-- The bounds on cell accesses.
use Rattle.std.specs.Prelude.{ℕ, ◌+◌, ◌-◌, ◌*◌, ◌^◌, max, Option, Some, None, length}
use Rattle.std.specs.Int.Digits.{digits_of}
use Rattle.cola_spec.specs.Command.{Command, Put, PutIf, Del, Get, Stamp, Range, Scan, Count, Close, Reopen}

-- the least power of two that is not below a number of 1 and more: as many binary digits as the number before it has
abbrev pub ceiling_log : ℕ → ℕ
ceiling_log number = length (digits_of 2 (number - 1))

-- the levels of a store for so many keys
abbrev pub levels_of : ℕ → ℕ
levels_of keys = max 3 (ceiling_log keys - 2) + 1

-- the most cell accesses of a put, a put that depends on a stamp, or a delete
abbrev pub put_bound : ℕ → ℕ
put_bound levels = 40 * levels

-- of a get or a stamp
abbrev pub get_bound : ℕ → ℕ
get_bound levels = 8 * levels

-- of a whole range, from its beginning to its end
abbrev pub range_bound : ℕ → ℕ
range_bound levels = 9 * levels + 2 ^ (levels + 2)

-- the most cell accesses of a command, in a store of so many levels
abbrev pub command_bound : ℕ → Command → ℕ
command_bound levels (Put key value) = put_bound levels
command_bound levels (PutIf key seen value) = put_bound levels
command_bound levels (Del key) = put_bound levels
command_bound levels (Get key) = get_bound levels
command_bound levels (Stamp key) = get_bound levels
command_bound levels (Range low high) = range_bound levels
command_bound levels (Scan low most) = range_bound levels
command_bound levels Count = 0
command_bound levels Close = 0
command_bound levels Reopen = 0

-- of a request, which may be no command
abbrev pub request_bound : ℕ → Option Command → ℕ
request_bound levels None = 0
request_bound levels (Some command) = command_bound levels command
