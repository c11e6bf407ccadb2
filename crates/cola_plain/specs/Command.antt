-- What the shapes and commands of this crate stand for.
use Rattle.std.specs.Prelude.{Option, option_map}
use Rattle.cola_plain.specs.declared.command.Command.{Command}
use Rattle.cola_plain.specs.declared.command.Command.TheVariants.{Put, PutIf, Del, Get, Stamp, Range, Scan, Count, Close, Reopen}
use Rattle.cola_plain.specs.declared.shape.Shape.{Shape}
use Rattle.cola_spec.specs.Command as spec
use Rattle.cola_spec.specs.Map as spec_map

-- the shape with the same limits
abbrev pub shape_of : Shape → spec_map.Shape
shape_of shape = record { limit = shape.limit; key_limit = shape.key_limit; value_limit = shape.value_limit; stamped = shape.stamped }

-- the command on the bytes behind the references
abbrev pub command_with : Command → spec.Command
command_with (Put key value) = spec.Put key.now value.now
command_with (PutIf key seen value) = spec.PutIf key.now seen value.now
command_with (Del key) = spec.Del key.now
command_with (Get key) = spec.Get key.now
command_with (Stamp key) = spec.Stamp key.now
command_with (Range low high) = spec.Range low.now high.now
command_with (Scan low most) = spec.Scan low.now most
command_with Count = spec.Count
command_with Close = spec.Close
command_with Reopen = spec.Reopen

-- what a line asks, if it is a command
abbrev pub request_with : Option Command → Option spec.Command
request_with request = option_map command_with request
