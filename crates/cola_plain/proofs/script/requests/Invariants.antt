use Rattle.std.proofs.Common.{◌≡◌, map, take}
use Rattle.cola_spec.specs.Command.{requests}
use Rattle.cola_plain.specs.Command.{request_with, shape_of}
use Rattle.cola_plain.specs.Lines.{texts}
use Rattle.cola_plain.proofs.script.requests.Given as goal

abbrev pub invariant-loop-raw : goal.invariant-loop-raw
invariant-loop-raw l = map request_with l.all.items ≡ requests (shape_of l.shape) (texts (take l.raw-index l.raw-items))
