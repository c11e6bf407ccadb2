use Rattle.std.proofs.Common.{◌≡◌, replicate}
use Rattle.std.specs.Vec.{vec_capacity}
use Rattle.cola_device.proofs.memory.fill_up.Given as goal

abbrev pub invariant-loop-place : goal.invariant-loop-place
invariant-loop-place l = (l.bytes.items ≡ replicate l.place l.byte) × (vec_capacity l.bytes ≡ vec_capacity l.fn.bytes)
