-- How making a file ends where nothing fails.
use Rattle.std.proofs.Common.{◌≡◌, ℕ, ◌<◌, List, length, Option, Some, None, IsSomeAnd, arith}
use Rattle.std.specs.Prelude.{IfSome}
use Rattle.cola_outside.specs.Faults.{Rose}
use Rattle.cola_cell.specs.declared.format.Format.{Format}
use Rattle.cola_device.specs.declared.device.Device as device
use Rattle.cola_command.specs.Serves.{CreateEnds, Status0, Status5, Status8}

-- no bytes and some bytes
none_and_some : (told : Option (List ℕ)) → IsSomeAnd told (λ bytes. length bytes ≡ 0) → IfSome told (λ bytes. 0 < length bytes) → ⊥
none_and_some None none some = none
none_and_some (Some bytes) none some = omega (arith, none, some)

pub file_completes : {D : Type 0} (d : device.Ghosts D) (format : Format) (keys block_exp status : ℕ) (device device' : D) → CreateEnds d format keys block_exp device device' status → IsSomeAnd (d.bytes device) (λ bytes. length bytes ≡ 0) → (Rose (d.counts device).faults (d.counts device').faults → ⊥) → status ≡ 0
file_completes d format keys block_exp status device device' (Status0 is made) none calm = is
file_completes d format keys block_exp status device device' (Status5 is failed) none calm = absurd (calm failed.cause)
file_completes d format keys block_exp status device device' (Status8 is was) none calm = absurd (none_and_some (d.bytes device) none was.some)
