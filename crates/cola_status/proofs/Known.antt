-- Numbers that are those of a status.
use Rattle.std.proofs.Common.{◌≡◌, ℕ}
use Rattle.cola_status.specs.declared.status.Status.{Status}
use Rattle.cola_status.specs.Statuses.{IsStatus, number_of}

pub one : (s : Status) (n : ℕ) → n ≡ number_of s → IsStatus n
one s n is = record { which = s; is = is }
