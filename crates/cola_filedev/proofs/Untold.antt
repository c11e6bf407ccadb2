-- What a device that tells no bytes owes of them, which is nothing.
use Rattle.std.proofs.Common.{ℕ, Result, Ok, Err}
use Rattle.std.specs.Prelude.{IfOk, OnOk, None, ⊤}
use Rattle.cola_device.specs.Bytes.{HasSize}

pub value_untold : {E : Type 0} (result : Result ℕ E) → IfOk result (HasSize None)
value_untold (Ok size) = tt
value_untold (Err fault) = tt

pub given_untold : {T E : Type 0} (result : Result T E) → OnOk result ⊤
given_untold (Ok value) = tt
given_untold (Err fault) = tt
