-- The status of a file that was not opened.
use Rattle.std.specs.Prelude.{ℕ}
use Rattle.cola_store.specs.declared.fault.OpenFault.{OpenFault}
use Rattle.cola_store.specs.declared.fault.OpenFault.TheVariants as fault

-- the status of a file that was not opened
abbrev pub refusal_status : OpenFault → ℕ
refusal_status fault.OutOfMemory = 1
refusal_status fault.Device = 5
refusal_status fault.NotStore = 6
refusal_status fault.Small = 6
refusal_status fault.NotClosed = 7
refusal_status (fault.BadCell cell) = 10
