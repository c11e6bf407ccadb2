-- Bytes that were lent with their marks.
use Rattle.std.proofs.Common.{◌≡◌, ◌∙◌, ℕ, List, Option, ap}
use denote.RawPtr.{Ptr}
use Rattle.cola_mapped.specs.declared.lent.Lent.{Lent}
use Rattle.cola_mapped.specs.Mapped.{Mapped, unused}
use Rattle.cola_mapped.specs.contracts.device.MappedDeviceDevice.TheImpl as mapped
use Rattle.cola_marks.specs.Marked.{new_marked}
use Rattle.cola_handle.specs.contracts.marks.LentMarksMarks.TheImpl as marks
use Rattle.cola_handle.specs.Open.{LentDevice, lent_with}

pub over-is : (it : LentDevice) (below : Mapped) (at : Ptr) (len : ℕ) (bytes : List ℕ) (lent : Option Lent) → it ≡ new_marked mapped.ghosts marks.ghosts below lent → below ≡ unused at len bytes → it ≡ lent_with at len bytes lent
over-is it below at len bytes lent is new = is ∙ ap (λ (d : Mapped). new_marked mapped.ghosts marks.ghosts d lent) new
