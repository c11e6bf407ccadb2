-- What a refused read or push is called in the step that asked for it.
use Rattle.cola_cell.specs.declared.fault.ReadFault.{ReadFault}
use Rattle.cola_cell.specs.declared.fault.ReadFault.TheVariants as read
use Rattle.cola_cell.specs.declared.fault.PushFault.{PushFault}
use Rattle.cola_cell.specs.declared.fault.PushFault.TheVariants as push
use Rattle.cola_cell.specs.declared.fault.StepFault.{StepFault}
use Rattle.cola_cell.specs.declared.fault.StepFault.TheVariants.{Device, BadCell, Overfull}

-- a step's refusal by a read has the read's cause
abbrev pub step_of_read : ReadFault → StepFault
step_of_read read.Device = Device
step_of_read (read.BadCell cell) = BadCell cell

-- a step's refusal by a push has the push's cause
abbrev pub step_of_push : PushFault → StepFault
step_of_push push.Device = Device
step_of_push (push.Overfull level) = Overfull level
