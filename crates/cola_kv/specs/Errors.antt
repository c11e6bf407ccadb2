-- The error of each fault of the store below.
use Rattle.cola_cell.specs.declared.fault.ReadFault.{ReadFault}
use Rattle.cola_cell.specs.declared.fault.ReadFault.TheVariants as read
use Rattle.cola_cell.specs.declared.fault.StepFault.{StepFault}
use Rattle.cola_cell.specs.declared.fault.StepFault.TheVariants as step
use Rattle.cola_store.specs.declared.fault.CreateFault.{CreateFault}
use Rattle.cola_store.specs.declared.fault.CreateFault.TheVariants as create
use Rattle.cola_store.specs.declared.fault.OpenFault.{OpenFault}
use Rattle.cola_store.specs.declared.fault.OpenFault.TheVariants as opening
use Rattle.cola_table.specs.declared.PutFault.{PutFault}
use Rattle.cola_table.specs.declared.PutFault.TheVariants as put
use Rattle.cola_kv.specs.declared.error.Error.{Error}
use Rattle.cola_kv.specs.declared.error.Error.TheVariants as error

-- of a call that reads
abbrev pub of_read : ReadFault → Error
of_read read.Device = error.Device
of_read (read.BadCell cell) = error.BadCell cell

-- of a delete
abbrev pub of_step : StepFault → Error
of_step step.Device = error.Device
of_step (step.BadCell cell) = error.BadCell cell
of_step (step.Overfull level) = error.Overfull level

-- of a put
abbrev pub of_put : PutFault → Error
of_put put.Full = error.Full
of_put put.Worn = error.Worn
of_put put.Device = error.Device
of_put (put.BadCell cell) = error.BadCell cell
of_put (put.Overfull level) = error.Overfull level

-- of the making of a file
abbrev pub of_create : CreateFault → Error
of_create create.Keys = error.Keys
of_create create.Block = error.Block
of_create create.NotEmpty = error.NotEmpty
of_create create.Device = error.Device

-- of an opening
abbrev pub of_open : OpenFault → Error
of_open opening.NotStore = error.NotStore
of_open opening.NotClosed = error.NotClosed
of_open opening.Small = error.Small
of_open opening.Device = error.Device
of_open opening.OutOfMemory = error.OutOfMemory
of_open (opening.BadCell cell) = error.BadCell cell
