-- What the calls of a table answer, as replies and turns of a session.
use Rattle.std.specs.Prelude.{ℕ, List, Option, Some, Result, Ok, Err}
use Rattle.cola_cell.specs.declared.fault.ReadFault.{ReadFault}
use Rattle.cola_cell.specs.declared.fault.StepFault.{StepFault}
use Rattle.cola_cell.specs.declared.fault.StepFault.TheVariants as step
use Rattle.cola_cell.specs.Fault.{step_of_read}
use Rattle.cola_spec.specs.Map as map
use Rattle.cola_spec.specs.Command.{Command}
use Rattle.cola_spec.specs.Reply as reply
use Rattle.cola_spec.specs.Machine.{Turn}
use Rattle.cola_table.specs.declared.Put.{Put}
use Rattle.cola_table.specs.declared.PutIf.{PutIf}
use Rattle.cola_table.specs.declared.PutFault.{PutFault}
use Rattle.cola_table.specs.declared.PutFault.TheVariants as fault
use Rattle.cola_table.specs.Answers.{put_answer, put_if_answer}

-- a command with its reply and the cell accesses made for it
abbrev pub turn_of : Command → reply.Reply → ℕ → Turn
turn_of command answer ticks = record { request = Some command; answer = answer; ticks = ticks }

-- Refusals as replies

-- what a refused put is answered
abbrev pub put_refused : PutFault → reply.Reply
put_refused fault.Full = reply.Put map.Full
put_refused fault.Worn = reply.Put map.Worn
put_refused fault.Device = reply.Failed reply.Fault
put_refused (fault.BadCell cell) = reply.Failed (reply.Damaged cell)
put_refused (fault.Overfull level) = reply.Failed (reply.Overfull level)

-- why a delete was refused
abbrev pub step_failure : StepFault → reply.Failure
step_failure step.Device = reply.Fault
step_failure (step.BadCell cell) = reply.Damaged cell
step_failure (step.Overfull level) = reply.Overfull level

-- why a reading was refused
abbrev pub read_failure : ReadFault → reply.Failure
read_failure refusal = step_failure (step_of_read refusal)

-- Refusals of a step or a read within a put

-- a put's refusal by a step has the step's cause
abbrev pub put_of_step : StepFault → PutFault
put_of_step step.Device = fault.Device
put_of_step (step.BadCell cell) = fault.BadCell cell
put_of_step (step.Overfull level) = fault.Overfull level

-- Results as replies: what a call gave beside its number of steps, or why it was refused

abbrev pub put_reply : Result (Put × ℕ) PutFault → reply.Reply
put_reply (Ok answer) = reply.Put (put_answer answer.0)
put_reply (Err refusal) = put_refused refusal

abbrev pub put_if_reply : Result (PutIf × ℕ) PutFault → reply.Reply
put_if_reply (Ok answer) = reply.Put (put_if_answer answer.0)
put_if_reply (Err refusal) = put_refused refusal

abbrev pub delete_reply : Result (Option (List ℕ) × ℕ) StepFault → reply.Reply
delete_reply (Ok answer) = reply.Deleted answer.0
delete_reply (Err refusal) = reply.Failed (step_failure refusal)

abbrev pub get_reply : Result (Option (List ℕ) × ℕ) ReadFault → reply.Reply
get_reply (Ok answer) = reply.Got answer.0
get_reply (Err refusal) = reply.Failed (read_failure refusal)

abbrev pub stamp_reply : Result (Option ℕ × ℕ) ReadFault → reply.Reply
stamp_reply (Ok answer) = reply.Stamped answer.0
stamp_reply (Err refusal) = reply.Failed (read_failure refusal)
