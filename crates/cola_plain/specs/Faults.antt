-- The steps that meet a fault, and those short of memory, as functions of what may be chosen.
use Rattle.std.specs.Prelude.{ℕ, nat_eq, if◌then◌else◌, take, Option, Some, None}
use Rattle.cola_spec.specs.Map.{Map, range, scan}
use Rattle.cola_spec.specs.Command.{Command, Put, PutIf, Del, Get, Stamp, Range, Scan, Count, Close, Reopen}
use Rattle.cola_spec.specs.Reply.{Reply, Fault, Memory, Cut, Failed, Refused}
use Rattle.cola_spec.specs.Machine.{State, Open, Closing, Closed, by_command}

-- what a command of an open store is answered where a fault comes after so many rows, if one can
abbrev pub open_faulted_reply : ℕ → Map → Command → Option Reply
open_faulted_reply rows m (Put key value) = Some (Failed Fault)
open_faulted_reply rows m (PutIf key seen value) = Some (Failed Fault)
open_faulted_reply rows m (Del key) = Some (Failed Fault)
open_faulted_reply rows m (Get key) = Some (Failed Fault)
open_faulted_reply rows m (Stamp key) = Some (Failed Fault)
open_faulted_reply rows m (Range low high) = Some (Cut (take rows (range m low high)) Fault)
open_faulted_reply rows m (Scan low most) = Some (Cut (take rows (scan m low most)) Fault)
open_faulted_reply rows m Count = None
open_faulted_reply rows m Close = Some (Failed Fault)
open_faulted_reply rows m Reopen = None

-- what a command is answered where a fault comes after so many rows, if one can
abbrev pub command_faulted_reply : ℕ → State → Command → Option Reply
command_faulted_reply rows (Open m) command = open_faulted_reply rows m command
command_faulted_reply rows (Closing m) command = by_command command (Some (Failed Fault)) None None
command_faulted_reply rows (Closed m byte) command = by_command command None (Some (Failed Fault)) None

-- what a request is answered where a fault comes after so many rows, if one can
abbrev pub faulted_reply : ℕ → State → Option Command → Option Reply
faulted_reply rows state None = None
faulted_reply rows state (Some command) = command_faulted_reply rows state command

-- the state after a command that met a fault: a closing is to be done again, and an opening leaves the byte that is chosen
abbrev pub command_faulted_after : ℕ → State → Command → State
command_faulted_after byte (Open m) command = by_command command (Closing m) (Open m) (Open m)
command_faulted_after byte (Closing m) command = Closing m
command_faulted_after byte (Closed m before) command = by_command command (Closed m before) (Closed m byte) (Closed m before)

-- the state after a request that met a fault
abbrev pub faulted_after : ℕ → State → Option Command → State
faulted_after byte state None = state
faulted_after byte state (Some command) = command_faulted_after byte state command

-- what a command is answered where no memory is found, if that can be
abbrev pub command_short_reply : State → Command → Option Reply
command_short_reply (Open m) command = None
command_short_reply (Closing m) command = None
command_short_reply (Closed m byte) command = by_command command None (if nat_eq byte 0 then Some (Refused Memory) else None) None

-- what a request is answered where no memory is found, if that can be; the state stays as it was
abbrev pub short_reply : State → Option Command → Option Reply
short_reply state None = None
short_reply state (Some command) = command_short_reply state command
