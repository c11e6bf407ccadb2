-- Commands of a table: which requests they are, and what they are answered while it is shut.
use Rattle.std.proofs.Common.{◌≡◌, ℕ, Bool, List, [], ◌∷◌, Option, Some, None, refl, sym, ap}
use Rattle.cola_spec.specs.Map.{Shape, Map, empty_map}
use Rattle.cola_spec.specs.Command.{Put, PutIf, Del, Get, Stamp, Range, Scan, Count, Close, Reopen}
use Rattle.cola_spec.specs.Reply as reply
use Rattle.cola_spec.specs.Reply.{Reply}
use Rattle.cola_spec.specs.Machine as machine
use Rattle.cola_spec.specs.Machine.{State, by_command, command_reply, command_after}
use Rattle.cola_line.specs.declared.command.Command.{Command}
use Rattle.cola_line.specs.declared.command.Command.TheVariants as code
use Rattle.cola_line.specs.Spoken.{spoken, IsOfTable}
use Rattle.cola_session.specs.Home.{cut_by_request}

-- a command of a table is neither to close nor to open
pub by-table : (A B : Type 0) {C : Type 0} (command : Command) → IsOfTable command → C → by_command (spoken command) A B C
by-table A B (code.Put key value) is c = c
by-table A B (code.PutIf key seen value) is c = c
by-table A B (code.Del key) is c = c
by-table A B (code.Get key) is c = c
by-table A B (code.Stamp key) is c = c
by-table A B (code.Range low high) is c = c
by-table A B (code.Scan low most) is c = c
by-table A B code.Count is c = c
by-table A B code.Close is c = absurd is
by-table A B code.Reopen is c = absurd is

-- and cuts no session off
pub cut-table : (command : Command) → IsOfTable command → (answer : Reply) (cut : Bool) → cut ≡ cut_by_request (Some (spoken command)) answer cut
cut-table (code.Put key value) is answer cut = refl
cut-table (code.PutIf key seen value) is answer cut = refl
cut-table (code.Del key) is answer cut = refl
cut-table (code.Get key) is answer cut = refl
cut-table (code.Stamp key) is answer cut = refl
cut-table (code.Range low high) is answer cut = refl
cut-table (code.Scan low most) is answer cut = refl
cut-table code.Count is answer cut = refl
cut-table code.Close is answer cut = absurd is
cut-table code.Reopen is answer cut = absurd is

-- the map of a state
abbrev pub map_of : State → Map
map_of (machine.Open m) = m
map_of (machine.Closing m) = m
map_of (machine.Closed m byte) = m

-- a command of a table is shut out
pub shut-reply : (command : Command) → IsOfTable command → (shape : Shape) (m : Map) → (reply.Shut ≡ command_reply shape (machine.Closing m) (spoken command)) × (machine.Closing m ≡ command_after shape (machine.Closing m) (spoken command))
shut-reply (code.Put key value) is shape m = (refl, refl)
shut-reply (code.PutIf key seen value) is shape m = (refl, refl)
shut-reply (code.Del key) is shape m = (refl, refl)
shut-reply (code.Get key) is shape m = (refl, refl)
shut-reply (code.Stamp key) is shape m = (refl, refl)
shut-reply (code.Range low high) is shape m = (refl, refl)
shut-reply (code.Scan low most) is shape m = (refl, refl)
shut-reply code.Count is shape m = (refl, refl)
shut-reply code.Close is shape m = absurd is
shut-reply code.Reopen is shape m = absurd is

pub shut-closed : (command : Command) → IsOfTable command → (shape : Shape) (m : Map) (byte : ℕ) → (reply.Shut ≡ command_reply shape (machine.Closed m byte) (spoken command)) × (machine.Closed m byte ≡ command_after shape (machine.Closed m byte) (spoken command))
shut-closed (code.Put key value) is shape m byte = (refl, refl)
shut-closed (code.PutIf key seen value) is shape m byte = (refl, refl)
shut-closed (code.Del key) is shape m byte = (refl, refl)
shut-closed (code.Get key) is shape m byte = (refl, refl)
shut-closed (code.Stamp key) is shape m byte = (refl, refl)
shut-closed (code.Range low high) is shape m byte = (refl, refl)
shut-closed (code.Scan low most) is shape m byte = (refl, refl)
shut-closed code.Count is shape m byte = (refl, refl)
shut-closed code.Close is shape m byte = absurd is
shut-closed code.Reopen is shape m byte = absurd is
