-- The session machine: what each line is answered, state by state.
use Rattle.std.specs.Prelude.{ℕ, ◌<◌, ◌≡◌, ◌+◌, Bool, nat_eq, if◌then◌else◌, List, [], ◌∷◌, take, Option, Some, None, zero}
use Rattle.std.specs.List.{flat_map}
use Rattle.cola_spec.specs.Map.{Shape, Map, put_outcome, put_if_outcome, after_put, after_put_if, after_delete, value_of, range, scan, count}
use Rattle.cola_spec.specs.Map as map
use Rattle.cola_spec.specs.Command.{Command, Put, PutIf, Del, Get, Stamp, Range, Scan, Count, Close, Reopen}
use Rattle.cola_spec.specs.Reply.{Reply, Failure, Fault, Refusal, NotStore, NotClosed, Small, Memory, Deleted, Got, Stamped, Rows, Cut, Counted, Failed, Opened, Refused, Already, Shut, Bad, reply_text}
use Rattle.cola_spec.specs.Reply as reply

-- an open store, one whose closing met a fault, or a closed one with the state byte of its file
pub data State : Type 0 where
  Open : Map → State
  Closing : Map → State
  Closed : Map → ℕ → State

-- what a command is answered while the store is open
abbrev pub open_reply : Shape → Map → Command → Reply
open_reply shape m (Put key value) = reply.Put (put_outcome shape m key)
open_reply shape m (PutIf key seen value) = reply.Put (put_if_outcome shape m key seen)
open_reply shape m (Del key) = Deleted (value_of m key)
open_reply shape m (Get key) = Got (value_of m key)
open_reply shape m (Stamp key) = Stamped (map.stamp_of m key)
open_reply shape m (Range low high) = Rows (range m low high)
open_reply shape m (Scan low most) = Rows (scan m low most)
open_reply shape m Count = Counted (count m)
open_reply shape m Close = reply.Closed
open_reply shape m Reopen = Already

-- the state after a command while the store is open
abbrev pub open_after : Shape → Map → Command → State
open_after shape m (Put key value) = Open (after_put shape m key value)
open_after shape m (PutIf key seen value) = Open (after_put_if shape m key seen value)
open_after shape m (Del key) = Open (after_delete m key)
open_after shape m (Get key) = Open m
open_after shape m (Stamp key) = Open m
open_after shape m (Range low high) = Open m
open_after shape m (Scan low most) = Open m
open_after shape m Count = Open m
open_after shape m Close = Closed m 0
open_after shape m Reopen = Open m

-- a command answered where the store is not open: closing, opening, or shut to all else
abbrev pub by_command {ℓ} : {A : Type ℓ} → Command → A → A → A → A
by_command (Put key value) close reopen other = other
by_command (PutIf key seen value) close reopen other = other
by_command (Del key) close reopen other = other
by_command (Get key) close reopen other = other
by_command (Stamp key) close reopen other = other
by_command (Range low high) close reopen other = other
by_command (Scan low most) close reopen other = other
by_command Count close reopen other = other
by_command Close close reopen other = close
by_command Reopen close reopen other = reopen

-- what an opening answers by the state byte
abbrev pub reopen_reply : Map → ℕ → Reply
reopen_reply m byte = if nat_eq byte 0 then Opened (count m) else if nat_eq byte 1 then Refused NotClosed else Refused NotStore

abbrev pub reopen_after : Map → ℕ → State
reopen_after m byte = if nat_eq byte 0 then Open m else Closed m byte

-- the one plain answer to a request
abbrev pub command_reply : Shape → State → Command → Reply
command_reply shape (Open m) command = open_reply shape m command
command_reply shape (Closing m) command = by_command command reply.Closed Already Shut
command_reply shape (Closed m byte) command = by_command command Already (reopen_reply m byte) Shut

abbrev pub plain_reply : Shape → State → Option Command → Reply
plain_reply shape state None = Bad
plain_reply shape state (Some command) = command_reply shape state command

-- the state after the plain answer
abbrev pub command_after : Shape → State → Command → State
command_after shape (Open m) command = open_after shape m command
command_after shape (Closing m) command = by_command command (Closed m 0) (Closing m) (Closing m)
command_after shape (Closed m byte) command = by_command command (Closed m byte) (reopen_after m byte) (Closed m byte)

abbrev pub plain_after : Shape → State → Option Command → State
plain_after shape state None = state
plain_after shape state (Some command) = command_after shape state command

-- a command of an open store that met a fault
abbrev pub OpenFaulted : Map → Command → Reply → State → Type 0
OpenFaulted m (Put key value) answer next = (answer ≡ Failed Fault) × (next ≡ Open m)
OpenFaulted m (PutIf key seen value) answer next = (answer ≡ Failed Fault) × (next ≡ Open m)
OpenFaulted m (Del key) answer next = (answer ≡ Failed Fault) × (next ≡ Open m)
OpenFaulted m (Get key) answer next = (answer ≡ Failed Fault) × (next ≡ Open m)
OpenFaulted m (Stamp key) answer next = (answer ≡ Failed Fault) × (next ≡ Open m)
OpenFaulted m (Range low high) answer next = ((rows : ℕ) × (answer ≡ Cut (take rows (range m low high)) Fault)) × (next ≡ Open m)
OpenFaulted m (Scan low most) answer next = ((rows : ℕ) × (answer ≡ Cut (take rows (scan m low most)) Fault)) × (next ≡ Open m)
OpenFaulted m Count answer next = ⊥
OpenFaulted m Close answer next = (answer ≡ Failed Fault) × (next ≡ Closing m)
OpenFaulted m Reopen answer next = ⊥

-- a faulted opening leaves any state byte
abbrev pub ReopenFaulted : Map → Reply → State → Type 0
ReopenFaulted m answer next = (answer ≡ Failed Fault) × ((byte : ℕ) × (byte < 256) × (next ≡ Closed m byte))

abbrev pub CommandFaulted : State → Command → Reply → State → Type 0
CommandFaulted (Open m) command answer next = OpenFaulted m command answer next
CommandFaulted (Closing m) command answer next = by_command command ((answer ≡ Failed Fault) × (next ≡ Closing m)) ⊥ ⊥
CommandFaulted (Closed m byte) command answer next = by_command command ⊥ (ReopenFaulted m answer next) ⊥

-- a request that met a fault of the device
abbrev pub Faulted : State → Option Command → Reply → State → Type 0
Faulted state None answer next = ⊥
Faulted state (Some command) answer next = CommandFaulted state command answer next

-- an opening that found no memory
abbrev pub ShortOfMemory : State → Option Command → State → Type 0
ShortOfMemory (Closed m zero) (Some Reopen) next = next ≡ Closed m 0
ShortOfMemory _ _ next = ⊥

-- the kinds of steps
pub data Kind : Type 0 where
  PlainStep : Kind
  FaultedStep : Kind
  ShortStep : Kind

abbrev pub failure_kind : Failure → Kind
failure_kind Fault = FaultedStep
failure_kind (reply.Damaged cell) = PlainStep
failure_kind (reply.Overfull level) = PlainStep

abbrev pub refusal_kind : Refusal → Kind
refusal_kind NotStore = PlainStep
refusal_kind NotClosed = PlainStep
refusal_kind Small = PlainStep
refusal_kind Memory = ShortStep

-- a step's kind shows in its reply
abbrev pub kind_of : Reply → Kind
kind_of (Failed failure) = failure_kind failure
kind_of (Cut rows failure) = failure_kind failure
kind_of (Refused refusal) = refusal_kind refusal
kind_of _ = PlainStep

-- a request, its reply, and the cell accesses that were made for it
pub record Turn : Type 0 where
  pub request : Option Command
  pub answer : Reply
  pub ticks : ℕ

abbrev pub StepOf : Shape → State → Turn → State → Kind → Type 0
StepOf shape state turn next PlainStep = (turn.answer ≡ plain_reply shape state turn.request) × (next ≡ plain_after shape state turn.request)
StepOf shape state turn next FaultedStep = Faulted state turn.request turn.answer next
StepOf shape state turn next ShortStep = ShortOfMemory state turn.request next

-- one step of the machine
abbrev pub Step : Shape → State → Turn → State → Type 0
Step shape state turn next = StepOf shape state turn next (kind_of turn.answer)

-- a history: one step a turn
abbrev pub History : Shape → State → List Turn → State → Type 0
History shape state [] last = last ≡ state
History shape state (turn ∷ turns) last = (next : State) × Step shape state turn next × History shape next turns last

-- the history with plain steps alone, which costs nothing: its turns and its last state
abbrev pub plain_turn : Shape → State → Option Command → Turn
plain_turn shape state request = record { request = request; answer = plain_reply shape state request; ticks = 0 }

abbrev pub plain_turns : Shape → State → List (Option Command) → List Turn
plain_turns shape state [] = []
plain_turns shape state (request ∷ requests) = plain_turn shape state request ∷ plain_turns shape (plain_after shape state request) requests

abbrev pub plain_last : Shape → State → List (Option Command) → State
plain_last shape state [] = state
plain_last shape state (request ∷ requests) = plain_last shape (plain_after shape state request) requests

-- the texts of the replies, one after another
abbrev pub turn_text : Bool → Turn → List ℕ
turn_text cost turn = reply_text cost turn.ticks turn.answer

abbrev pub turns_text : Bool → List Turn → List ℕ
turns_text cost turns = flat_map (turn_text cost) turns

-- how many steps of a history met a fault
abbrev pub faulted_one : Kind → ℕ
faulted_one PlainStep = 0
faulted_one FaultedStep = 1
faulted_one ShortStep = 0

abbrev pub faulted_steps : List Turn → ℕ
faulted_steps [] = 0
faulted_steps (turn ∷ turns) = faulted_one (kind_of turn.answer) + faulted_steps turns

-- the cell accesses of a history
abbrev pub ticks_of : List Turn → ℕ
ticks_of [] = 0
ticks_of (turn ∷ turns) = turn.ticks + ticks_of turns
