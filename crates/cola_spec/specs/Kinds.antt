-- Words of the laws of steps and bounds: what kind a command is of, and the steps of each kind.
use Rattle.std.specs.Prelude.{ℕ, ◌≡◌, Bool, true, false, List, [], ◌∷◌, ◌+◌, Option, Some, None}
use Rattle.cola_spec.specs.Map.{Shape, Map, range, scan}
use Rattle.cola_spec.specs.Command.{Command, Put, PutIf, Del, Get, Stamp, Range, Scan, Count, Close, Reopen}
use Rattle.cola_spec.specs.Reply.{Reply}
use Rattle.cola_spec.specs.Machine.{State, Turn, Step, PlainStep, FaultedStep, ShortStep, kind_of}
use Rattle.cola_spec.specs.Bounds.{request_bound}

-- a command that may change a key: a put, one that depends on a stamp, or a delete
abbrev pub is_mutation : Command → Bool
is_mutation (Put key value) = true
is_mutation (PutIf key seen value) = true
is_mutation (Del key) = true
is_mutation (Get key) = false
is_mutation (Stamp key) = false
is_mutation (Range low high) = false
is_mutation (Scan low most) = false
is_mutation Count = false
is_mutation Close = false
is_mutation Reopen = false

-- a command that asks what one key has: a get or a stamp
abbrev pub is_look_up : Command → Bool
is_look_up (Put key value) = false
is_look_up (PutIf key seen value) = false
is_look_up (Del key) = false
is_look_up (Get key) = true
is_look_up (Stamp key) = true
is_look_up (Range low high) = false
is_look_up (Scan low most) = false
is_look_up Count = false
is_look_up Close = false
is_look_up Reopen = false

-- the rows that a range or a scan asks for; no other command asks for rows
abbrev pub rows_asked : Map → Command → Option (List (List ℕ × List ℕ))
rows_asked m (Put key value) = None
rows_asked m (PutIf key seen value) = None
rows_asked m (Del key) = None
rows_asked m (Get key) = None
rows_asked m (Stamp key) = None
rows_asked m (Range low high) = Some (range m low high)
rows_asked m (Scan low most) = Some (scan m low most)
rows_asked m Count = None
rows_asked m Close = None
rows_asked m Reopen = None

-- a command that only an open store answers: all but close and open
abbrev pub is_for_open : Command → Bool
is_for_open (Put key value) = true
is_for_open (PutIf key seen value) = true
is_for_open (Del key) = true
is_for_open (Get key) = true
is_for_open (Stamp key) = true
is_for_open (Range low high) = true
is_for_open (Scan low most) = true
is_for_open Count = true
is_for_open Close = false
is_for_open Reopen = false

-- a request that was answered so, at some cost
abbrev pub turn_of : Option Command → Reply → ℕ → Turn
turn_of request answer ticks = record { request = request; answer = answer; ticks = ticks }

-- a step that is plain
abbrev pub IsPlain : Shape → State → Turn → State → Type 0
IsPlain shape state turn next = (kind_of turn.answer ≡ PlainStep) × Step shape state turn next

-- a step that met a fault of the device
abbrev pub IsFaulted : Shape → State → Turn → State → Type 0
IsFaulted shape state turn next = (kind_of turn.answer ≡ FaultedStep) × Step shape state turn next

-- a step that found no memory
abbrev pub IsShort : Shape → State → Turn → State → Type 0
IsShort shape state turn next = (kind_of turn.answer ≡ ShortStep) × Step shape state turn next

-- the bounds of requests, summed
abbrev pub requests_bound : ℕ → List (Option Command) → ℕ
requests_bound levels [] = 0
requests_bound levels (request ∷ requests) = request_bound levels request + requests_bound levels requests
