-- What the text of a reply tells.
use Rattle.std.specs.Prelude.{ℕ, ◌≢◌, ◌<◌, ◌^◌, Bool, true, false, ◌&&◌, if◌then◌else◌, List, [], ◌∷◌, length, All, Option, Some, None}
use Rattle.cola_spec.specs.Map.{PutOutcome, New, Old, Full, Worn, Other}
use Rattle.cola_spec.specs.Reply.{Reply, Failure, Fault, Damaged, Overfull, Put, Deleted, Got, Stamped, Rows, Cut, Counted, Failed, Closed, Opened, Refused, Already, Shut, Bad}
use Rattle.cola_spec.specs.Machine.{Turn}
use Rattle.cola_spec.specs.Spelling.{IsOneLine}

-- the reply, up to what its text does not tell: `none` is one text of a get, a delete and a
-- stamp, and rows that end before the first are a failure alone
abbrev pub told : Reply → Reply
told (Put outcome) = Put outcome
told (Deleted None) = Got None
told (Deleted (Some value)) = Deleted (Some value)
told (Got value) = Got value
told (Stamped None) = Got None
told (Stamped (Some stamp)) = Stamped (Some stamp)
told (Rows rows) = Rows rows
told (Cut [] failure) = Failed failure
told (Cut (row ∷ rows) failure) = Cut (row ∷ rows) failure
told (Counted keys) = Counted keys
told (Failed failure) = Failed failure
told Closed = Closed
told (Opened keys) = Opened keys
told (Refused refusal) = Refused refusal
told Already = Already
told Shut = Shut
told Bad = Bad

-- what a put answers has its cost behind it
abbrev pub is_costed_outcome : PutOutcome → Bool
is_costed_outcome New = true
is_costed_outcome (Old value) = true
is_costed_outcome Full = false
is_costed_outcome Worn = false
is_costed_outcome (Other stamp) = true

-- the reply has its cost behind it, where costs are asked for
abbrev pub is_costed : Reply → Bool
is_costed (Put outcome) = is_costed_outcome outcome
is_costed (Deleted value) = true
is_costed (Got value) = true
is_costed (Stamped stamp) = true
is_costed _ = false

-- the cost that is printed, and 0 where none is
abbrev pub printed_cost : Bool → Turn → ℕ
printed_cost cost turn = if cost && is_costed turn.answer then turn.ticks else 0

-- what the text of a turn tells: the reply, and its cost where that is printed
abbrev pub told_turn : Bool → Turn → Reply × ℕ
told_turn cost turn = (told turn.answer, printed_cost cost turn)

-- a number that is written whole: of 64 digits at most
abbrev pub IsWritten : ℕ → Type 0
IsWritten number = number < 10 ^ 64

-- a row that a line can hold: no line feed, and no space in its key
abbrev pub IsRowLine : List ℕ × List ℕ → Type 0
IsRowLine row = IsOneLine row.0 × All (λ byte. byte ≢ 32) row.0 × IsOneLine row.1

-- what a put answers can be read back: its value has no line feed, and its stamp is written whole
abbrev pub IsReadableOutcome : PutOutcome → Type 0
IsReadableOutcome New = Unit {0}
IsReadableOutcome (Old value) = IsOneLine value
IsReadableOutcome Full = Unit {0}
IsReadableOutcome Worn = Unit {0}
IsReadableOutcome (Other stamp) = IsWritten stamp

-- a value, if there is one, has no line feed
abbrev pub IsReadableValue : Option (List ℕ) → Type 0
IsReadableValue None = Unit {0}
IsReadableValue (Some value) = IsOneLine value

-- a stamp, if there is one, is written whole
abbrev pub IsReadableStamp : Option ℕ → Type 0
IsReadableStamp None = Unit {0}
IsReadableStamp (Some stamp) = IsWritten stamp

-- the number that a failure tells is written whole
abbrev pub IsReadableFailure : Failure → Type 0
IsReadableFailure Fault = Unit {0}
IsReadableFailure (Damaged cell) = IsWritten cell
IsReadableFailure (Overfull level) = IsWritten level

-- the reply's values have no line feed, its rows can stand in lines, and its numbers are written whole
abbrev pub IsReadable : Reply → Type 0
IsReadable (Put outcome) = IsReadableOutcome outcome
IsReadable (Deleted value) = IsReadableValue value
IsReadable (Got value) = IsReadableValue value
IsReadable (Stamped stamp) = IsReadableStamp stamp
IsReadable (Rows rows) = All IsRowLine rows × IsWritten (length rows)
IsReadable (Cut rows failure) = All IsRowLine rows × IsReadableFailure failure
IsReadable (Counted keys) = IsWritten keys
IsReadable (Failed failure) = IsReadableFailure failure
IsReadable Closed = Unit {0}
IsReadable (Opened keys) = IsWritten keys
IsReadable (Refused refusal) = Unit {0}
IsReadable Already = Unit {0}
IsReadable Shut = Unit {0}
IsReadable Bad = Unit {0}

-- a turn with a readable reply, whose cost is written whole
abbrev pub IsReadableTurn : Turn → Type 0
IsReadableTurn turn = IsReadable turn.answer × IsWritten turn.ticks
