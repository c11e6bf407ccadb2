-- What a table that holds a map answers, call by call, and which map it holds afterwards.
-- `Holds` is the maps that the table holds after the call.
use Rattle.std.specs.Prelude.{ℕ, ◌≡◌, List, [], ◌∷◌, Option, Some, None, Result, Ok, Err, IfNone}
use Rattle.cola_cell.specs.declared.fault.ReadFault.{ReadFault}
use Rattle.cola_cell.specs.declared.fault.ReadFault.TheVariants as read
use Rattle.cola_cell.specs.declared.fault.StepFault.{StepFault}
use Rattle.cola_cell.specs.declared.fault.StepFault.TheVariants as step
use Rattle.cola_outside.specs.Faults.{Rose}
use Rattle.cola_spec.specs.Map.{Shape, Map, PutOutcome, New, Old, Full, Worn, Other, put_outcome, put_if_outcome, after_put, after_put_if, after_delete, value_of, stamp_of, pairs_between}
use Rattle.cola_table.specs.declared.Put.{Put}
use Rattle.cola_table.specs.declared.Put.TheVariants as put
use Rattle.cola_table.specs.declared.PutIf.{PutIf}
use Rattle.cola_table.specs.declared.PutIf.TheVariants as put_if
use Rattle.cola_table.specs.declared.PutFault.{PutFault}
use Rattle.cola_table.specs.declared.PutFault.TheVariants as fault

-- what an accepted put answered, in the words of the map
abbrev pub put_answer : Put → PutOutcome
put_answer put.New = New
put_answer (put.Old value) = Old value

-- what an accepted or refused conditional put answered, in the words of the map
abbrev pub put_if_answer : PutIf → PutOutcome
put_if_answer put_if.New = New
put_if_answer (put_if.Old value) = Old value
put_if_answer (put_if.Other stamp) = Other stamp

-- a refused put: full and worn as the map says, a device's fault at any time, and nothing else; the map stays
abbrev pub PutRefused : PutOutcome → PutFault → Type 0
PutRefused outcome fault.Full = outcome ≡ Full
PutRefused outcome fault.Worn = outcome ≡ Worn
PutRefused outcome fault.Device = Unit {0}
PutRefused outcome (fault.BadCell cell) = ⊥
PutRefused outcome (fault.Overfull level) = ⊥

-- a put is answered as the map answers it, and leaves the map that the map has after it
abbrev pub PutAnswers : Shape → Map → List ℕ → List ℕ → (Map → Type 0) → Result (Put × ℕ) PutFault → Type 0
PutAnswers shape m key value Holds (Ok answer) = (put_answer answer.0 ≡ put_outcome shape m key) × Holds (after_put shape m key value)
PutAnswers shape m key value Holds (Err refusal) = PutRefused (put_outcome shape m key) refusal × Holds m

-- the same of a put that depends on the stamp seen
abbrev pub PutIfAnswers : Shape → Map → List ℕ → ℕ → List ℕ → (Map → Type 0) → Result (PutIf × ℕ) PutFault → Type 0
PutIfAnswers shape m key seen value Holds (Ok answer) =
    (put_if_answer answer.0 ≡ put_if_outcome shape m key seen) × Holds (after_put_if shape m key seen value)
PutIfAnswers shape m key seen value Holds (Err refusal) = PutRefused (put_if_outcome shape m key seen) refusal × Holds m

-- a delete that a sound table refuses met a fault of the device
abbrev pub OnlyDevice : StepFault → Type 0
OnlyDevice step.Device = Unit {0}
OnlyDevice (step.BadCell cell) = ⊥
OnlyDevice (step.Overfull level) = ⊥

-- a reading that a sound table refuses met a fault of the device
abbrev pub OnlyDeviceRead : ReadFault → Type 0
OnlyDeviceRead read.Device = Unit {0}
OnlyDeviceRead (read.BadCell cell) = ⊥

-- a delete answers the value that the key had, and leaves the map without it
abbrev pub DeleteAnswers : Map → List ℕ → (Map → Type 0) → Result (Option (List ℕ) × ℕ) StepFault → Type 0
DeleteAnswers m key Holds (Ok answer) = (answer.0 ≡ value_of m key) × Holds (after_delete m key)
DeleteAnswers m key Holds (Err refusal) = OnlyDevice refusal × Holds m

-- a get answers the key's value, and leaves the map
abbrev pub GetAnswers : Map → List ℕ → (Map → Type 0) → Result (Option (List ℕ) × ℕ) ReadFault → Type 0
GetAnswers m key Holds (Ok answer) = (answer.0 ≡ value_of m key) × Holds m
GetAnswers m key Holds (Err refusal) = OnlyDeviceRead refusal × Holds m

-- a stamp answers the key's stamp, and leaves the map
abbrev pub StampAnswers : Map → List ℕ → (Map → Type 0) → Result (Option ℕ × ℕ) ReadFault → Type 0
StampAnswers m key Holds (Ok answer) = (answer.0 ≡ stamp_of m key) × Holds m
StampAnswers m key Holds (Err refusal) = OnlyDeviceRead refusal × Holds m

-- a range gives a walk with the pairs of the interval ahead, and leaves the map
abbrev pub RangeAnswers : {W : Type 0} → Map → List ℕ → Option (List ℕ) → (Map → Type 0) → (W → List (List ℕ × List ℕ) → Type 0) → Result W ReadFault → Type 0
RangeAnswers m low high Holds Ahead (Ok walk) = Ahead walk (pairs_between m low high) × Holds m
RangeAnswers m low high Holds Ahead (Err refusal) = OnlyDeviceRead refusal × Holds m

-- a next takes the first of the pairs ahead, and answers none exactly where none is; a refused one takes nothing
abbrev pub NextAnswers : (List (List ℕ × List ℕ) → Type 0) → List (List ℕ × List ℕ) → Result (Option (List ℕ × List ℕ)) ReadFault → Type 0
NextAnswers Ahead pairs (Ok (Some pair)) = (rest : List (List ℕ × List ℕ)) × (pairs ≡ pair ∷ rest) × Ahead rest
NextAnswers Ahead pairs (Ok None) = (pairs ≡ []) × Ahead []
NextAnswers Ahead pairs (Err refusal) = OnlyDeviceRead refusal × Ahead pairs

-- Faults: the count of faults rose where a fault of the device is answered, and stays at every other answer

abbrev pub PutFaults : {A : Type 0} → Result A PutFault → ℕ → ℕ → Type 0
PutFaults (Ok answer) before now = now ≡ before
PutFaults (Err fault.Device) before now = Rose before now
PutFaults (Err fault.Full) before now = now ≡ before
PutFaults (Err fault.Worn) before now = now ≡ before
PutFaults (Err (fault.BadCell cell)) before now = now ≡ before
PutFaults (Err (fault.Overfull level)) before now = now ≡ before

abbrev pub StepFaults : {A : Type 0} → Result A StepFault → ℕ → ℕ → Type 0
StepFaults (Ok answer) before now = now ≡ before
StepFaults (Err step.Device) before now = Rose before now
StepFaults (Err (step.BadCell cell)) before now = now ≡ before
StepFaults (Err (step.Overfull level)) before now = now ≡ before

abbrev pub ReadFaults : {A : Type 0} → Result A ReadFault → ℕ → ℕ → Type 0
ReadFaults (Ok answer) before now = now ≡ before
ReadFaults (Err read.Device) before now = Rose before now
ReadFaults (Err (read.BadCell cell)) before now = now ≡ before

-- Walks: every call but an accepted write leaves those that stand, and what is ahead of them

-- what stands stays standing, and what is ahead stays ahead
pub record KeepsWalks {W : Type 0} (Stands Stands' : W → Type 0) (Ahead Ahead' : W → List (List ℕ × List ℕ) → Type 0) : Type 0 where
  pub standing : (walk : W) → Stands walk → Stands' walk
  pub pairs_ahead : (walk : W) (pairs : List (List ℕ × List ℕ)) → Ahead walk pairs → Ahead' walk pairs

-- only a conditional put that found another stamp wrote nothing
abbrev pub UnlessWritten : Type 0 → PutIf → Type 0
UnlessWritten Kept put_if.New = Unit {0}
UnlessWritten Kept (put_if.Old value) = Unit {0}
UnlessWritten Kept (put_if.Other stamp) = Kept

-- a refused put keeps the walks, and so does a conditional one that found another stamp
abbrev pub UnlessPut : Type 0 → Result (PutIf × ℕ) PutFault → Type 0
UnlessPut Kept (Ok answer) = UnlessWritten Kept answer.0
UnlessPut Kept (Err refusal) = Kept

-- a delete that found nothing, or was refused, keeps the walks
abbrev pub UnlessDeleted : Type 0 → Result (Option (List ℕ) × ℕ) StepFault → Type 0
UnlessDeleted Kept (Ok answer) = IfNone answer.0 Kept
UnlessDeleted Kept (Err refusal) = Kept
