-- How the stated workload over a new file ends: its status, and what it leaves.
use Rattle.std.specs.Prelude.{◌≡◌, ℕ, ◌+◌, ◌-◌, ◌*◌, ◌≤◌, List, ◌++◌, length, take, codes, decimal, Option, Result, Ok, Err, OnOk, MatchResult, IsSomeAnd}
use Rattle.cola_outside.specs.Faults.{Rose}
use Rattle.cola_cell.specs.declared.format.Format.TheVariants.{One}
use Rattle.cola_cell.specs.declared.fault.ReadFault.{ReadFault}
use Rattle.cola_cell.specs.declared.fault.ReadFault.TheVariants as read
use Rattle.cola_device.specs.declared.device.Device as device
use Rattle.cola_io.specs.Streams.{Appended}
use Rattle.cola_io.specs.Counted.{after_fault}
use Rattle.cola_io.specs.declared.sink.Sink as sink
use Rattle.cola_spec.specs.Map.{Map, empty_map}
use Rattle.cola_spec.specs.Reply.{line}
use Rattle.cola_spec.specs.Bounds.{put_bound, get_bound}
use Rattle.cola_table.specs.declared.table.Table as table
use Rattle.cola_table.specs.declared.PutFault.{PutFault}
use Rattle.cola_table.specs.declared.PutFault.TheVariants as put
use Rattle.cola_table.specs.Answers.{PutFaults, ReadFaults}
use Rattle.cola_image.specs.Standing.{FileStandsFor}
use Rattle.cola_cursor.specs.declared.cursor.Cursor.{Cursor}
use Rattle.cola_gen.specs.declared.Tally.{Tally}
use Rattle.cola_gen.specs.Keys.{made, evens, HasOdd}
use Rattle.cola_gen.specs.Commands.{gets}
use Rattle.cola_gen.specs.Turns.{RisesBy, wrong_in}
use Rattle.cola_gen.specs.Answered.{State, at, Ran, Generated, Spent, MadeOdd, read_refused}
use Rattle.cola_opening.specs.Judged.{file_size}
use Rattle.cola_store.specs.declared.closing.Closing.{Closing}
use Rattle.cola_store.specs.declared.fault.CreateFault.{CreateFault}
use Rattle.cola_store.specs.declared.fault.CreateFault.TheVariants as create
use Rattle.cola_store.specs.declared.fault.OpenFault.{OpenFault}
use Rattle.cola_store.specs.Create.{Created, Made, Suits}
use Rattle.cola_store.specs.Close.{IsClosed, StillOwes}
use Rattle.cola_store.specs.Sessions.{OpensStore, IsStoreOpened, ClosesStore, IsStoreClosed, IsStoreOwed}
use Rattle.cola_store.specs.Store.{Stored}
use Rattle.cola_report.specs.Line.{LineEnds}
use Rattle.cola_workload.specs.Refused.{refusal_status}
use Rattle.cola_run.specs.Store as run

-- The line

-- nothing was counted yet
abbrev pub no_tally : Tally
no_tally = record { fresh = 0; gone = 0; wrong = 0; over = 0 }

-- the line of a tally and the number of keys that are left
abbrev pub workload_line : Tally → ℕ → List ℕ
workload_line tally left =
    line (codes "new " ++ decimal tally.fresh ++ codes " gone " ++ decimal tally.gone ++ codes " left " ++ decimal left
    ++ codes " wrong " ++ decimal tally.wrong ++ codes " over " ++ decimal tally.over)

-- the line where every call answers as a map does: each put makes a key, each second one is deleted, and the others are left
abbrev pub right_line : ℕ → List ℕ
right_line keys =
    workload_line (record { fresh = made keys; gone = evens (made keys); wrong = 0; over = 0 }) (made keys - evens (made keys))

-- Statuses of refusals, beside that of an opening

-- the file was not made: the device failed, or had bytes
abbrev pub making_status : CreateFault → ℕ
making_status create.Keys = 2
making_status create.Block = 2
making_status create.NotEmpty = 8
making_status create.Device = 5

-- a put or a delete was refused
abbrev pub filling_status : PutFault → ℕ
filling_status put.Full = 11
filling_status put.Worn = 11
filling_status put.Device = 5
filling_status (put.BadCell cell) = 10
filling_status (put.Overfull level) = 11

-- a get was refused
abbrev pub asking_status : ReadFault → ℕ
asking_status read.Device = 5
asking_status (read.BadCell cell) = 10

-- Closing after a refusal

module _ {D : Type 0} (d : device.Ghosts D) where
  -- the device after an attempt to close a store
  abbrev pub device_after : Result D (Closing D d) → D
  device_after (Ok now) = now
  device_after (Err closing) = run.device_of closing.runs

  -- a store was closed in one attempt, and the device came back, whatever that answered
  pub record ClosedOnce (store : Stored D) (now : D) : Type 0 where
    pub attempt : Result D (Closing D d)
    pub closes : ClosesStore d store attempt
    pub device_is : now ≡ device_after attempt

  -- another attempt to close a store
  abbrev pub ClosesAgain : Closing D d → Result D (Closing D d) → Type 0
  ClosesAgain closing (Ok now) = IsClosed d closing.header closing.runs now
  ClosesAgain closing (Err still) = StillOwes d closing.header closing.runs still.runs still.header

  -- a store's closing was refused by the device, and after another attempt the device came back, whatever that answered
  pub record ClosedLate (store : Stored D) (now : D) : Type 0 where
    pub closing : Closing D d
    pub refused : IsStoreOwed d store closing
    pub attempt : Result D (Closing D d)
    pub closes : ClosesAgain closing attempt
    pub device_is : now ≡ device_after attempt

-- The calls of the workload, one after another

module _ {D : Type 0} (d : device.Ghosts D) (t : table.Ghosts (Stored D) Cursor) (keys : ℕ) where
  -- the puts and deletes of the workload on a store, or why one was refused; on one that holds
  -- no key, with room, they leave the keys of the odd places, and only the device refuses
  pub record Fills (result : Result (Unit {0}) PutFault) (old new : State (Stored D)) : Type 0 where
    pub given : Generated t (put_bound (t.terms old.table).depth) (t.terms old.table).depth (made keys) result old new
    pub from_empty : t.holds old.table empty_map → made keys ≤ (t.terms old.table).limit →
        MatchResult result (λ _. MadeOdd t (made keys) old new) (λ refusal. refusal ≡ put.Device)
    pub none_over : new.tally.over ≡ old.tally.over
    pub tallied : RisesBy (made keys) (evens (made keys)) 0 (made keys + evens (made keys)) old.tally new.tally
    pub spent : Spent t ((made keys + evens (made keys)) * put_bound (t.terms old.table).depth) old new
    pub faults : PutFaults result (t.faults old.table) (t.faults new.table)

  -- the gets of the workload on a store, or why one was refused; on one that holds a map, only
  -- the device refuses, and on one that holds the keys of the odd places none is wrong
  pub record Asks (result : Result (Unit {0}) ReadFault) (old new : State (Stored D)) : Type 0 where
    pub given : Ran t gets read_refused (get_bound (t.terms old.table).depth) (t.terms old.table).depth (made keys) result old new
    pub holds : (m : Map) → t.holds old.table m → t.holds new.table m
    pub wrong : (m : Map) → t.holds old.table m → MatchResult result (λ _. new.tally.wrong ≡ old.tally.wrong + wrong_in m (made keys))
        (λ refusal. refusal ≡ read.Device)
    pub none_wrong : (m : Map) → t.holds old.table m → HasOdd (made keys) m → OnOk result (new.tally.wrong ≡ old.tally.wrong)
    pub none_over : new.tally.over ≡ old.tally.over
    pub tallied : RisesBy 0 0 (made keys) (made keys) old.tally new.tally
    pub spent : Spent t (made keys * get_bound (t.terms old.table).depth) old new
    pub faults : ReadFaults result (t.faults old.table) (t.faults new.table)

  -- a store was opened on the file of a device, and filled so far
  pub record Filled (before : D) (steps : ℕ) (result : Result (Unit {0}) PutFault) (new : State (Stored D)) : Type 0 where
    pub store : Stored D
    pub opened : IsStoreOpened d before 0 store
    pub fills : Fills result (at store no_tally steps) new

  -- a store was opened again, and asked so far
  pub record Asked (before : D) (tally : Tally) (steps : ℕ) (result : Result (Unit {0}) ReadFault) (new : State (Stored D)) : Type 0 where
    pub store : Stored D
    pub opened : IsStoreOpened d before 0 store
    pub asks : Asks result (at store tally steps) new

  -- the file was made, filled by every put and delete, and closed
  pub record WasFilled (before : D) (steps : ℕ) (filled : State (Stored D)) (now : D) : Type 0 where
    pub made_on : D
    pub file : Made d One keys 5 before made_on
    pub was : Filled made_on steps (Ok tt) filled
    pub closed : IsStoreClosed d filled.table now

  -- the closed file was opened, asked for every key, and closed
  pub record WasAsked (before : D) (tally : Tally) (steps : ℕ) (asked : State (Stored D)) (now : D) : Type 0 where
    pub was : Asked before tally steps (Ok tt) asked
    pub closed : IsStoreClosed d asked.table now

  -- a call was refused before the file was filled and closed: what is done then, and the status
  pub data FillingRefused (before now : D) (steps steps' status : ℕ) : Type 0 where
    NotMade : (fault : CreateFault) → status ≡ making_status fault → Created d One keys 5 before now (Err fault) → steps' ≡ steps →
        FillingRefused before now steps steps' status
    NotOpened : (fault : OpenFault) (made_on : D) → status ≡ refusal_status fault → Made d One keys 5 before made_on →
        OpensStore d made_on 0 (Err (now, fault)) → steps' ≡ steps → FillingRefused before now steps steps' status
    NotFilled : (fault : PutFault) (made_on : D) (last : State (Stored D)) → status ≡ filling_status fault →
        Made d One keys 5 before made_on → Filled made_on steps (Err fault) last → ClosedOnce d last.table now → steps' ≡ last.steps
        → FillingRefused before now steps steps' status
    NotClosed : (made_on : D) (last : State (Stored D)) → status ≡ 5 → Made d One keys 5 before made_on →
        Filled made_on steps (Ok tt) last → ClosedLate d last.table now → steps' ≡ last.steps → FillingRefused before now steps steps' status

  -- a call was refused after that: what is done then, and the status
  pub data AskingRefused (before now : D) (tally : Tally) (steps steps' status : ℕ) : Type 0 where
    NotReopened : (fault : OpenFault) → status ≡ refusal_status fault → OpensStore d before 0 (Err (now, fault)) → steps' ≡ steps →
        AskingRefused before now tally steps steps' status
    NotAsked : (fault : ReadFault) (last : State (Stored D)) → status ≡ asking_status fault →
        Asked before tally steps (Err fault) last → ClosedOnce d last.table now → steps' ≡ last.steps → AskingRefused before now tally steps steps' status
    NotClosedAgain : (last : State (Stored D)) → status ≡ 5 → Asked before tally steps (Ok tt) last → ClosedLate d last.table now →
        steps' ≡ last.steps → AskingRefused before now tally steps steps' status

-- How it ends

module _ {K D : Type 0} (k : sink.Ghosts K) (d : device.Ghosts D) (t : table.Ghosts (Stored D) Cursor) (keys : ℕ) where
  -- how a filled and closed file is asked: to the end, which the line tells, or up to a refusal, and then nothing is written
  pub data AskEnds (before now : D) (tally : Tally) (sink sink' : K) (steps steps' status : ℕ) : Type 0 where
    Told : (asked : State (Stored D)) → WasAsked d t keys before tally steps asked now → steps' ≡ asked.steps →
        LineEnds k (workload_line asked.tally asked.table.count) 0 sink sink' status
        → AskEnds before now tally sink sink' steps steps' status
    AskRefused : AskingRefused d t keys before now tally steps steps' status → sink' ≡ sink → AskEnds before now tally sink sink' steps steps' status

  -- how the workload ends: the file was filled and closed, and then asked; or a call before
  -- that was refused, and nothing is written
  pub data GenEnds (before now : D) (sink sink' : K) (steps steps' status : ℕ) : Type 0 where
    FillDone : (filled : State (Stored D)) (between : D) → WasFilled d t keys before steps filled between →
        AskEnds between now filled.tally sink sink' filled.steps steps' status → GenEnds before now sink sink' steps steps' status
    FillRefused : FillingRefused d t keys before now steps steps' status → sink' ≡ sink → GenEnds before now sink sink' steps steps' status

-- how the first half of the workload ends: with the filled and closed file and its tally, or with the device and the status
abbrev pub FillEnds : {D : Type 0} → device.Ghosts D → table.Ghosts (Stored D) Cursor → ℕ → D → ℕ → ℕ → Result (D × Tally) (D × ℕ) → Type 0
FillEnds d t keys before steps steps' (Ok (now, tally)) =
    (filled : State (Stored _)) × (WasFilled d t keys before steps filled now × (tally ≡ filled.tally) × (steps' ≡ filled.steps))
FillEnds d t keys before steps steps' (Err (now, status)) = FillingRefused d t keys before now steps steps' status

-- On a device that returns what was written

-- where the status says that the device failed, its count of faults rose
abbrev pub FaultsCaused : ℕ → ℕ → ℕ → Type 0
FaultsCaused status before now = status ≡ 5 → Rose before now

-- the device that the first half gives
abbrev pub filled_device : {D : Type 0} → Result (D × Tally) (D × ℕ) → D
filled_device (Ok filled) = filled.0
filled_device (Err refused) = refused.0

-- it caused its faults so
abbrev pub FillFaults : {D : Type 0} → device.Ghosts D → ℕ → Result (D × Tally) (D × ℕ) → Type 0
FillFaults d before (Ok filled) = (d.counts filled.0).faults ≡ before
FillFaults d before (Err refused) = FaultsCaused refused.1 before (d.counts refused.0).faults

-- a file stands for a map with the keys of the odd places, each with its value, and no other,
-- and has as many bytes as all cells of a store for so many keys
pub record IsFileOfOdd (keys : ℕ) (bytes : List ℕ) : Type 0 where
  pub map : Map
  pub stands : FileStandsFor bytes map
  pub odd : HasOdd (made keys) map
  pub bottom : ℕ
  pub suits : Suits keys 5 bottom
  pub size : length bytes ≡ file_size One bottom

-- how the workload ends on a device that tells that it is empty: with 0 the right line was written, with 4 a front of it,
-- and with both the file stands for the map that the puts and deletes leave; else it is want of memory, or the device failed
pub data EndsOnEmpty {K : Type 0} (k : sink.Ghosts K) (keys : ℕ) (sink sink' : K) (told : Option (List ℕ)) (status : ℕ) : Type 0 where
  Right : status ≡ 0 → Appended (right_line keys) (k.written sink) (k.written sink') → IsSomeAnd told (IsFileOfOdd keys) →
      EndsOnEmpty k keys sink sink' told status
  RightFront : status ≡ 4 → (n : ℕ) → Appended (take n (right_line keys)) (k.written sink) (k.written sink') →
      k.faults sink' ≡ after_fault (k.faults sink) → IsSomeAnd told (IsFileOfOdd keys) → EndsOnEmpty k keys sink sink' told status
  NoMemory : status ≡ 1 → EndsOnEmpty k keys sink sink' told status
  DeviceFailed : status ≡ 5 → EndsOnEmpty k keys sink sink' told status
