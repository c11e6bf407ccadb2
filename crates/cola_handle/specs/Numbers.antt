-- The numbers of the answers in C, which are those of include/cola.h, and the answer of each call.
use Rattle.std.specs.Prelude.{ℕ, Bool, true, false, List, ◌++◌, length, drop, Option, Some, None, Result, Ok, Err}
use Rattle.cola_handle.specs.declared.answer.Answer.{Answer}
use Rattle.cola_handle.specs.declared.answer.Answer.TheVariants.{Done, Absent, Other, Full, Worn, Closed, InUse, Length, Options, NotEmpty, NotStore, Small, NotClosed, BadCell, Overfull, Memory}
use Rattle.cola_kv.specs.declared.error.Error.{Error}
use Rattle.cola_kv.specs.declared.error.Error.TheVariants as error
use Rattle.cola_table.specs.declared.Put.{Put}
use Rattle.cola_table.specs.declared.Put.TheVariants as put
use Rattle.cola_table.specs.declared.PutIf.{PutIf}
use Rattle.cola_table.specs.declared.PutIf.TheVariants as put_if

-- the number of an answer; 8 and 17 are those of answers that the C side gives by itself
abbrev pub number : Answer → ℕ
number Done = 0
number Absent = 1
number Other = 2
number Full = 3
number Worn = 4
number Closed = 5
number InUse = 6
number Length = 7
number Options = 9
number NotEmpty = 10
number NotStore = 11
number Small = 12
number NotClosed = 13
number BadCell = 14
number Overfull = 15
number Memory = 16

-- the answer that tells an error; a device over lent bytes does not fail, so its error has no answer of its own
abbrev pub refused : Error → Answer
refused error.KeyLength = Length
refused error.ValueLength = Length
refused error.Keys = Options
refused error.Block = Options
refused error.NotEmpty = NotEmpty
refused error.NotStore = NotStore
refused error.Small = Small
refused error.NotClosed = NotClosed
refused (error.BadCell cell) = BadCell
refused error.OutOfMemory = Memory
refused error.Full = Full
refused error.Worn = Worn
refused (error.Overfull level) = Overfull
refused error.Device = Small

-- of a call that finds something or nothing
abbrev pub found : {A : Type 0} → Result (Option A) Error → Answer
found (Ok (Some a)) = Done
found (Ok None) = Absent
found (Err why) = refused why

-- of a put
abbrev pub made : {A : Type 0} → Result A Error → Answer
made (Ok a) = Done
made (Err why) = refused why

-- of a put that depends on the stamp seen
abbrev pub made_if : Result PutIf Error → Answer
made_if (Ok put_if.New) = Done
made_if (Ok (put_if.Old value)) = Done
made_if (Ok (put_if.Other stamp)) = Other
made_if (Err why) = refused why

-- What a call leaves in a caller's place, which had this: a refused call leaves it as it was

-- whether a put replaced a value
abbrev pub was_told : Result Put Error → Bool → Bool
was_told (Ok put.New) old = false
was_told (Ok (put.Old value)) old = true
was_told (Err why) old = old

-- the stamp that a key has, where it is another than the one seen
abbrev pub other_told : Result PutIf Error → ℕ → ℕ
other_told (Ok put_if.New) old = old
other_told (Ok (put_if.Old value)) old = old
other_told (Ok (put_if.Other stamp)) old = stamp
other_told (Err why) old = old

-- a value that was found, in front of what stood there
abbrev pub value_told : Result (Option (List ℕ)) Error → List ℕ → List ℕ
value_told (Ok (Some value)) old = value ++ drop (length value) old
value_told (Ok None) old = old
value_told (Err why) old = old

-- the length of a value that was found
abbrev pub length_told : Result (Option (List ℕ)) Error → ℕ → ℕ
length_told (Ok (Some value)) old = length value
length_told (Ok None) old = old
length_told (Err why) old = old

-- a stamp that was found
abbrev pub stamp_told : Result (Option ℕ) Error → ℕ → ℕ
stamp_told (Ok (Some stamp)) old = stamp
stamp_told (Ok None) old = old
stamp_told (Err why) old = old
