-- How a device asks for its file, and what a call makes of that.
use Rattle.std.specs.Prelude.{◌≡◌, ℕ, Bool, true, List, Option, Some, None, Result, Ok, Err, IsErr, ⊤}
use Rattle.std.specs.Borrow.{Bor}
use Rattle.std.specs.Fs.{new_options, with_read, with_write, with_create}
use Rattle.std.specs.declared.fs.options.OpenOptions.{OpenOptions}
use Rattle.std.specs.declared.io.Error.{Error}
use Rattle.cola_device.specs.declared.counts.Counts.{Counts}
use Rattle.cola_filedev.specs.declared.handle.Handle.{Handle}
use Rattle.cola_filedev.specs.declared.handle.Handle.TheVariants.{Unopened, Open, Refused}

-- the path that the first call opens, and whether it makes the file
abbrev pub Wanted : Type 0
Wanted = List ℕ × Bool

abbrev pub wanted_of : Option (Bor (List ℕ) × Bool) → Option Wanted
wanted_of None = None
wanted_of (Some wanted) = Some (wanted.0.now, wanted.1)

-- what a device over a file shows: its file, what it wants opened, and its counts
pub record Shown (O F : Type 0) : Type 0 where
  pub handle : Handle O F
  pub wanted : Option Wanted
  pub counts : Counts

-- nothing was asked of it yet
abbrev pub unused : {O F : Type 0} → Handle O F → Option Wanted → Shown O F
unused handle wanted = record { handle = handle; wanted = wanted; counts = record { faults = 0; reads = 0; writes = 0; others = 0 } }

-- for reading and writing: what the file holds stays, and it is made where it is not there if that was wanted
abbrev pub options : Bool → OpenOptions
options make = with_create (with_write (with_read new_options true) true) make

-- the openings of a type of file
abbrev pub Openings : Type 0 → Type 0 → Type 1
Openings O F = O → List ℕ → OpenOptions → Result F Error → Type 0

-- the file that an opening gave, or none
abbrev pub handle_of : {O F : Type 0} → Result F Error → Handle O F
handle_of (Ok file) = Open file
handle_of (Err error) = Refused

-- what was wanted was opened with its options, and so it was answered
pub record OpenedAs {O F : Type 0} (Opened : Openings O F) (opener : O) (wanted : Wanted) (now : Handle O F) : Type 0 where
  pub answer : Result F Error
  pub opened : Opened opener wanted.0 (options wanted.1) answer
  pub is : now ≡ handle_of answer

-- the file is opened where it was not asked for yet, and else nothing is done
abbrev pub AskedFor : {O F : Type 0} → Openings O F → Option Wanted → Handle O F → Handle O F → Type 0
AskedFor Opened (Some wanted) (Unopened opener) now = OpenedAs Opened opener wanted now
AskedFor Opened None (Unopened opener) now = now ≡ Refused
AskedFor Opened wanted (Open file) now = now ≡ Open file
AskedFor Opened wanted Refused now = now ≡ Refused

-- a device answers as its file did: with the same value, or with a fault for an error
abbrev pub SameAnswer : {T E : Type 0} → Result T Error → Result T E → Type 0
SameAnswer (Ok value) (Ok found) = found ≡ value
SameAnswer (Ok value) (Err fault) = ⊥
SameAnswer (Err error) (Ok found) = ⊥
SameAnswer (Err error) (Err fault) = ⊤

-- what is done with an open file, and how that is answered
abbrev pub Works : Type 0 → Type 0 → Type 1
Works F T = F → Result T Error → F → Type 0

-- this, and nothing else, was done with the file
pub record Worked {F T E : Type 0} (Work : Works F T) (old : F) (result : Result T E) (new : F) : Type 0 where
  pub answer : Result T Error
  pub work : Work old answer new
  pub same : SameAnswer answer result

-- the work is done with the file if it is open; a refused one is a fault, and stays refused
abbrev pub WorkedOn : {O F T E : Type 0} → Works F T → Handle O F → Result T E → Handle O F → Type 0
WorkedOn Work (Open old) result (Open new) = Worked Work old result new
WorkedOn Work Refused result Refused = IsErr result
WorkedOn Work asked result now = ⊥

-- a call: the file is asked for, and then the work is done with it
pub record Asked {O F T E : Type 0} (Opened : Openings O F) (wanted : Option Wanted) (Work : Works F T) (before : Handle O F)
    (result : Result T E) (now : Handle O F) : Type 0 where
  pub asked : Handle O F
  pub opening : AskedFor Opened wanted before asked
  pub work : WorkedOn Work asked result now
