-- Laws of what a device asks of its file, for files of any type.
use Rattle.std.specs.Prelude.{◌≡◌, ℕ, ◌+◌, ◌≤◌, Bool, true, false, List, length, take, drop, Option, Some, Result, Ok, Err, IsErr, MatchResult, OnOk}
use Rattle.std.specs.Fs.{asks_read, asks_write, asks_append, asks_truncate, asks_create, asks_create_new}
use Rattle.std.specs.declared.io.Error.{Error}
use Rattle.cola_device.specs.declared.device.DeviceFault.{DeviceFault}
use Rattle.cola_device.specs.Bytes.{part, splice}
use Rattle.cola_filedev.specs.declared.handle.Handle.{Handle}
use Rattle.cola_filedev.specs.declared.handle.Handle.TheVariants.{Unopened, Open}
use Rattle.cola_filedev.specs.Handle.{IsRefused}
use Rattle.cola_filedev.specs.Opening.{Wanted, Openings, Works, options, Asked}
use Rattle.cola_filedev.specs.Work.{CallAt, InPieces, Takes, Put, Syncs, Written, Cuts, Laid}

-- what is opened is read and written, and made where that is wanted; it is not emptied, and not appended to
pub record AsWanted (make : Bool) : Type 0 where
  pub reads : asks_read (options make) ≡ true
  pub writes : asks_write (options make) ≡ true
  pub makes : asks_create (options make) ≡ make
  pub appends_not : asks_append (options make) ≡ false
  pub empties_not : asks_truncate (options make) ≡ false
  pub may_be_there : asks_create_new (options make) ≡ false

abbrev pub OpensAsWanted : Type 0
OpensAsWanted = (make : Bool) → AsWanted make

-- what a refusal leaves: a fault, and a refused file
abbrev pub LeftRefused : {O F T : Type 0} → Result T DeviceFault → Handle O F → Type 0
LeftRefused result now = IsErr result × IsRefused now

-- a refused opening is a fault, and so is each call after it
pub record StaysRefused {O F T : Type 0} (Opened : Openings O F) (Work : Works F T) : Type 0 where
  pub opening : (wanted : Wanted) (opener : O) (result : Result T DeviceFault) (now : Handle O F) →
      (call : Asked Opened (Some wanted) Work (Unopened opener) result now) → IsErr call.opening.answer → LeftRefused result now
  pub later : (wanted : Option Wanted) (before now : Handle O F) (result : Result T DeviceFault) →
      IsRefused before → Asked Opened wanted Work before result now → LeftRefused result now

-- the file was open, and was answered so itself
pub record CarriedOut {O F T : Type 0} (Work : Works F T) (value : T) (now : Handle O F) : Type 0 where
  pub old : F
  pub new : F
  pub left : now ≡ Open new
  pub work : Work old (Ok value) new

abbrev pub HidesNone : {O F T : Type 0} → Openings O F → Works F T → Type 0
HidesNone Opened Work =
    (wanted : Option Wanted) (before now : Handle _ _) (value : _) →
    Asked {E = DeviceFault} Opened wanted Work before (Ok value) now → CarriedOut Work value now

-- the cuts of a file that has a size: they set it, or leave it
abbrev pub Sets : {F : Type 0} → Cuts F → (F → ℕ) → Type 0
Sets Cut size_of =
    (old new : _) (size : ℕ) (answer : Result (Unit {0}) Error) → Cut old size answer new →
    MatchResult answer (λ _. size_of new ≡ size) (λ _. size_of new ≡ size_of old)

abbrev pub LaysOutTheSize : {F : Type 0} → Cuts F → Type 0
LaysOutTheSize Cut =
    (size_of : _ → ℕ) → Sets Cut size_of → (old new : _) (size : ℕ) → Laid Cut size old (Ok tt) new → size_of new ≡ size

abbrev pub RefusedLayoutIsSmall : {F : Type 0} → Cuts F → Type 0
RefusedLayoutIsSmall Cut =
    (size_of : _ → ℕ) → Sets Cut size_of → (old new : _) (size : ℕ) (error : Error) → size_of old ≤ size →
    Laid Cut size old (Err error) new → size_of new ≤ size

-- the reads of a file that has bytes: they give some of those at their place, and leave all
pub record GivesItsOwn {F : Type 0} (Gave : CallAt F) (bytes_of : F → List ℕ) : Type 0 where
  pub stay : (old new : F) (at : ℕ) (before after : List ℕ) (answer : Result ℕ Error) →
      Gave old at before answer after new → bytes_of new ≡ bytes_of old
  pub given : (old new : F) (at count : ℕ) (before after : List ℕ) →
      Gave old at before (Ok count) after new → take count after ≡ part (bytes_of old) at count
  pub count : (old new : F) (at count : ℕ) (before after : List ℕ) →
      Gave old at before (Ok count) after new → count ≤ length after

abbrev pub ReadsWhole : {F : Type 0} → CallAt F → Type 0
ReadsWhole Gave =
    (bytes_of : _ → List ℕ) → GivesItsOwn Gave bytes_of →
    (old new : _) (at : ℕ) (before after : List ℕ) (answer : Result (Unit {0}) Error) → InPieces Gave old at before answer after new →
    (bytes_of new ≡ bytes_of old) × OnOk answer (after ≡ part (bytes_of old) at (length after))

-- the writes of a file that has bytes: they put some of theirs in their place, and an error leaves all
pub record TakesItsOwn {F : Type 0} (Took : Takes F) (bytes_of : F → List ℕ) : Type 0 where
  pub taken : (old new : F) (at count : ℕ) (from : List ℕ) →
      Took old at from (Ok count) new → bytes_of new ≡ splice (bytes_of old) at (take count from)
  pub count : (old new : F) (at count : ℕ) (from : List ℕ) →
      Took old at from (Ok count) new → count ≤ length from
  pub stay : (old new : F) (at : ℕ) (from : List ℕ) (error : Error) →
      Took old at from (Err error) new → bytes_of new ≡ bytes_of old

-- its syncs leave all
abbrev pub SyncsItsOwn : {F : Type 0} → Syncs F → (F → List ℕ) → Type 0
SyncsItsOwn Synced bytes_of = (old new : _) (answer : Result (Unit {0}) Error) → Synced old answer new → bytes_of new ≡ bytes_of old

abbrev pub WritesWhole : {F : Type 0} → Takes F → Syncs F → Type 0
WritesWhole Took Synced =
    (bytes_of : _ → List ℕ) → TakesItsOwn Took bytes_of → SyncsItsOwn Synced bytes_of →
    (old new : _) (at : ℕ) (from : List ℕ) (answer : Result (Unit {0}) Error) → at + length from ≤ length (bytes_of old) →
    Written Took Synced old at from answer new → OnOk answer (bytes_of new ≡ splice (bytes_of old) at from)

-- what a write from byte 0 on did to the header of its file: it was refused and left it, or all else of it stood in the file,
-- and was synced, before any byte of the header was written
pub data HeaderLast {F : Type 0} (Took : Takes F) (Synced : Syncs F) (bytes_of : F → List ℕ) (old : F) (from : List ℕ)
    : Result (Unit {0}) Error → F → Type 0 where
  waits : {new : F} {error : Error} → take 512 (bytes_of new) ≡ take 512 (bytes_of old) →
      HeaderLast Took Synced bytes_of old from (Err error) new
  follows : {behind synced new : F} {answer : Result (Unit {0}) Error} →
      bytes_of behind ≡ splice (bytes_of old) 512 (drop 512 from) → Synced behind (Ok tt) synced →
      Put Took synced 0 (take 512 from) answer new → HeaderLast Took Synced bytes_of old from answer new

abbrev pub HeaderIsLast : {F : Type 0} → Takes F → Syncs F → Type 0
HeaderIsLast Took Synced =
    (bytes_of : _ → List ℕ) → TakesItsOwn Took bytes_of → SyncsItsOwn Synced bytes_of →
    (old new : _) (from : List ℕ) (answer : Result (Unit {0}) Error) → length from ≤ length (bytes_of old) →
    Written Took Synced old 0 from answer new → HeaderLast Took Synced bytes_of old from answer new
