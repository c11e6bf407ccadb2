-- The home of a session over a file, on every device and every file: why `close` and `open` are answered so, and what every line keeps.
use Rattle.std.specs.Prelude.{◌≡◌, ℕ, nat_eq, ◌≤◌, Bool, true, false, ◌&&◌, ◌||◌, not, if◌then◌else◌, Result, Ok, Err}
use Rattle.cola_outside.specs.Told.{Both}
use Rattle.cola_cell.specs.declared.format.Format.{Format}
use Rattle.cola_device.specs.declared.device.Device as device
use Rattle.cola_spec.specs.Reply as reply
use Rattle.cola_spec.specs.Reply.{Reply}
use Rattle.cola_spec.specs.Machine.{State}
use Rattle.cola_store.specs.declared.closing.Closing.{Closing}
use Rattle.cola_store.specs.declared.fault.OpenFault.{OpenFault}
use Rattle.cola_store.specs.declared.fault.OpenFault.TheVariants as fault
use Rattle.cola_command.specs.declared.place.Place.{Place}
use Rattle.cola_command.specs.declared.place.Place.TheVariants as place
use Rattle.cola_command.specs.declared.file.Session.{Session}
use Rattle.cola_store.specs.Store.{Stored}
use Rattle.cola_store.specs.Sessions.{OpensStore, IsStoreOpened, ClosesStore}
use Rattle.cola_workload.specs.Workload.{ClosesAgain}
use Rattle.cola_command.specs.File.{Sizes, shape, KeepsBehind, device_of, table_in, format_of, faults_of, IsOfSizes, IsAt}
use Rattle.cola_session.specs.Home.{Home}
use Rattle.cola_command.specs.Moves.{KeepsCache, AreFew}

-- Replies

-- what is answered where a file was not opened again
abbrev pub refused_reply : OpenFault → Reply
refused_reply fault.NotStore = reply.Refused reply.NotStore
refused_reply fault.NotClosed = reply.Refused reply.NotClosed
refused_reply fault.Small = reply.Refused reply.Small
refused_reply fault.Device = reply.Failed reply.Fault
refused_reply fault.OutOfMemory = reply.Refused reply.Memory
refused_reply (fault.BadCell cell) = reply.Failed (reply.Damaged cell)

-- Causes

module _ {D : Type 0} (d : device.Ghosts D) where
  -- an attempt to close, as it is answered
  abbrev pub ClosesWith : Result D (Closing D d) → Reply → Place D d → Type 0
  ClosesWith (Ok now) answer new = (answer ≡ reply.Closed) × (new ≡ place.Closed now)
  ClosesWith (Err closing) answer new = (answer ≡ reply.Failed reply.Fault) × (new ≡ place.Closing closing)

  -- an opening, as it is answered
  abbrev pub OpensWith : Result (Stored D) (D × OpenFault) → Reply → Place D d → Type 0
  OpensWith (Ok store) answer new = (answer ≡ reply.Opened store.count) × (new ≡ place.Open store)
  OpensWith (Err refusal) answer new = (answer ≡ refused_reply refusal.1) × (new ≡ place.Closed refusal.0)

  -- `close` is answered by an attempt to close what is not closed
  abbrev pub CloseCause : Place D d → Reply → Place D d → Type 0
  CloseCause (place.Open store) answer new = (attempt : Result D (Closing D d)) × (ClosesStore d store attempt × ClosesWith attempt answer new)
  CloseCause (place.Closing closing) answer new = (attempt : Result D (Closing D d)) × (ClosesAgain d closing attempt × ClosesWith attempt answer new)
  CloseCause (place.Closed now) answer new = (answer ≡ reply.Already) × (new ≡ place.Closed now)

  -- `open` is answered by an opening of what is closed
  abbrev pub OpenCause : ℕ → Place D d → Reply → Place D d → Type 0
  OpenCause cache (place.Open store) answer new = (answer ≡ reply.Already) × (new ≡ place.Open store)
  OpenCause cache (place.Closing closing) answer new = (answer ≡ reply.Already) × (new ≡ place.Closing closing)
  OpenCause cache (place.Closed before) answer new = (opening : Result (Stored D) (D × OpenFault)) × (OpensStore d before cache opening × OpensWith opening answer new)

-- Sessions

module _ {D : Type 0} (d : device.Ghosts D) where
  -- what a line keeps on every device: what the device keeps, and, where it tells its bytes, their number and those behind the cells; a store that stays open keeps its cache; and the device's count of faults does not fall
  pub record Keeps (old new : Place D d) : Type 0 where
    pub kept : d.kept (device_of new) ≡ d.kept (device_of old)
    pub faults_stay : faults_of d old ≤ faults_of d new
    pub sizes : (sizes : Sizes) → IsOfSizes d sizes old → IsOfSizes d sizes new
    pub behind : (sizes : Sizes) → IsOfSizes d sizes old → Both (d.bytes (device_of old)) (d.bytes (device_of new)) (KeepsBehind sizes)
    pub cache_stays : KeepsCache d old new

  -- a session over a file of these sizes is at a state
  pub record SessionAt (sizes : Sizes) (session : Session D d) (state : State) : Type 0 where
    pub format_is : format_of session.place session.format ≡ sizes.format
    pub at : IsAt d sizes session.place state

-- the format of lines where no store is open: the last one
abbrev pub KeepsFormat : {D : Type 0} {d : device.Ghosts D} → Place D d → Format → Format → Type 0
KeepsFormat (place.Open store) now before = Unit {0}
KeepsFormat (place.Closing closing) now before = now ≡ before
KeepsFormat (place.Closed device) now before = now ≡ before

-- what every line keeps of a session: what its place does, its cache, whether costs are printed, and the last format
pub record KeepsSession {D : Type 0} (d : device.Ghosts D) (old new : Session D d) : Type 0 where
  pub place : Keeps d old.place new.place
  pub cache_is : new.cache ≡ old.cache
  pub cost_is : new.cost ≡ old.cost
  pub format_is : KeepsFormat new.place new.format (format_of old.place old.format)

-- the home of a session over a file: for a file of these sizes it is at the state of its place
abbrev pub file_home : {D : Type 0} → (d : device.Ghosts D) → Home (Session D d) (Stored D)
file_home d = record {
  Known = Sizes;
  shape = shape;
  at = SessionAt d;
  table = λ session. table_in session.place;
  with_table = λ old store new. new.place ≡ place.Open store;
  format = λ session. format_of session.place session.format;
  cost = λ session. session.cost;
  faults = λ session. faults_of d session.place;
  cut_off = λ session. session.cut_off;
  keeps = KeepsSession d;
  closes = λ old answer new. CloseCause d old.place answer new.place;
  opens = λ old answer new. OpenCause d old.cache old.place answer new.place;
  few = λ session. AreFew d session.place;
}

-- Beginning and ending

module _ {D : Type 0} (d : device.Ghosts D) (before : D) (cache : ℕ) (cost : Bool) where
  -- a session begins with an open store
  pub record Begun (session : Session D d) : Type 0 where
    pub store : Stored D
    pub opened : IsStoreOpened d before cache store
    pub place_is : session.place ≡ place.Open store
    pub cache_is : session.cache ≡ cache
    pub cost_is : session.cost ≡ cost
    pub none_cut : session.cut_off ≡ false

  -- what the beginning of a session answers: what the opening of its store does
  abbrev pub Begins : Result (Session D d) (D × OpenFault) → Type 0
  Begins (Ok session) = Begun session
  Begins (Err refusal) = OpensStore d before cache (Err refusal)

-- the device after the beginning of a session
abbrev pub device_begun : {D : Type 0} {d : device.Ghosts D} → Result (Session D d) (D × OpenFault) → D
device_begun (Ok session) = device_of session.place
device_begun (Err refusal) = refusal.0

-- whether a store is closed
abbrev pub is_closed : {D : Type 0} {d : device.Ghosts D} → Place D d → Bool
is_closed (place.Open store) = false
is_closed (place.Closing closing) = false
is_closed (place.Closed now) = true

-- the sessions of lines: the first is the one that the opening gave, the lines led from it to the last, and that one was closed once more, with this answer, and gave the device
pub record WasLed {D : Type 0} (d : device.Ghosts D) (device device' : D) (cache : ℕ) (cost : Bool) (Led : Session D d → Session D d → Type 0) (answer : Reply) : Type 0 where
  pub first : Session D d
  pub begun : Begun d device cache cost first
  pub last : Session D d
  pub led : Led first last
  pub few : AreFew d last.place
  pub place : Place D d
  pub close : CloseCause d last.place answer place
  pub device_is : device' ≡ device_of place

-- a session ends: `close` is answered once more, with no reply, and the device comes back with whether the store is closed
pub record Ended {D : Type 0} (d : device.Ghosts D) (old : Session D d) (device : D) (closed : Bool) : Type 0 where
  pub place : Place D d
  pub answer : Reply
  pub cause : CloseCause d old.place answer place
  pub device_is : device ≡ device_of place
  pub closed_is : closed ≡ is_closed place

-- the status after the end: 5 in place of 0 where the store could not be closed, or the last opening met a fault
abbrev pub end_status : ℕ → Bool → Bool → ℕ
end_status status cut_off closed = if nat_eq status 0 && (cut_off || not closed) then 5 else status

-- a session was ended, and that is the status then
pub record EndsAfter {D : Type 0} (d : device.Ghosts D) (session : Session D d) (status : ℕ) (device' : D) (status' : ℕ) : Type 0 where
  pub closed : Bool
  pub ended : Ended d session device' closed
  pub kept : d.kept device' ≡ d.kept (device_of session.place)
  pub few : AreFew d session.place
  pub status_is : status' ≡ end_status status session.cut_off closed
