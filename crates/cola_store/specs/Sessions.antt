-- What opening and closing a store answer, with its chain, its count, its last number and its account.
use Rattle.std.specs.Prelude.{◌≡◌, ◌⊎◌, ℕ, true, List, Result, Ok, Err, IfSome, MatchResult}
use Rattle.std.specs.Result.{IsErrAnd}
use Rattle.cola_outside.specs.Faults.{Rose}
use Rattle.cola_device.specs.declared.device.Device as device
use Rattle.cola_layout.specs.declared.header.Header.{Header}
use Rattle.cola_layout.specs.Marks.{all_numbers}
use Rattle.cola_level.specs.Marks.{all_marks_of}
use Rattle.cola_spec.specs.Map.{Map}
use Rattle.cola_image.specs.Standing.{FileStandsFor}
use Rattle.cola_run.specs.Store as run
use Rattle.cola_store.specs.declared.closing.Closing.{Closing}
use Rattle.cola_store.specs.declared.fault.OpenFault.{OpenFault}
use Rattle.cola_store.specs.declared.fault.OpenFault.TheVariants.{Device, OutOfMemory}
use Rattle.cola_store.specs.Store.{Stored, new_account, Holds, HasRead, geometry_of}
use Rattle.cola_store.specs.Runs.{StoreStandsFor}
use Rattle.cola_store.specs.Open.{IsOpened, Opens}
use Rattle.cola_store.specs.Close.{IsClosed, StillOwes}

-- a header is that of a closed store: it has its geometry, its count, its last number, its clock and the marks of its levels
pub record IsHeaderOf {D : Type 0} (store : Stored D) (header : Header) : Type 0 where
  pub closed_is : header.closed ≡ true
  pub geometry_is : header.geometry ≡ geometry_of store
  pub count_is : header.count ≡ store.count
  pub last_is : header.last ≡ store.last
  pub clock_is : header.clock ≡ store.chain.clock
  pub marks_are : all_numbers header.levels.items ≡ all_marks_of store.chain.levels

module _ {D : Type 0} (d : device.Ghosts D) where
  -- a store that was not closed yet owes a map to its file
  abbrev pub Owes : Closing D d → Map → Type 0
  Owes closing m = StoreStandsFor closing.header (run.held_of d.bytes closing.runs) m

  -- where a map is owed, the file stands for it after the closing, or it is owed still
  abbrev pub PaysMap : Closing D d → Result D (Closing D d) → Type 0
  PaysMap closing result = (m : Map) → Owes closing m → MatchResult result
      (λ now. IfSome (d.bytes now) (λ bytes. FileStandsFor bytes m)) (λ now. Owes now m)

  -- the store holds whichever map these bytes stand for
  abbrev pub HoldsFile : Stored D → List ℕ → Type 0
  HoldsFile store bytes = (m : Map) → FileStandsFor bytes m → Holds d.bytes store m

  -- these bytes stand for whichever map the store held
  abbrev pub StandsForStore : Stored D → List ℕ → Type 0
  StandsForStore store bytes = (m : Map) → Holds d.bytes store m → FileStandsFor bytes m

  -- the store is open: its cells are those of the file, it has what the header says, nothing is counted yet but what the device had read, written and refused, and where the file stood for a map, the store holds it
  pub record IsStoreOpened (before : D) (cache : ℕ) (store : Stored D) : Type 0 where
    pub header : Header
    pub opened : IsOpened d before cache store.chain.store header
    pub header_is : IsHeaderOf store header
    pub numbers : (store.chain.accepted ≡ 0) × (store.chain.reads ≡ 0) × (store.chain.writes ≡ 0)
    pub account_is : store.account ≡ new_account (record (d.counts before) { others = 0 })
    pub holds : IfSome (d.bytes before) (HoldsFile store)
    pub reads : HasRead d.counts store

  -- what an opening answered, with its cause, and what it left
  abbrev pub OpensStore : D → ℕ → Result (Stored D) (D × OpenFault) → Type 0
  OpensStore before cache (Ok store) = IsStoreOpened before cache store
  OpensStore before cache (Err refusal) = Opens d before cache (Err refusal)

  -- the device after an opening
  abbrev pub device_of : Result (Stored D) (D × OpenFault) → D
  device_of (Ok store) = run.device_of store.chain.store
  device_of (Err refusal) = refusal.0

  -- the store was closed: its file has its header and its cells, and stands for the map that the store held
  pub record IsStoreClosed (store : Stored D) (now : D) : Type 0 where
    pub header : Header
    pub header_is : IsHeaderOf store header
    pub closed : IsClosed d header store.chain.store now
    pub stands : IfSome (d.bytes now) (StandsForStore store)

  -- the device failed, and the header and the cells are owed still, for the map that the store held
  pub record IsStoreOwed (store : Stored D) (closing : Closing D d) : Type 0 where
    pub header_is : IsHeaderOf store closing.header
    pub still : StillOwes d closing.header store.chain.store closing.runs closing.header
    pub owes : (m : Map) → Holds d.bytes store m → Owes closing m

  -- what an attempt to close a store answered
  abbrev pub ClosesStore : Stored D → Result D (Closing D d) → Type 0
  ClosesStore store (Ok now) = IsStoreClosed store now
  ClosesStore store (Err closing) = IsStoreOwed store closing

  -- Laws

  -- an opening was refused by the device, whose count of faults rose
  abbrev pub MetFault : D → D × OpenFault → Type 0
  MetFault before refusal = (refusal.1 ≡ Device) × Rose (d.counts before).faults (d.counts refusal.0).faults

  -- it gave a store that holds the map, or there was no memory for one, or the device failed
  abbrev pub OpensTo : D → Map → Result (Stored D) (D × OpenFault) → Type 0
  OpensTo before m result = MatchResult result (λ store. Holds d.bytes store m)
      (λ refusal. (refusal.1 ≡ OutOfMemory) ⊎ MetFault before refusal)

  -- it was refused for this reason, or the device failed
  abbrev pub RefusesAs : D → OpenFault → Result (Stored D) (D × OpenFault) → Type 0
  RefusesAs before fault result = IsErrAnd result (λ refusal. (refusal.1 ≡ fault) ⊎ MetFault before refusal)
