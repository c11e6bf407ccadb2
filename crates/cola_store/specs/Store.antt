-- An open store: what contracts see of it, what it holds, spends and keeps, and when it stands for a map.
use Rattle.std.specs.Prelude.{◌≡◌, ℕ, ◌+◌, ◌*◌, ◌≤◌, ◌<◌, true, List, length, Option, IsSome}
use Rattle.cola_cell.specs.declared.cell.Run.{Run}
use Rattle.cola_cell.specs.Format.{stamp_limit}
use Rattle.cola_cell.specs.Held.{Held}
use Rattle.cola_cell.specs.Spent.{Spent}
use Rattle.cola_cell.specs.State.{State}
use Rattle.cola_device.specs.declared.counts.Counts.{Counts}
use Rattle.cola_device.specs.declared.device.Device as device
use Rattle.cola_layout.specs.declared.geometry.Geometry.{Geometry}
use Rattle.cola_spec.specs.Map.{Shape, Map, IsMap, count}
use Rattle.cola_table.specs.Terms.{Terms, shape}
use Rattle.cola_image.specs.Standing.{found_in}
use Rattle.cola_mutation.specs.Standing.{StandsFor}
use Rattle.cola_run.specs.Store as run
use Rattle.cola_transfers.specs.Credit.{last_value}
use Rattle.cola_chain.specs.Account.{IsPaid}
use Rattle.cola_chain.specs.Contents as chain
use Rattle.cola_chain.specs.Contents.{Contents}
use Rattle.cola_chain.specs.Runs.{visible_runs}
use Rattle.cola_store.specs.declared.account.Account.{Account}

-- its chain, how many keys it has, the last number that was given to a value, and what it counted since its opening
pub record Stored (D : Type 0) : Type 0 where
  pub chain : Contents D
  pub count : ℕ
  pub last : ℕ
  pub account : Account

-- what a store has counted at its opening, by the counts of its device
abbrev pub new_account : Counts → Account
new_account opened = record { searches = 0; opened = opened; calm = true }

-- what it holds: what its chain does
abbrev pub held_of : {D : Type 0} → (D → Option (List ℕ)) → Stored D → Held
held_of bytes store = chain.held_of bytes store.chain

-- what it spends: what its chain does
abbrev pub spent_of : {D : Type 0} → (D → Counts) → Stored D → Spent
spent_of counts store = chain.spent_of counts store.chain

-- its state: that of its chain
abbrev pub state_of : {D : Type 0} → (D → Option (List ℕ)) → (D → Counts) → Stored D → State
state_of bytes counts store = chain.state_of bytes counts store.chain

-- the faults that were met, as its device counts them
abbrev pub faults_of : {D : Type 0} → (D → Counts) → Stored D → ℕ
faults_of counts store = (spent_of counts store).faults

-- the blocks that were read and written
abbrev pub transferred : {D : Type 0} → (D → Counts) → Stored D → ℕ
transferred counts store = (spent_of counts store).turned + (spent_of counts store).written

-- what no call on it changes beside its cells and counts: its geometry, its cache, what the device keeps, its size and the bytes outside the levels on it, and how many calls it counted that neither read nor write
abbrev pub kept_of : {D K : Type 0} → (D → Option (List ℕ)) → (D → Counts) → (D → K) → Stored D → run.Kept K
kept_of bytes counts kept store = run.kept_of bytes counts kept store.chain.store

-- the same over a device, by its own words
abbrev pub kept_by : {D : Type 0} (d : device.Ghosts D) → Stored D → run.Kept d.Kept
kept_by d store = kept_of d.bytes d.counts d.kept store

-- its geometry
abbrev pub geometry_of : {D : Type 0} → Stored D → Geometry
geometry_of store = store.chain.store.geometry

-- how many levels it has
abbrev pub levels_of : {D : Type 0} → Stored D → ℕ
levels_of store = (geometry_of store).bottom + 1

-- its visible runs, from level 0 on
abbrev pub runs_of : {D : Type 0} → Stored D → List Run
runs_of store = visible_runs store.chain.clock 0 store.chain.levels

-- its terms: the format and the keys of its geometry, and its levels
abbrev pub terms_of : {D : Type 0} → Stored D → Terms
terms_of store = record { format = (geometry_of store).format; limit = (geometry_of store).keys; depth = levels_of store }

-- the shape of the maps that it may stand for
abbrev pub map_shape : {D : Type 0} → Stored D → Shape
map_shape store = shape (terms_of store)

-- what an object had counted when it was made: at most one read more than at the opening, and no fault
pub record IsMadeAfter (opened : Counts) (held : Held) : Type 0 where
  pub reads_stay : opened.reads ≤ held.fixed.made.reads
  pub reads_rise : held.fixed.made.reads ≤ opened.reads + 1
  pub no_fault : held.fixed.made.faults ≡ opened.faults

-- the writes since the opening: the one that marks the file as in use, and those of the steps of the chain, as long as no step was refused and their number does not stand at the last value of 64 bits
abbrev pub HasWritten : {D : Type 0} → (D → Counts) → Stored D → Type 0
HasWritten counts store =
    store.account.calm ≡ true → store.chain.writes < last_value →
    (spent_of counts store).written ≤ store.account.opened.writes + 1 + store.chain.writes

-- what a store is: it has the levels of its geometry, no more keys than it is for, and a last number that its format has; and its account is kept
pub record IsStored {D : Type 0} (bytes : D → Option (List ℕ)) (counts : D → Counts) (store : Stored D) : Type 0 where
  pub many : length store.chain.levels ≡ levels_of store
  pub count_fits : store.count ≤ (geometry_of store).keys
  pub last_fits : store.last ≤ stamp_limit (geometry_of store).format
  pub made : IsMadeAfter store.account.opened (held_of bytes store)
  pub paid : store.account.calm ≡ true → IsPaid bytes counts store.chain
  pub written : HasWritten counts store

-- the reads since the opening: those of the opening, those of the steps of the chain, and one for each level and search; as long as no step was refused and no number stands at the last value of 64 bits
abbrev pub HasRead : {D : Type 0} → (D → Counts) → Stored D → Type 0
HasRead counts store =
    store.account.calm ≡ true → store.chain.reads < last_value → store.account.searches < last_value →
    (spent_of counts store).turned
    ≤ store.account.opened.reads + (levels_of store + 3) + store.chain.reads + levels_of store * store.account.searches

-- the device of an open store, and how many blocks its cache keeps
abbrev pub device_in : {D : Type 0} → Stored D → D
device_in store = run.device_of store.chain.store

abbrev pub cache_in : {D : Type 0} → Stored D → ℕ
cache_in store = store.chain.store.buffers.cache.blocks

-- a store stands for a map: its device tells its bytes, its levels stand for the map, it has the map's count and last number, and the map is one of its format and keys
pub record Holds {D : Type 0} (bytes : D → Option (List ℕ)) (store : Stored D) (m : Map) : Type 0 where
  pub tells : IsSome (bytes (device_in store))
  pub stands : StandsFor (held_of bytes store) (geometry_of store).keys
      store.chain.clock store.chain.levels (found_in m)
  pub counted : store.count ≡ count m
  pub numbered : store.last ≡ m.last
  pub is_map : IsMap (map_shape store) m
