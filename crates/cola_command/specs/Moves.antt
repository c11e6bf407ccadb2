-- What the turns of a session do to its store and to the counts of its device, where none of them is faulted.
use Rattle.std.specs.Prelude.{◌≡◌, ℕ, ◌+◌, ◌≤◌, ◌<◌, false, List, [], ◌∷◌}
use Rattle.cola_device.specs.declared.device.Device as device
use Rattle.cola_spec.specs.Bounds.{put_bound}
use Rattle.cola_spec.specs.Reply as reply
use Rattle.cola_spec.specs.Reply.{Reply}
use Rattle.cola_spec.specs.Machine.{Turn}
use Rattle.cola_transfers.specs.Credit.{last_value}
use Rattle.cola_opening.specs.Counted.{Spends}
use Rattle.cola_store.specs.Store.{Stored, HasRead, geometry_of, levels_of, device_in, cache_in}
use Rattle.cola_store.specs.Sessions.{IsStoreOpened}
use Rattle.cola_store.specs.Transfers.{IsCounting, WritesFew, ReadsFew, ReadsOnce}
use Rattle.cola_command.specs.declared.place.Place.{Place}
use Rattle.cola_command.specs.declared.place.Place.TheVariants.{Open, Closing, Closed}
use Rattle.cola_command.specs.File.{Sizes, sizes_of, faults_of}
use Rattle.cola_command.specs.RunTransfers.{mutated, searched, short, opens, AsksNoRows}

-- neither a mutation was accepted, nor a key searched, nor a file opened
pub record IsQuiet (answer : Reply) : Type 0 where
  pub mutated_none : mutated answer ≡ 0
  pub searched_none : searched answer ≡ 0
  pub opens_none : opens answer ≡ false

-- a call on a store: so many mutations and searches more are counted, and the chain counts at most the reads and writes of a put
pub record CountsCall {D : Type 0} (old new : Stored D) (more_steps more_searches : ℕ) : Type 0 where
  pub opened_is : new.account.opened ≡ old.account.opened
  pub calm_is : new.account.calm ≡ old.account.calm
  pub steps_are : old.chain.accepted + more_steps < last_value → new.chain.accepted ≡ old.chain.accepted + more_steps
  pub searches_are : old.account.searches + more_searches < last_value → new.account.searches ≡ old.account.searches + more_searches
  pub reads_rise : new.chain.reads ≤ old.chain.reads + put_bound (levels_of old)
  pub writes_rise : new.chain.writes ≤ old.chain.writes + put_bound (levels_of old)

module _ {D : Type 0} (d : device.Ghosts D) where
  -- the bounds on the reads and writes of a store since its opening
  pub record TransfersFew (store : Stored D) : Type 0 where
    pub writes : IsCounting store → WritesFew d.counts store
    pub reads : HasRead d.counts store → IsCounting store → ReadsFew d.counts store
    pub reads_once : ReadsOnce d.counts store

  -- they hold of a store that is open
  abbrev pub AreFew : Place D d → Type 0
  AreFew (Open store) = TransfersFew store
  AreFew (Closing closing) = Unit {0}
  AreFew (Closed now) = Unit {0}

  -- a place whose store stays open keeps its cache
  abbrev pub KeepsCache : Place D d → Place D d → Type 0
  KeepsCache (Open old) (Open new) = cache_in new ≡ cache_in old
  KeepsCache _ _ = Unit {0}

  module _ (sizes : Sizes) (cache : ℕ) (turn : Turn) where
    -- an open store answered, and still has these sizes and its cache
    pub record Answers (old new : Stored D) : Type 0 where
      pub opens_none : opens turn.answer ≡ false
      pub calls : CountsCall old new (mutated turn.answer) (searched turn.answer)
      pub sizes_are : sizes_of (geometry_of new) ≡ sizes
      pub cache_is : cache_in new ≡ cache_in old
      pub reads_kept : AsksNoRows turn.request → HasRead d.counts old → HasRead d.counts new

    -- an open store was closed, in a write for each level and two more
    pub record Closes (store : Stored D) (now : D) : Type 0 where
      pub quiet : IsQuiet turn.answer
      pub few : TransfersFew store
      pub sizes_are : sizes_of (geometry_of store) ≡ sizes
      pub spends : Spends (d.counts (device_in store)) (d.counts now) 0 (sizes.bottom + 3) 2

    -- a closed file was opened
    pub record Reopens (before : D) (store : Stored D) : Type 0 where
      pub answer_is : turn.answer ≡ reply.Opened store.count
      pub opened : IsStoreOpened d before cache store
      pub sizes_are : sizes_of (geometry_of store) ≡ sizes

    -- a file stayed closed: nothing was called, or there was no memory for its store, which takes a read
    pub record Rests (before now : D) : Type 0 where
      pub quiet : IsQuiet turn.answer
      pub reads_rise : (d.counts now).reads ≤ (d.counts before).reads + short turn.answer
      pub writes_rise : (d.counts now).writes ≤ (d.counts before).writes

    -- a turn
    abbrev pub Moves : Place D d → Place D d → Type 0
    Moves (Open old) (Open new) = Answers old new
    Moves (Open old) (Closed now) = Closes old now
    Moves (Closed before) (Open new) = Reopens before new
    Moves (Closed before) (Closed now) = Rests before now
    Moves _ _ = ⊥

  module _ (sizes : Sizes) (cache : ℕ) where
    -- turns one after another, in which the device's count of faults stays
    abbrev pub AllMove : List Turn → Place D d → Place D d → Type 0
    AllMove [] old new = new ≡ old
    AllMove (turn ∷ turns) old new = (mid : Place D d) × (Moves sizes cache turn old mid × ((faults_of d mid ≡ faults_of d old) × AllMove turns mid new))
