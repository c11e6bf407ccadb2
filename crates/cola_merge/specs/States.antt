-- What steps of a merge do: to the object, to the merger, and what they spend.
use Rattle.std.specs.Prelude.{◌≡◌, ◌≢◌, ◌⊎◌, ℕ, ◌+◌, ◌*◌, ◌/◌, ◌%◌, ◌^◌, ◌<◌, ◌≤◌, ◌==◌, ⊤, ◌++◌, Bool, true, false, Option, None, Some, IsSome, Result, Ok, Err}
use Rattle.std.specs.Option.{option_map, option_to_list}
use Rattle.cola_outside.specs.Faults.{Rose}
use Rattle.cola_runs.specs.Steps.{steps}
use Rattle.cola_cell.specs.declared.cell.Reader.{Reader}
use Rattle.cola_cell.specs.declared.cell.Reader.TheVariants.{Own, Incoming, Sample}
use Rattle.cola_cell.specs.declared.cell.Cell.{Cell}
use Rattle.cola_cell.specs.declared.fault.ReadFault.{ReadFault}
use Rattle.cola_cell.specs.declared.fault.ReadFault.TheVariants as read
use Rattle.cola_cell.specs.declared.fault.PushFault.{PushFault}
use Rattle.cola_cell.specs.declared.fault.PushFault.TheVariants as push
use Rattle.cola_cell.specs.declared.fault.StepFault.{StepFault}
use Rattle.cola_cell.specs.declared.fault.StepFault.TheVariants.{Device, BadCell, Overfull}
use Rattle.cola_cell.specs.Fault.{step_of_push}
use Rattle.cola_cell.specs.Places.{slot_size}
use Rattle.cola_cell.specs.Held.{Held, IsTelling, span, as_cell}
use Rattle.cola_cell.specs.Spent.{Buffer, By, Spent, ReadCalm}
use Rattle.cola_cell.specs.State.{State}
use Rattle.cola_cell.specs.Shadows.{StaysAround}
use Rattle.cola_merge.specs.declared.aims.Feed.{Feed}
use Rattle.cola_merge.specs.declared.aims.Feed.TheVariants as feed
use Rattle.cola_merge.specs.declared.aims.Aim.{Aim}
use Rattle.cola_merge.specs.declared.aims.Progress.{Progress}
use Rattle.cola_merge.specs.declared.aims.Progress.TheVariants.{Done, More}
use Rattle.cola_merge.specs.Fetched.{Head}
use Rattle.cola_merge.specs.declared.merging.Merger.{Merger}
use Rattle.cola_cell.specs.ToldCells.{shadow_cells, IsShadowTold}
use Rattle.cola_cell.specs.Order.{key_cmp}
use Rattle.cola_merge.specs.Feeds.{part_of, feed_of, read_len, feed_cells, feed_keys, IsBadAt}
use Rattle.cola_merge.specs.Heads.{head_of, consumed, IsHead, IsReady, IsUsedUp, IsFetched, AreFetched, missing_head, missing, fetched_of, fetched, AreFeedsTold, build_of}
use Rattle.cola_merge.specs.Blocks.{Lasts, is_last, feed_left, blocks_left}
use Rattle.cola_merge.specs.Rules.{next_action, Emits}

-- the shadow of the level only grew, in its slot; no place changed but those at and behind its end
pub record Grows (old new : Held) (level : ℕ) : Type 0 where
  pub around : StaysAround old new level
  pub slot_is : (new.shadows level).slot ≡ (old.shadows level).slot
  pub len_rises : (old.shadows level).len ≤ (new.shadows level).len
  pub len_fits : (old.shadows level).len ≤ slot_size level → (new.shadows level).len ≤ slot_size level
  pub others_stay : (l s i : ℕ) → (l ≢ level) ⊎ (s ≢ (old.shadows level).slot) ⊎ (i < (old.shadows level).len) →
      new.spots l s i ≡ old.spots l s i

-- what accesses cost: the object counts their ticks too, each turns to or writes one block at most, and no count falls
pub record Spends (old new : Spent) (before after : ℕ) : Type 0 where
  pub steps_stay : before ≤ after
  pub ticked_is : (new.ticked + before) % 2 ^ 64 ≡ (old.ticked + after) % 2 ^ 64
  pub turned_stays : old.turned ≤ new.turned
  pub written_stays : old.written ≤ new.written
  pub transfers : new.turned + new.written + before ≤ old.turned + old.written + after
  pub faults_stay : old.faults ≤ new.faults

-- the buffer is not that by which this reader reads this feed
abbrev pub IsOther : Reader → Feed → Buffer → Type 0
IsOther reader (feed.Run run) buffer = buffer ≢ By reader run.level
IsOther reader (feed.Sampled run) buffer = buffer ≢ By reader run.level
IsOther reader (feed.One c) buffer = ⊤
IsOther reader feed.Nothing buffer = ⊤

-- the buffer is none of those by which the three feeds are read
pub record IsBeside (aim : Aim) (buffer : Buffer) : Type 0 where
  pub own : IsOther Own aim.own buffer
  pub incoming : IsOther Incoming aim.incoming buffer
  pub sample : IsOther Sample aim.sample buffer

-- the buffer keeps what it held of each block outside this slot of this level
abbrev pub KeepsBlocks : ℕ → ℕ → Buffer → Lasts → Lasts → Type 0
KeepsBlocks level slot buffer old new = (l s k : ℕ) → (l ≢ level) ⊎ (s ≢ slot) → is_last (new buffer) l s k ≡ is_last (old buffer) l s k

-- the cause of a refused read: the count of faults rose, or the cell of the feed at its cursor is bad
abbrev pub ReadFailed : Held → ℕ → ℕ → Feed → ℕ → ReadFault → Type 0
ReadFailed held before now feed at read.Device = Rose before now
ReadFailed held before now feed at (read.BadCell number) = IsBadAt held feed at number

-- a head was asked for: where it was accepted it is held, unless its feed is used up, by one read at most. Where it was refused nothing was held
abbrev pub Fetches : {A : Type 0} → State → State → Reader → Feed → Head → Head → ℕ → ℕ → Result A ReadFault → Type 0
Fetches old new reader feed before after from to (Ok a) =
    IsFetched feed after
    × (to + missing_head after.cell ≤ from + missing_head before.cell)
    × (to + fetched_of feed before ≤ from + fetched_of feed after)
    × (new.spent.turned + feed_left old.held.fixed.doublings new.spent.lasts reader feed after.at
    ≤ old.spent.turned + feed_left old.held.fixed.doublings old.spent.lasts reader feed before.at)
Fetches old new reader feed before after from to (Err fault) =
    ReadFailed old.held old.spent.faults new.spent.faults feed before.at fault
    × (after ≡ before)
    × (to ≡ from + 1)
    × (fetched_of feed before < read_len feed)

-- what a fetch does, whatever the answer
pub record Fetch {A : Type 0} (old new : State) (reader : Reader) (feed : Feed) (before after : Head) (from to : ℕ) (result : Result A ReadFault) : Type 0 where
  pub cells_stay : new.held ≡ old.held
  pub at_is : after.at ≡ before.at
  pub head : IsHead old.held feed after
  pub spends : Spends old.spent new.spent from to
  pub written_is : new.spent.written ≡ old.spent.written
  pub others_stay : (buffer : Buffer) → IsOther reader feed buffer →
      new.spent.lasts buffer ≡ old.spent.lasts buffer
  pub calm : ReadCalm old.spent.faults new.spent.faults result
  pub fetches : Fetches old new reader feed before after from to result

-- the shadow is as it was where no cell was emitted, and else all on the device exactly where its last block is full
pub record IsSavedByBlocks (old new : Held) (level : ℕ) : Type 0 where
  pub still : (new.shadows level).len ≡ (old.shadows level).len → new.shadows level ≡ old.shadows level
  pub grew : (old.shadows level).len < (new.shadows level).len →
      (new.shadows level).saved ≡ ((new.shadows level).len % span old == 0)

-- 1 where there is a cell
abbrev pub count_of : Option Cell → ℕ
count_of None = 0
count_of (Some c) = 1

-- the cell, if there is one, was put behind the shadow
pub record Emitted (old new : State) (level : ℕ) (cell : Option Cell) (from to : ℕ) : Type 0 where
  pub grows : Grows old.held new.held level
  pub len_is : (new.held.shadows level).len ≡ (old.held.shadows level).len + count_of cell
  pub done : IsTelling old.held →
      shadow_cells new.held level ≡ shadow_cells old.held level ++ option_to_list (option_map as_cell cell)
  pub told : IsTelling old.held → IsShadowTold old.held level → IsShadowTold new.held level
  pub saved : IsSavedByBlocks old.held new.held level
  pub spends : Spends old.spent new.spent from to
  pub ticks : to ≡ from + count_of cell
  pub turned_is : new.spent.turned ≡ old.spent.turned
  pub keeps : (buffer : Buffer) →
      KeepsBlocks level (old.held.shadows level).slot buffer old.spent.lasts new.spent.lasts
  pub written : new.spent.written + (old.held.shadows level).len / span old.held
      ≤ old.spent.written + (new.held.shadows level).len / span old.held
  pub calm : new.spent.faults ≡ old.spent.faults

-- why a push was refused, and the ticks that it made
abbrev pub PushFailed : ℕ → ℕ → ℕ → ℕ → ℕ → ℕ → PushFault → Type 0
PushFailed len before now level from to push.Device = (len < slot_size level) × Rose before now × (to ≡ from + 1)
PushFailed len before now level from to (push.Overfull number) = (len ≡ slot_size level) × (number ≡ level) × (now ≡ before) × (to ≡ from)

-- there was a cell, and its push was refused: no cell changed
pub record Unpushed (old new : State) (level : ℕ) (cell : Option Cell) (from to : ℕ) (fault : PushFault) : Type 0 where
  pub there : IsSome cell
  pub grows : Grows old.held new.held level
  pub len_is : (new.held.shadows level).len ≡ (old.held.shadows level).len
  pub done : shadow_cells new.held level ≡ shadow_cells old.held level
  pub told : IsShadowTold old.held level → IsShadowTold new.held level
  pub spends : Spends old.spent new.spent from to
  pub keeps : (buffer : Buffer) →
      KeepsBlocks level (old.held.shadows level).slot buffer old.spent.lasts new.spent.lasts
  pub written : new.spent.written ≤ old.spent.written + 1
  pub cause : PushFailed (old.held.shadows level).len old.spent.faults new.spent.faults level from to fault

-- a cell was to be emitted, if there is one
abbrev pub Emission : {A : Type 0} → State → State → ℕ → Option Cell → ℕ → ℕ → Result A PushFault → Type 0
Emission old new level cell from to (Ok a) = Emitted old new level cell from to
Emission old new level cell from to (Err fault) = Unpushed old new level cell from to fault

-- the object with its counts, a merger, and how many ticks were made
pub record MergeState : Type 0 where
  pub held : Held
  pub spent : Spent
  pub merger : Merger
  pub steps : ℕ

-- the shadow's length
abbrev pub len_of : Aim → MergeState → ℕ
len_of aim s = (s.held.shadows aim.level).len

-- the blocks turned to, and those that the feeds have still to read; blocks have 8 cells, doubled so many times
abbrev pub blocks_in_all : ℕ → Aim → MergeState → ℕ
blocks_in_all doublings aim s = s.spent.turned + blocks_left doublings s.spent.lasts aim s.merger

-- no more blocks were turned to than the feeds have fewer to read
abbrev pub TurnsWithin : Aim → MergeState → MergeState → Type 0
TurnsWithin aim s t = blocks_in_all s.held.fixed.doublings aim t ≤ blocks_in_all s.held.fixed.doublings aim s

-- no more blocks were written than the shadow has more full ones
abbrev pub WritesWithin : Aim → MergeState → MergeState → Type 0
WritesWithin aim s t = t.spent.written + len_of aim s / span s.held ≤ s.spent.written + len_of aim t / span s.held

-- what so many steps do, and a part of a step that was refused
pub record Goes (aim : Aim) (s t : MergeState) (count : ℕ) : Type 0 where
  pub ready : IsReady t.held aim t.merger
  pub grows : Grows s.held t.held aim.level
  pub consumes : consumed t.merger ≡ consumed s.merger + count
  pub rises : (reader : Reader) → (head_of s.merger reader).at ≤ (head_of t.merger reader).at
  pub emits : len_of aim t + consumed s.merger ≤ len_of aim s + consumed t.merger
  pub samples : len_of aim s + t.merger.sample.at ≤ len_of aim t + s.merger.sample.at
  pub builds : IsTelling s.held → AreFeedsTold s.held aim → build_of t.held aim t.merger
      ≡ steps key_cmp (part_of aim) (feed_cells s.held aim.own) (feed_cells s.held aim.incoming) (feed_keys s.held aim.sample) count
      (build_of s.held aim s.merger)
  pub told : IsTelling s.held → IsShadowTold s.held aim.level → IsShadowTold t.held aim.level
  pub spends : Spends s.spent t.spent s.steps t.steps
  pub lasts : (buffer : Buffer) → IsBeside aim buffer →
      KeepsBlocks aim.level aim.slot buffer s.spent.lasts t.spent.lasts

-- so many steps that were accepted
pub record Took (aim : Aim) (s t : MergeState) (count : ℕ) : Type 0 where
  pub goes : Goes aim s t count
  pub ticks : t.steps + missing t.merger ≤ s.steps + missing s.merger + 2 * count
  pub reads : t.steps + fetched aim s.merger + len_of aim s ≤ s.steps + fetched aim t.merger + len_of aim t
  pub turned : TurnsWithin aim s t
  pub written : WritesWithin aim s t
  pub saved : IsSavedByBlocks s.held t.held aim.level
  pub calm : t.spent.faults ≡ s.spent.faults

-- a step would emit a cell, and the shadow fills its slot
pub record IsOverfull (aim : Aim) (t : MergeState) (level : ℕ) : Type 0 where
  pub level_is : level ≡ aim.level
  pub full : len_of aim t ≡ slot_size aim.level
  pub fetched : AreFetched aim t.merger
  pub emits : Emits (next_action aim t.merger)

-- a cell that the merge reads next is bad, and its number
pub record HasBadHead (aim : Aim) (t : MergeState) (number : ℕ) : Type 0 where
  pub reader : Reader
  pub bad : IsBadAt t.held (feed_of aim reader) (head_of t.merger reader).at number

-- why a step was refused
abbrev pub StepCause : Aim → ℕ → MergeState → StepFault → Type 0
StepCause aim before t Device = Rose before t.spent.faults
StepCause aim before t (BadCell number) = HasBadHead aim t number
StepCause aim before t (Overfull level) = IsOverfull aim t level

-- no fault was counted, unless the answer is the device's fault
abbrev pub StepCalm : ℕ → ℕ → StepFault → Type 0
StepCalm before now Device = ⊤
StepCalm before now (BadCell number) = now ≡ before
StepCalm before now (Overfull level) = now ≡ before

-- 1 where a push may have been refused by the device
abbrev pub failed_push : StepFault → ℕ
failed_push Device = 1
failed_push (BadCell number) = 0
failed_push (Overfull level) = 0

-- so many steps that were accepted, and one that was refused
pub record Refused (aim : Aim) (s t : MergeState) (count : ℕ) (fault : StepFault) : Type 0 where
  pub goes : Goes aim s t count
  pub ticks : t.steps + missing t.merger ≤ s.steps + missing s.merger + (2 * count + 1)
  pub reads : len_of aim s ≤ slot_size aim.level →
      t.steps + fetched aim s.merger + len_of aim s
      ≤ s.steps + (read_len aim.own + read_len aim.incoming + read_len aim.sample) + slot_size aim.level
  pub pushes : t.steps + fetched aim s.merger + len_of aim s
      ≤ s.steps + (read_len aim.own + read_len aim.incoming + read_len aim.sample) + (len_of aim t + failed_push fault)
  pub written : t.spent.written + len_of aim s / span s.held ≤ s.spent.written + (len_of aim t / span s.held + 1)
  pub cause : StepCause aim s.spent.faults t fault
  pub calm : StepCalm s.spent.faults t.spent.faults fault

-- a state
abbrev pub state : State → Merger → ℕ → MergeState
state object merger steps = record { held = object.held; spent = object.spent; merger = merger; steps = steps }

-- one step of the heads, accepted or refused
abbrev pub Stepped : {A : Type 0} → Aim → MergeState → MergeState → Result A PushFault → Type 0
Stepped aim s t (Ok a) = Took aim s t 1
Stepped aim s t (Err fault) = Refused aim s t 0 (step_of_push fault)

-- one step, or none as no source cell is left; or it was refused
abbrev pub Taken : Aim → MergeState → MergeState → Result Bool StepFault → Type 0
Taken aim s t (Ok true) = Took aim s t 1
Taken aim s t (Ok false) = Took aim s t 0 × IsUsedUp aim t.merger
Taken aim s t (Err fault) = Refused aim s t 0 fault

-- steps of a quota: all of it and source cells are left; or as many as there were source cells; or some, and one was refused
abbrev pub TookQuota : Aim → MergeState → MergeState → ℕ → Result Progress StepFault → Type 0
TookQuota aim s t quota (Ok More) = Took aim s t quota × (IsUsedUp aim t.merger → ⊥)
TookQuota aim s t quota (Ok Done) = (count : ℕ) × (count ≤ quota) × Took aim s t count × IsUsedUp aim t.merger
TookQuota aim s t quota (Err fault) = (count : ℕ) × (count < quota) × Refused aim s t count fault

-- a call that took steps of a quota
pub record TakesQuota (aim : Aim) (s t : MergeState) (quota : ℕ) (result : Result Progress StepFault) : Type 0 where
  pub steps : TookQuota aim s t quota result
