-- What the calls on shadows do to the cells, and what they spend.
use Rattle.std.specs.Prelude.{◌≡◌, ◌≢◌, ◌⊎◌, ℕ, ◌+◌, ◌%◌, ◌≤◌, ◌<◌, ◌==◌, true, false, ⊤, Option, None, Some, Result, Ok, Err, is_ok, IsTrue}
use Rattle.cola_outside.specs.Faults.{Rose}
use Rattle.cola_cell.specs.declared.cell.Cell.{Cell}
use Rattle.cola_cell.specs.declared.fault.PushFault.{PushFault}
use Rattle.cola_cell.specs.declared.fault.PushFault.TheVariants.{Device, Overfull}
use Rattle.cola_cell.specs.declared.sink.Shadow.{Shadow}
use Rattle.cola_cell.specs.Places.{slot_size, Block, block_of}
use Rattle.cola_cell.specs.Held.{Held, is_untold, with_cell, as_cell, span, IsElsewhere}
use Rattle.cola_cell.specs.Spent.{Buffer, Spent, Ticks}
use Rattle.cola_cell.specs.State.{State}

-- an empty shadow in this slot: there is nothing that could be lost
abbrev pub emptied : ℕ → Shadow
emptied slot = record { slot = slot; len = 0; saved = true }

-- the shadow is on the device, or its level's slots are smaller than a block
pub record IsKept (held : Held) (level : ℕ) : Type 0 where
  pub is : (IsTrue (held.shadows level).saved) ⊎ (slot_size level < span held)

-- all but one shadow stay, and that which no call changes; what is told stays told, and what is not stays so
pub record StaysAround (old new : Held) (level : ℕ) : Type 0 where
  pub fixed_is : new.fixed ≡ old.fixed
  pub shadows_stay : (l : ℕ) → l ≢ level → new.shadows l ≡ old.shadows l
  pub telling_is : (l s i : ℕ) → is_untold (new.spots l s i) ≡ is_untold (old.spots l s i)

-- a restart: the level's shadow is empty and stands in this slot. The cells of the shadow that is given up stay where it was kept
pub record Restarts (old new : Held) (level slot : ℕ) : Type 0 where
  pub around : StaysAround old new level
  pub shadow_is : new.shadows level ≡ emptied slot
  pub others_stay : (l s i : ℕ) → (l ≢ level) ⊎ (s ≢ (old.shadows level).slot) ⊎ ((old.shadows level).len ≤ i) → new.spots l s i ≡ old.spots l s i
  pub kept_stay : IsKept old level → (l s i : ℕ) → new.spots l s i ≡ old.spots l s i

-- a shadow after a push: one cell longer, and on the device exactly where its last block is full; a device's fault leaves the cells and says that they may not all be on the device
abbrev pub after_push : {A : Type 0} → ℕ → Shadow → Result A PushFault → Shadow
after_push span shadow (Ok _) = record { slot = shadow.slot; len = shadow.len + 1; saved = (shadow.len + 1) % span == 0 }
after_push span shadow (Err Device) = record { slot = shadow.slot; len = shadow.len; saved = false }
after_push span shadow (Err (Overfull _)) = shadow

-- what a push says by its answer: the cell stands at the shadow's end where there was room; or the device failed where there was room; or there was none, and nothing changed
abbrev pub PushAnswers : {A : Type 0} (old new : State) (level : ℕ) (cell : Cell) → Result A PushFault → Type 0
PushAnswers old new level cell (Ok _) =
    ((old.held.shadows level).len < slot_size level)
    × (new.held.spots level (old.held.shadows level).slot (old.held.shadows level).len
    ≡ with_cell (old.held.spots level (old.held.shadows level).slot (old.held.shadows level).len) (as_cell cell))
PushAnswers old new level cell (Err Device) = ((old.held.shadows level).len < slot_size level) × Rose old.spent.faults new.spent.faults
PushAnswers old new level cell (Err (Overfull number)) =
    ((old.held.shadows level).len ≡ slot_size level) × (number ≡ level) × (new.held ≡ old.held) × (new.spent ≡ old.spent)

-- no fault was counted, unless the answer is the device's fault
abbrev pub WriteCalm : {A : Type 0} (before now : ℕ) → Result A PushFault → Type 0
WriteCalm before now (Ok _) = now ≡ before
WriteCalm before now (Err Device) = ⊤
WriteCalm before now (Err (Overfull _)) = now ≡ before

-- a push: what it answers, and that no place but the shadow's end changes
pub record Pushes {A : Type 0} (old new : State) (level : ℕ) (cell : Cell) (result : Result A PushFault) : Type 0 where
  pub around : StaysAround old.held new.held level
  pub answer : PushAnswers old new level cell result
  pub calm : WriteCalm old.spent.faults new.spent.faults result
  pub shadow_is : new.held.shadows level ≡ after_push (span old.held) (old.held.shadows level) result
  pub others_stay : (l s i : ℕ) → IsElsewhere level (old.held.shadows level).slot (old.held.shadows level).len l s i →
      new.held.spots l s i ≡ old.held.spots l s i

-- the ticks of a push: none where there was no room
abbrev pub push_ticks : {A : Type 0} → Result A PushFault → ℕ
push_ticks (Ok _) = 1
push_ticks (Err Device) = 1
push_ticks (Err (Overfull _)) = 0

-- a buffer has the block that it had, or none where that is the block which was written
abbrev pub Forgets : Block → Option Block → Option Block → Type 0
Forgets block before now = (now ≡ before) ⊎ ((before ≡ Some block) × (now ≡ None))

-- nothing was written, and each buffer has the block that it had
pub record WritesNothing (old new : Spent) : Type 0 where
  pub written_is : new.written ≡ old.written
  pub lasts_stay : (buffer : Buffer) → new.lasts buffer ≡ old.lasts buffer

-- a call on a shadow that makes so many ticks and writes at most this block
pub record Writes (old new : Spent) (ticks : ℕ) (block : Block) : Type 0 where
  pub faults_stay : old.faults ≤ new.faults
  pub ticks_made : Ticks old.ticked new.ticked ticks
  pub turned_is : new.turned ≡ old.turned
  pub written_stays : old.written ≤ new.written
  pub written_rises : new.written ≤ old.written + 1
  pub lasts_forget : (buffer : Buffer) → Forgets block (old.lasts buffer) (new.lasts buffer)

-- what a push spends: it writes only where it fills a block, or would
pub record PushSpends {A : Type 0} (old new : State) (level : ℕ) (result : Result A PushFault) : Type 0 where
  pub writes : Writes old.spent new.spent (push_ticks result) (block_of (span old.held) level (old.held.shadows level).slot (old.held.shadows level).len)
  pub only_full : ((old.held.shadows level).len + 1) % span old.held ≢ 0 → WritesNothing old.spent new.spent

-- what a finish says by its answer: the device's fault has its cause and comes only where something was to be written
abbrev pub FinishAnswers : {A : Type 0} (held : Held) (before now level : ℕ) → Result A PushFault → Type 0
FinishAnswers held before now level (Ok _) = ⊤
FinishAnswers held before now level (Err Device) = Rose before now × ((held.shadows level).saved ≡ false)
FinishAnswers held before now level (Err (Overfull _)) = ⊥

-- a finish: afterwards the shadow is on the device where it is accepted, and no place changes but those behind the shadow in its slot
pub record Finishes {A : Type 0} (old new : State) (level : ℕ) (result : Result A PushFault) : Type 0 where
  pub around : StaysAround old.held new.held level
  pub answer : FinishAnswers old.held old.spent.faults new.spent.faults level result
  pub calm : WriteCalm old.spent.faults new.spent.faults result
  pub shadow_is : new.held.shadows level ≡ record (old.held.shadows level) { saved = is_ok result }
  pub others_stay : (l s i : ℕ) → (l ≢ level) ⊎ (s ≢ (old.held.shadows level).slot) ⊎ (i < (old.held.shadows level).len) →
      new.held.spots l s i ≡ old.held.spots l s i

-- what a finish spends: no tick, and it writes only what is not on the device, and nothing where slots are smaller than a block
pub record FinishSpends (old new : State) (level : ℕ) : Type 0 where
  pub writes : Writes old.spent new.spent 0 (block_of (span old.held) level (old.held.shadows level).slot (old.held.shadows level).len)
  pub only_needed : IsKept old.held level → WritesNothing old.spent new.spent
