-- What the work of a level in one mutation does: to its merge, to the object, and what it spends.
use Rattle.std.specs.Prelude.{◌≡◌, ℕ, suc, ◌+◌, ◌%◌, ◌^◌, ◌≤◌, min, nat_le, Bool, true, ⊤, List, length, Result, Ok, Err, IfErr}
use Rattle.cola_clock.specs.Marks.{Marks, merge_steps}
use Rattle.cola_laws.specs.Mutation.{IsAdvanced}
use Rattle.cola_cell.specs.declared.fault.StepFault.{StepFault}
use Rattle.cola_cell.specs.declared.fault.StepFault.TheVariants.{Device, BadCell, Overfull}
use Rattle.cola_cell.specs.Held.{Held, span}
use Rattle.cola_cell.specs.Places.{slot_size}
use Rattle.cola_cell.specs.Spent.{Spent}
use Rattle.cola_cell.specs.State.{State}
use Rattle.cola_cell.specs.Order.{key_cmp}
use Rattle.cola_cell.specs.ToldCells.{shadow_cells, IsShadowTold}
use Rattle.cola_merge.specs.declared.aims.Aim.{Aim}
use Rattle.cola_merge.specs.declared.merging.Merger.{Merger}
use Rattle.cola_merge.specs.Feeds.{feed_len, feed_cells, feed_keys}
use Rattle.cola_merge.specs.Heads.{consumed, IsUsedUp}
use Rattle.cola_merge.specs.States.{StepCalm}
use Rattle.cola_merge.specs.Advance.{IsGoing, GoesBy, whole_run}
use Rattle.cola_transfers.specs.Blocks.{IsWrittenDown}
use Rattle.cola_level.specs.Standing.{visible_cells, stood, all_stood, is_kept}

-- how many steps ahead of the clock a level is after its work: those of a mutation, or none where it was refused
abbrev pub taken : {A : Type 0} → Result A StepFault → ℕ
taken (Ok a) = merge_steps
taken (Err fault) = 0

-- the source cells of a merge
abbrev pub sources : Aim → ℕ
sources aim = feed_len aim.own + feed_len aim.incoming + feed_len aim.sample

-- whether each source cell is consumed
abbrev pub is_ended : Aim → Merger → Bool
is_ended aim m = nat_le (sources aim) (consumed m)

-- how many source cells were consumed: where it was accepted those of so many steps, or all;
-- where it was refused at most so many. None is given back
pub record Takes {A : Type 0} (aim : Aim) (m n : Merger) (result : Result A StepFault) : Type 0 where
  pub enough : min (sources aim) (consumed m + taken result) ≤ consumed n
  pub rises : consumed m ≤ consumed n
  pub at_most : consumed n ≤ consumed m + merge_steps

-- the merge is so many steps further: those of a mutation, or all that there were; at most so many where it was refused
abbrev pub GoesFurther : {A : Type 0} → Held → Held → Aim → Merger → Merger → Result A StepFault → Type 0
GoesFurther old new aim m n (Ok a) = GoesBy old new aim m n merge_steps
GoesFurther old new aim m n (Err fault) = (count : ℕ) × (count ≤ merge_steps) × GoesBy old new aim m n count

-- a merge on its way after the work: it is on its way still, over the same sources
pub record GoesOn {A : Type 0} (old new : Held) (aim : Aim) (m n : Merger) (result : Result A StepFault) : Type 0 where
  pub going : IsGoing new aim n
  pub own_stays : feed_cells new aim.own ≡ feed_cells old aim.own
  pub incoming_stays : feed_cells new aim.incoming ≡ feed_cells old aim.incoming
  pub keys_stay : feed_keys new aim.sample ≡ feed_keys old aim.sample
  pub further : GoesFurther old new aim m n result

-- where the merge is done, its shadow is on the device
abbrev pub IsSavedAtEnd : Held → Aim → Merger → Type 0
IsSavedAtEnd new aim n = IsUsedUp aim n → (new.shadows aim.level).saved ≡ true

-- where the merge is done, the whole run was emitted
abbrev pub IsWholeAtEnd : Held → Held → Aim → Merger → Type 0
IsWholeAtEnd old new aim n = IsUsedUp aim n → shadow_cells new aim.level ≡ whole_run old aim

-- the whole run of an aim fits its slot
abbrev pub IsWithinSlot : Held → Aim → Type 0
IsWithinSlot held aim = length (whole_run held aim) ≤ slot_size aim.level

-- no fault was counted, unless the answer is the device's fault
abbrev pub IsCalm : {A : Type 0} → ℕ → ℕ → Result A StepFault → Type 0
IsCalm before now (Ok a) = now ≡ before
IsCalm before now (Err fault) = StepCalm before now fault

-- the fault is the device's
abbrev pub IsDevice : StepFault → Type 0
IsDevice Device = ⊤
IsDevice (BadCell number) = ⊥
IsDevice (Overfull level) = ⊥

-- what the work spends: at most 59 ticks, which the object counts too; each turns to or writes
-- one block at most, and the finish writes one more; no count falls
pub record SpendsFor (old new : Spent) (before after : ℕ) : Type 0 where
  pub steps_stay : before ≤ after
  pub steps_rise : after ≤ before + 59
  pub ticked_is : (new.ticked + before) % 2 ^ 64 ≡ (old.ticked + after) % 2 ^ 64
  pub turned_stays : old.turned ≤ new.turned
  pub written_stays : old.written ≤ new.written
  pub transfers : new.turned + new.written + before ≤ old.turned + old.written + (after + 1)
  pub faults_stay : old.faults ≤ new.faults

-- what the work of a level writes of its shadow
abbrev pub WritesDown : State → State → Aim → Merger → Type 0
WritesDown old new aim n =
    IsWrittenDown (slot_size aim.level) (span old.held) (old.held.shadows aim.level).len (new.held.shadows aim.level).len (is_ended aim n)
    (is_kept old.held aim.level) (is_kept new.held aim.level) old.spent.written new.spent.written

-- a level that could advance did: by so many steps that the laws count it so many steps
-- further, its shadow is told, and it was refused only by the device
pub record Advances {A : Type 0} (old new : Held) (t i above : ℕ) (m n : Marks) (below : List Marks) (result : Result A StepFault) : Type 0 where
  pub advanced : IsAdvanced key_cmp (taken result) t (suc i) (visible_cells old t i above)
      (stood old t (suc i) m) (all_stood old t (suc (suc i)) below) (stood new t (suc i) n)
  pub told : IsShadowTold new (suc i)
  pub only : IfErr result IsDevice
