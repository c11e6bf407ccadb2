-- What a call of a merge says of its steps, beside what each of them keeps.
use Rattle.std.specs.Prelude.{◌≡◌, ℕ, ◌+◌, ◌-◌, ◌*◌, ◌<◌, ◌≤◌, ⊤, List, length, Result, Ok, Err, OnOk}
use Rattle.std.specs.List.Sorted.{IsStrictlySortedBy}
use Rattle.cola_runs.specs.Cells.{IsRising}
use Rattle.cola_runs.specs.Weave.{weave}
use Rattle.cola_runs.specs.Steps.{steps, IsUnderWay, IsAdvanced}
use Rattle.cola_cell.specs.declared.cell.Reader.{Reader}
use Rattle.cola_cell.specs.declared.fault.StepFault.{StepFault}
use Rattle.cola_cell.specs.declared.fault.StepFault.TheVariants.{Device, BadCell, Overfull}
use Rattle.cola_cell.specs.Places.{slot_size}
use Rattle.cola_cell.specs.Held.{Held, LawCell, IsTelling}
use Rattle.cola_cell.specs.Spent.{Buffer}
use Rattle.cola_merge.specs.declared.aims.Aim.{Aim}
use Rattle.cola_merge.specs.declared.aims.Progress.{Progress}
use Rattle.cola_merge.specs.declared.aims.Progress.TheVariants.{Done, More}
use Rattle.cola_merge.specs.declared.merging.Merger.{Merger}
use Rattle.cola_cell.specs.ToldCells.{shadow_cells, IsShadowTold}
use Rattle.cola_cell.specs.Order.{key_cmp}
use Rattle.cola_merge.specs.Feeds.{part_of, read_len, feed_cells, feed_keys}
use Rattle.cola_merge.specs.Heads.{fresh, head_of, consumed, IsReady, IsUsedUp, AreFeedsTold, build_of}
use Rattle.cola_merge.specs.States.{Grows, Spends, IsBeside, KeepsBlocks, IsSavedByBlocks, MergeState, len_of, TurnsWithin, WritesWithin, StepCause, StepCalm, failed_push}

-- More exactly where the quota was taken and source cells are left; Done exactly where none is left; a refused call has taken fewer steps
abbrev pub Consumes : Aim → Merger → Merger → ℕ → Result Progress StepFault → Type 0
Consumes aim m n quota (Ok More) = (consumed n ≡ consumed m + quota) × (IsUsedUp aim n → ⊥)
Consumes aim m n quota (Ok Done) = (consumed m ≤ consumed n) × (consumed n ≤ consumed m + quota) × IsUsedUp aim n
Consumes aim m n quota (Err fault) = (consumed m ≤ consumed n) × (consumed n < consumed m + quota)

-- the run that the aim's merge makes of its feeds
abbrev pub whole_run : Held → Aim → List LawCell
whole_run held aim = weave key_cmp (part_of aim) (feed_cells held aim.own) (feed_cells held aim.incoming) (feed_keys held aim.sample)

-- a merge on its way, on an object that tells its cells: its sources are in order, and what it has emitted is a cut of the whole run at its cursors
pub record IsGoing (held : Held) (aim : Aim) (m : Merger) : Type 0 where
  pub tells : IsTelling held
  pub feeds : AreFeedsTold held aim
  pub shadow : IsShadowTold held aim.level
  pub own_rises : IsRising key_cmp (feed_cells held aim.own)
  pub incoming_rises : IsRising key_cmp (feed_cells held aim.incoming)
  pub keys_rise : IsStrictlySortedBy key_cmp (feed_keys held aim.sample)
  pub under_way : IsUnderWay key_cmp (part_of aim) (feed_cells held aim.own) (feed_cells held aim.incoming) (feed_keys held aim.sample)
      (build_of held aim m)

-- so many steps further
abbrev pub GoesBy : Held → Held → Aim → Merger → Merger → ℕ → Type 0
GoesBy old new aim m n count =
    IsAdvanced key_cmp (part_of aim) (feed_cells old aim.own) (feed_cells old aim.incoming) (feed_keys old aim.sample) count (build_of old aim m) (build_of new aim n)

-- on an object that tells the sources, in whatever order their cells are: one step of the rules for each source cell that was
-- consumed, and the cells that these emit
abbrev pub BuildsBy : Held → Held → Aim → Merger → Merger → Type 0
BuildsBy old new aim m n = IsTelling old → AreFeedsTold old aim → build_of new aim n
    ≡ steps key_cmp (part_of aim) (feed_cells old aim.own) (feed_cells old aim.incoming) (feed_keys old aim.sample) (consumed n - consumed m) (build_of old aim m)

-- as many steps as the quota, or all that there were; where it was refused, fewer
abbrev pub GoesFurther : Held → Held → Aim → Merger → Merger → ℕ → Result Progress StepFault → Type 0
GoesFurther old new aim m n quota (Ok progress) = GoesBy old new aim m n quota
GoesFurther old new aim m n quota (Err fault) = (count : ℕ) × (count < quota) × GoesBy old new aim m n count

-- a merge on its way after a call: it is on its way still, over the same sources
pub record Gone (old new : Held) (aim : Aim) (m n : Merger) (quota : ℕ) (result : Result Progress StepFault) : Type 0 where
  pub going : IsGoing new aim n
  pub own_stays : feed_cells new aim.own ≡ feed_cells old aim.own
  pub incoming_stays : feed_cells new aim.incoming ≡ feed_cells old aim.incoming
  pub keys_stay : feed_keys new aim.sample ≡ feed_keys old aim.sample
  pub further : GoesFurther old new aim m n quota result

-- where it is done, the whole run was emitted
abbrev pub IsWhole : Held → Held → Aim → Result Progress StepFault → Type 0
IsWhole old new aim (Ok Done) = shadow_cells new aim.level ≡ whole_run old aim
IsWhole old new aim (Ok More) = ⊤
IsWhole old new aim (Err fault) = ⊤

-- why it was refused
abbrev pub HasStepCause : Aim → ℕ → MergeState → Result Progress StepFault → Type 0
HasStepCause aim before t (Ok progress) = ⊤
HasStepCause aim before t (Err fault) = StepCause aim before t fault

-- no fault was counted, unless the answer is the device's fault
abbrev pub IsCalm : ℕ → ℕ → Result Progress StepFault → Type 0
IsCalm before now (Ok progress) = now ≡ before
IsCalm before now (Err fault) = StepCalm before now fault

-- the one refusal is the device's
abbrev pub IsDeviceFault : Result Progress StepFault → Type 0
IsDeviceFault (Ok progress) = ⊤
IsDeviceFault (Err Device) = ⊤
IsDeviceFault (Err (BadCell number)) = ⊥
IsDeviceFault (Err (Overfull level)) = ⊥

-- how many cells the three feeds have the object read
abbrev pub cells_read : Aim → ℕ
cells_read aim = read_len aim.own + read_len aim.incoming + read_len aim.sample

-- 1 where a push may have been refused by the device
abbrev pub refused_push : Result Progress StepFault → ℕ
refused_push (Ok progress) = 0
refused_push (Err fault) = failed_push fault

-- at most one tick for each cell of the feeds that the object reads, and one for each push
pub record IsThrifty (aim : Aim) (before after from to : ℕ) (result : Result Progress StepFault) : Type 0 where
  -- for each push that was accepted, and the one that the device refused
  pub pushes : after + from ≤ before + cells_read aim + (to + refused_push result)
  -- for each place that was left in the slot
  pub places : after + from ≤ before + cells_read aim + slot_size aim.level

-- what a call of `advance` leaves, from one state to another, by its quota and its answer
pub record Advances (aim : Aim) (s t : MergeState) (quota : ℕ) (result : Result Progress StepFault) : Type 0 where
  -- it may be called again, and nothing changed but the end of the shadow
  pub ready : IsReady t.held aim t.merger
  pub frames : Grows s.held t.held aim.level
  pub lasts : (buffer : Buffer) → IsBeside aim buffer →
      KeepsBlocks aim.level aim.slot buffer s.spent.lasts t.spent.lasts
  pub saved : OnOk result (IsSavedByBlocks s.held t.held aim.level)
  -- how far it went
  pub consumes : Consumes aim s.merger t.merger quota result
  pub rises : (reader : Reader) → (head_of s.merger reader).at ≤ (head_of t.merger reader).at
  pub emits : len_of aim t + consumed s.merger ≤ len_of aim s + consumed t.merger
  pub samples : len_of aim s + t.merger.sample.at ≤ len_of aim t + s.merger.sample.at
  pub builds : BuildsBy s.held t.held aim s.merger t.merger
  pub told : IsTelling s.held → IsShadowTold s.held aim.level → IsShadowTold t.held aim.level
  pub cut : IsGoing s.held aim s.merger → Gone s.held t.held aim s.merger t.merger quota result
  pub whole : IsGoing s.held aim s.merger → IsWhole s.held t.held aim result
  -- why it was refused
  pub cause : HasStepCause aim s.spent.faults t result
  pub calm : IsCalm s.spent.faults t.spent.faults result
  pub only : IsGoing s.held aim s.merger → length (whole_run s.held aim) ≤ slot_size aim.level →
      IsDeviceFault result
  -- what it cost
  pub ticks : t.steps ≤ s.steps + (3 + 2 * quota)
  pub begins : s.merger ≡ fresh → IsThrifty aim s.steps t.steps (len_of aim s) (len_of aim t) result
  pub spends : Spends s.spent t.spent s.steps t.steps
  pub turned : OnOk result (TurnsWithin aim s t)
  pub written : OnOk result (WritesWithin aim s t)
