-- What the levels' work in one mutation does, one level after another, and what the build of level 0 does.
use Rattle.std.specs.Prelude.{◌≡◌, ◌≢◌, ◌⊎◌, ℕ, suc, ◌+◌, ◌*◌, ◌%◌, ◌^◌, ◌≤◌, ◌<◌, min, true, false, if◌then◌else◌, List, [], ◌∷◌, length, ⊤, Result, IfErr, OnOk, OnErr}
use Rattle.cola_clock.specs.Clock.{works, ends, visible_slot}
use Rattle.cola_clock.specs.Marks.{Marks, merge_steps, AreLevelMarks, AreAllMarks}
use Rattle.cola_laws.specs.Sound.{ArePaced}
use Rattle.cola_laws.specs.Mutation.{AreAdvanced, AreWorkable}
use Rattle.cola_cell.specs.declared.cell.Cell.{Cell}
use Rattle.cola_cell.specs.declared.fault.StepFault.{StepFault}
use Rattle.cola_cell.specs.Places.{slot_size}
use Rattle.cola_cell.specs.Held.{Held, is_untold, IsTelling}
use Rattle.cola_cell.specs.Spent.{Spent}
use Rattle.cola_cell.specs.State.{State}
use Rattle.cola_cell.specs.Order.{key_cmp}
use Rattle.cola_cell.specs.ToldCells.{AreTold, shadow_cells, IsShadowTold}
use Rattle.cola_image.specs.Standing.{AreRunsTold}
use Rattle.cola_merge.specs.declared.aims.Aim.{Aim}
use Rattle.cola_merge.specs.declared.merging.Merger.{Merger}
use Rattle.cola_merge.specs.Feeds.{feed_len}
use Rattle.cola_merge.specs.Heads.{consumed, fresh, IsReady, IsUsedUp}
use Rattle.cola_merge.specs.States.{MergeState, StepCause, Grows}
use Rattle.cola_merge.specs.Advance.{IsGoing, BuildsBy, whole_run}
use Rattle.cola_transfers.specs.Chain.{Transfers, IsLevelsTurn, AreLevelsWorked, IsTopBuilt}
use Rattle.cola_level.specs.declared.level.Level.{Level}
use Rattle.cola_level.specs.Marks.{marks_of, all_marks_of}
use Rattle.cola_level.specs.Aims.{aim_at, top_at}
use Rattle.cola_level.specs.Standing.{visible_cells, all_stood, CanAdvance, transfers_of}
use Rattle.cola_level.specs.Work.{taken, sources, Advances, IsCalm, IsDevice}
use Rattle.cola_mutation.specs.Levels.{Fits, AreFit}

-- an object, what it spent, and the ticks of the caller
pub record WorkState : Type 0 where
  pub held : Held
  pub spent : Spent
  pub steps : ℕ

-- such a state
abbrev pub state_of : State → ℕ → WorkState
state_of object steps = record { held = object.held; spent = object.spent; steps = steps }

-- the object of a state
abbrev pub object_of : WorkState → State
object_of s = record { held = s.held; spent = s.spent }

-- a state with a merger
abbrev pub with_merger : WorkState → Merger → MergeState
with_merger s m = record { held = s.held; spent = s.spent; merger = m; steps = s.steps }

-- the transfers of a state
abbrev pub transfers : WorkState → Transfers
transfers s = transfers_of s.held s.spent

-- What stays

-- that which no call changes, what is told, each shadow's slot, all of the levels that are quiet, and every cell outside the slots of the others' shadows
pub record Keeps (Quiet : ℕ → Type 0) (old new : Held) : Type 0 where
  pub fixed_is : new.fixed ≡ old.fixed
  pub telling_is : (l s k : ℕ) → is_untold (new.spots l s k) ≡ is_untold (old.spots l s k)
  pub slots_stay : (l : ℕ) → (new.shadows l).slot ≡ (old.shadows l).slot
  pub shadows_stay : (l : ℕ) → Quiet l → new.shadows l ≡ old.shadows l
  pub spots_stay : (l s k : ℕ) → Quiet l ⊎ (s ≢ (old.shadows l).slot) → new.spots l s k ≡ old.spots l s k

-- a level that has no part in the work of level i + 1 at clock t
abbrev pub IsBeside : ℕ → ℕ → ℕ → Type 0
IsBeside t i l = (l ≢ suc i) ⊎ (works t l ≡ false)

-- a level that has no part in the work of the levels from level i + 1 on
abbrev pub IsQuiet : ℕ → ℕ → ℕ → Type 0
IsQuiet t i l = (l ≤ i) ⊎ (works t l ≡ false)

-- a level's turn keeps its visible run, gives back no source cell, and where it rests all of it
pub record HasTurned (t i : ℕ) (l m : Level) : Type 0 where
  pub visible : m.visible ≡ l.visible
  pub progress : consumed l.merger ≤ consumed m.merger
  pub rests : works t (suc i) ≡ false → m ≡ l

-- the same of each level from level i + 1 on
abbrev pub HaveTurned : ℕ → ℕ → List Level → List Level → Type 0
HaveTurned t i [] [] = ⊤
HaveTurned t i [] (m ∷ ms) = ⊥
HaveTurned t i (l ∷ ls) [] = ⊥
HaveTurned t i (l ∷ ls) (m ∷ ms) = HasTurned t i l m × HaveTurned t (suc i) ls ms

-- What it cost

-- at most so many ticks, which the object counts too; each turns to or writes one block at most, and so many blocks more are written; no count falls
pub record SpendsWithin (old new : Spent) (before after ticks more : ℕ) : Type 0 where
  pub steps_stay : before ≤ after
  pub steps_rise : after ≤ before + ticks
  pub ticked_is : (new.ticked + before) % 2 ^ 64 ≡ (old.ticked + after) % 2 ^ 64
  pub turned_stays : old.turned ≤ new.turned
  pub written_stays : old.written ≤ new.written
  pub transfers : new.turned + new.written + before ≤ old.turned + old.written + (after + more)
  pub faults_stay : old.faults ≤ new.faults

-- the same of two states
abbrev pub Costs : WorkState → WorkState → ℕ → ℕ → Type 0
Costs s u ticks more = SpendsWithin s.spent u.spent s.steps u.steps ticks more

-- 1 where level i + 1 works
abbrev pub one_working : ℕ → ℕ → ℕ
one_working t i = if works t (suc i) then 1 else 0

-- how many of so many levels from level i + 1 on work
abbrev pub many_working : {X : Type 0} → ℕ → ℕ → List X → ℕ
many_working t i [] = 0
many_working t i (x ∷ xs) = one_working t i + many_working t (suc i) xs

-- How far the merges went

-- level i + 1 had its whole turn, from one object to another: where it works, its merge consumed as many source cells as one
-- mutation takes steps, or all that were left; it emitted a cell for each of its sample, and at most one for each other, where
-- its sources are told just those that the rules ask for; and only its shadow changed
pub record HasTaken (t i above : ℕ) (old new : Held) (l m : Level) (below : List Marks) : Type 0 where
  pub consumes : works t (suc i) ≡ true →
      consumed m.merger ≡ min (sources (aim_at t i m.visible above below)) (consumed l.merger + merge_steps)
  pub emits : m.shadow + consumed l.merger ≤ l.shadow + consumed m.merger
  pub samples : l.shadow + m.merger.sample.at ≤ m.shadow + l.merger.sample.at
  pub builds : works t (suc i) ≡ true → BuildsBy old new (aim_at t i m.visible above below) l.merger m.merger
  pub keeps : Keeps (IsBeside t i) old new

-- the same of each level from level i + 1 on, one after another
abbrev pub HaveTaken : (t i above : ℕ) → (old new : Held) → List Level → List Level → Type 0
HaveTaken t i above old new [] [] = new ≡ old
HaveTaken t i above old new [] (m ∷ ms) = ⊥
HaveTaken t i above old new (l ∷ ls) [] = ⊥
HaveTaken t i above old new (l ∷ ls) (m ∷ ms) =
    (mid : Held) × HasTaken t i above old mid l m (all_marks_of ls) × HaveTaken t (suc i) m.visible mid new ls ms

-- level 0 was built whole, from one object to another: its run has a cell for each of its sample, and at most one for each other
-- source cell, where its sources are told just those that the rules ask for; and only its shadow changed
pub record IsTopTaken (aim : Aim) (old new : Held) : Type 0 where
  pub emits : (new.shadows 0).len ≤ sources aim
  pub samples : feed_len aim.sample ≤ (new.shadows 0).len
  pub built : Merger
  pub done : IsUsedUp aim built
  pub builds : BuildsBy old new aim fresh built
  pub grows : Grows old new 0

-- Why it was refused

-- the turn of level i + 1 was refused, which began on this object: it works at the clock, only its shadow changed, and this is
-- why its merge goes no further
pub record IsTurnRefused (t i above before : ℕ) (begun : Held) (u : WorkState) (m : Level) (below : List Marks) (fault : StepFault) : Type 0 where
  pub works : works t (suc i) ≡ true
  pub keeps : Keeps (IsBeside t i) begun u.held
  pub ready : IsReady u.held (aim_at t i m.visible above below) m.merger
  pub cause : StepCause (aim_at t i m.visible above below) before (with_merger u m.merger) fault

-- the turn of one of the levels from level i + 1 on was refused: each above it had its whole turn, and each below it none
abbrev pub IsOneRefused : (t i above before : ℕ) → (begun : Held) → WorkState → List Level → List Level → StepFault → Type 0
IsOneRefused t i above before begun u [] ms fault = ⊥
IsOneRefused t i above before begun u (l ∷ ls) [] fault = ⊥
IsOneRefused t i above before begun u (l ∷ ls) (m ∷ ms) fault =
    (IsTurnRefused t i above before begun u m (all_marks_of ls) fault × (ms ≡ ls))
    ⊎ ((mid : Held) × HasTaken t i above begun mid l m (all_marks_of ls) × IsOneRefused t (suc i) m.visible before mid u ls ms fault)

-- a build of level 0 was refused, which began on this object over an empty shadow with no cell consumed: so far it came, and
-- this is why it goes no further
pub record IsTopRefused (aim : Aim) (before : ℕ) (begun : Held) (u : WorkState) (fault : StepFault) : Type 0 where
  pub empty : (begun.shadows 0).len ≡ 0
  pub grows : Grows begun u.held 0
  pub merger : Merger
  pub ready : IsReady u.held aim merger
  pub emits : (u.held.shadows 0).len ≤ consumed merger
  pub samples : merger.sample.at ≤ (u.held.shadows 0).len
  pub builds : BuildsBy begun u.held aim fresh merger
  pub cause : StepCause aim before (with_merger u merger) fault

-- One level's turn

-- the shadow of level i + 1 is told, and where it works it may be called to
pub record CanTurn (held : Held) (t i above : ℕ) (m : Marks) (below : List Marks) : Type 0 where
  pub told : IsShadowTold held (suc i)
  pub can : works t (suc i) ≡ true → CanAdvance held (aim_at t i m.visible above below) t i above m below

-- the turn of level i + 1: its work, or nothing where it rests
pub record TakesTurn {A : Type 0} (t i above : ℕ) (s u : WorkState) (l m : Level) (below : List Marks) (result : Result A StepFault) : Type 0 where
  pub fits : Fits u.held t i above m below
  pub keeps : Keeps (IsBeside t i) s.held u.held
  pub turned : HasTurned t i l m
  pub marked : AreLevelMarks 0 t (suc i) above (marks_of l) below →
      AreLevelMarks (taken result) t (suc i) above (marks_of m) below
  pub advances : CanTurn s.held t i above (marks_of l) below →
      Advances s.held u.held t i above (marks_of l) (marks_of m) below result
  pub saved : OnOk result (works t (suc i) ≡ true →
      IsUsedUp (aim_at t i m.visible above below) m.merger → (u.held.shadows (suc i)).saved ≡ true)
  pub worked : OnOk result (IsLevelsTurn s.held.fixed.doublings t i above (marks_of l) (marks_of m) below
      (transfers s) (transfers u) (works t (suc i)))
  pub took : OnOk result (HasTaken t i above s.held u.held l m below)
  pub refused : IfErr result (IsTurnRefused t i above s.spent.faults s.held u m below)
  pub calm : IsCalm s.spent.faults u.spent.faults result
  pub costs : Costs s u (59 * one_working t i) (one_working t i)

-- The turns of all levels

-- the object tells the levels from level i + 1 on and the visible run above them, they keep pace with the clock, and those that work have builds that they can do
pub record CanAllTurn (held : Held) (t i above : ℕ) (levels : List Marks) : Type 0 where
  pub tells : IsTelling held
  pub above_told : AreTold (held.spots i (visible_slot t i)) above
  pub told : AreRunsTold held.spots t (suc i) levels
  pub paced : ArePaced key_cmp 0 t (suc i) (visible_cells held t i above) (all_stood held t (suc i) levels)
  pub workable : AreWorkable key_cmp t (suc i) (visible_cells held t i above) (all_stood held t (suc i) levels)

-- they are so many steps further, or none where one of them was refused; they are told, and only the device refuses
pub record AllAdvance {A : Type 0} (old new : Held) (t i above : ℕ) (levels worked : List Marks) (result : Result A StepFault) : Type 0 where
  pub advanced : AreAdvanced key_cmp (taken result) t (suc i) (visible_cells old t i above)
      (all_stood old t (suc i) levels) (all_stood new t (suc i) worked)
  pub told : AreRunsTold new.spots t (suc i) worked
  pub only : IfErr result IsDevice

-- of so many levels from level i + 1 on, each whose window ends has its shadow on the device
abbrev pub AreSavedAtEnd : {X : Type 0} → Held → ℕ → ℕ → List X → Type 0
AreSavedAtEnd held t i levels = (l : ℕ) → i < l → l ≤ i + length levels → ends t l ≡ true → (held.shadows l).saved ≡ true

-- the turns of the levels from level i + 1 on
pub record TakeTurns {A : Type 0} (t i above : ℕ) (s u : WorkState) (ls ms : List Level) (result : Result A StepFault) : Type 0 where
  pub fit : AreFit u.held t i above ms
  pub keeps : Keeps (IsQuiet t i) s.held u.held
  pub turned : HaveTurned t i ls ms
  pub marked : AreAllMarks 0 t (suc i) above (all_marks_of ls) →
      AreAllMarks (taken result) t (suc i) above (all_marks_of ms)
  pub advance : CanAllTurn s.held t i above (all_marks_of ls) →
      AllAdvance s.held u.held t i above (all_marks_of ls) (all_marks_of ms) result
  pub saved : OnOk result (above ≤ slot_size i →
      AreAllMarks 0 t (suc i) above (all_marks_of ls) → AreSavedAtEnd u.held t i ms)
  pub worked : OnOk result (AreLevelsWorked s.held.fixed.doublings t i above (all_marks_of ls) (all_marks_of ms)
      (transfers s) (transfers u))
  pub took : OnOk result (HaveTaken t i above s.held u.held ls ms)
  pub refused : IfErr result (IsOneRefused t i above s.spent.faults s.held u ls ms)
  pub calm : IsCalm s.spent.faults u.spent.faults result
  pub costs : Costs s u (59 * many_working t i ls) (many_working t i ls)

-- The build of level 0

-- level 0 with a shadow of so many cells
abbrev pub with_shadow : Level → ℕ → Level
with_shadow top n = record { visible = top.visible; shadow = n; merger = top.merger }

-- the aim of level 0 over a level with the marks `next`
abbrev pub build_aim : ℕ → Cell → Level → Marks → Aim
build_aim t c top next = top_at t top.visible c (next ∷ [])

-- level 0 has its shadow built whole from its visible run, one cell and the sample of the level below, which has the marks `next`
pub record Builds {A : Type 0} (t : ℕ) (c : Cell) (s u : WorkState) (top built : Level) (next : Marks) (result : Result A StepFault) : Type 0 where
  pub grows : Grows s.held u.held 0
  pub accepted : OnOk result (built ≡ with_shadow top (u.held.shadows 0).len)
  pub same : OnErr result (built ≡ top)
  pub within : (u.held.shadows 0).len ≤ slot_size 0
  pub told : IsTelling s.held → IsShadowTold u.held 0
  pub whole : IsGoing s.held (build_aim t c top next) fresh →
      OnOk result (shadow_cells u.held 0 ≡ whole_run s.held (build_aim t c top next))
  pub only : IsGoing s.held (build_aim t c top next) fresh →
      length (whole_run s.held (build_aim t c top next)) ≤ slot_size 0 → IfErr result IsDevice
  pub traded : (under : List Marks) →
      OnOk result (IsTopBuilt s.held.fixed.doublings t (next ∷ under) (transfers s) (transfers u))
  pub took : OnOk result (IsTopTaken (build_aim t c top next) s.held u.held)
  pub refused : IfErr result (IsTopRefused (build_aim t c top next) s.spent.faults s.held u)
  pub calm : IsCalm s.spent.faults u.spent.faults result
  pub costs : Costs s u 9 0
