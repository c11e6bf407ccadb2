-- How the turns of levels add up, apart from what they mean to the laws.
use Rattle.std.proofs.Common.{◌≡◌, inl, inr, ℕ, suc, ◌+◌, ◌*◌, ◌≤◌, true, List, [], ◌∷◌, Result, Ok, Err, IfErr, ap, sym, subst, ◌∙◌, arith}
use Rattle.std.proofs.lemmas.Bool.Decides.{eqb_tells}
use Rattle.cola_clock.specs.Clock.{works, ends}
use Rattle.cola_clock.specs.Marks.{merge_steps, AreLevelMarks, AreAllMarks}
use Rattle.cola_clock.proofs.Laws.{ends-works}
use Rattle.cola_cell.specs.declared.fault.StepFault.{StepFault}
use Rattle.cola_cell.specs.declared.fault.StepFault.TheVariants.{Device, BadCell, Overfull}
use Rattle.cola_cell.specs.declared.sink.Shadow.{Shadow}
use Rattle.cola_cell.specs.Held.{Held, Fixed}
use Rattle.cola_cell.specs.Places.{slot_size}
use Rattle.cola_cell.specs.Spent.{Spent}
use Rattle.cola_merge.specs.declared.aims.Aim.{Aim}
use Rattle.cola_merge.specs.Heads.{IsUsedUp}
use Rattle.cola_merge.specs.States.{MergeState, StepCause}
use Rattle.cola_transfers.specs.Chain.{IsLevelsTurn, AreLevelsWorked}
use Rattle.cola_level.specs.declared.level.Level.{Level}
use Rattle.cola_level.specs.Marks.{marks_of, all_marks_of}
use Rattle.cola_level.specs.Aims.{aim_at}
use Rattle.cola_level.specs.Work.{taken, IsCalm}
use Rattle.cola_mutation.specs.Work.{WorkState, transfers, Keeps, HasTurned, HaveTurned, SpendsWithin, Costs, with_merger, HasTaken, IsOneRefused, AreSavedAtEnd, IsQuiet}
use Rattle.cola_mutation.proofs.Marking.{aim_same, level_marks_below, ends_used_up}

-- ---- costs

pub spends_none : (spent : Spent) (n ticks more : ℕ) → SpendsWithin spent spent n n ticks more
spends_none spent n ticks more = record {
  steps_stay = omega arith;
  steps_rise = omega arith;
  ticked_is = omega arith;
  turned_stays = omega arith;
  written_stays = omega arith;
  transfers = omega arith;
  faults_stay = omega arith;
}

pub spends_then : {a b c : Spent} {i j k p q x y : ℕ} → SpendsWithin a b i j p x → SpendsWithin b c j k q y → SpendsWithin a c i k (p + q) (x + y)
spends_then {a} {b} {c} {i} {j} {k} {p} {q} {x} {y} g h = record {
  steps_stay = omega (arith, g.steps_stay, h.steps_stay);
  steps_rise = omega (arith, g.steps_rise, h.steps_rise);
  ticked_is = omega (arith, g.ticked_is, h.ticked_is);
  turned_stays = omega (arith, g.turned_stays, h.turned_stays);
  written_stays = omega (arith, g.written_stays, h.written_stays);
  transfers = omega (arith, g.transfers, h.transfers);
  faults_stay = omega (arith, g.faults_stay, h.faults_stay);
}

pub spends_more : {a b : Spent} {i j p q x y : ℕ} → p ≤ q → x ≤ y → SpendsWithin a b i j p x → SpendsWithin a b i j q y
spends_more {a} {b} {i} {j} {p} {q} {x} {y} m n g = record {
  steps_stay = g.steps_stay;
  steps_rise = omega (arith, g.steps_rise, m);
  ticked_is = g.ticked_is;
  turned_stays = g.turned_stays;
  written_stays = g.written_stays;
  transfers = omega (arith, g.transfers, n);
  faults_stay = g.faults_stay;
}

pub costs_then : (s u v : WorkState) (x y : ℕ) → Costs s u (59 * x) x → Costs u v (59 * y) y → Costs s v (59 * (x + y)) (x + y)
costs_then s u v x y g h = spends_more (let e : 59 * x + 59 * y ≤ 59 * (x + y) = omega arith in e) (omega arith) (spends_then g h)

-- ---- causes and calm

pub cause_later : (aim : Aim) (before between : ℕ) (s : MergeState) (fault : StepFault) → before ≤ between → StepCause aim between s fault → StepCause aim before s fault
cause_later aim before between s Device h c = omega (arith, h, c)
cause_later aim before between s (BadCell number) h c = c
cause_later aim before between s (Overfull level) h c = c

one_later : (t i above before between : ℕ) (begun : Held) (u : WorkState) (ls ms : List Level) (fault : StepFault) → before ≤ between → IsOneRefused t i above between begun u ls ms fault → IsOneRefused t i above before begun u ls ms fault
one_later t i above before between begun u [] ms fault h c = absurd c
one_later t i above before between begun u (l ∷ ls) [] fault h c = absurd c
one_later t i above before between begun u (l ∷ ls) (m ∷ ms) fault h (inl (c, same)) =
    inl (record { works = c.works; keeps = c.keeps; ready = c.ready; cause = cause_later (aim_at t i m.visible above (all_marks_of ls)) before between (with_merger u m.merger) fault h c.cause }, same)
one_later t i above before between begun u (l ∷ ls) (m ∷ ms) fault h (inr (mid, took, c)) = inr (mid, took, one_later t (suc i) m.visible before between mid u ls ms fault h c)

pub refused_then : {A : Type 0} (r : Result A StepFault) (t i above before between : ℕ) (begun mid : Held) (u : WorkState) (l m : Level) (ls ms : List Level) → before ≤ between → HasTaken t i above begun mid l m (all_marks_of ls) →
    IfErr r (IsOneRefused t (suc i) m.visible between mid u ls ms) → IfErr r (IsOneRefused t i above before begun u (l ∷ ls) (m ∷ ms))
refused_then (Ok a) t i above before between begun mid u l m ls ms h took c = tt
refused_then (Err fault) t i above before between begun mid u l m ls ms h took c = inr (mid, took, one_later t (suc i) m.visible before between mid u ls ms fault h c)

pub calm_then : {A : Type 0} (a b c : ℕ) (r : Result A StepFault) → b ≡ a → IsCalm b c r → IsCalm a c r
calm_then a b c r e h = subst (λ (x : ℕ). IsCalm x c r) e h

-- ---- marks

pub taken_few : {A : Type 0} (r : Result A StepFault) → taken r ≤ merge_steps
taken_few (Ok a) = omega arith
taken_few (Err fault) = omega arith

pub marks_then : {A : Type 0} (r : Result A StepFault) (t i above : ℕ) (l m : Level) (ls ms : List Level) → HasTurned t i l m → HaveTurned t (suc i) ls ms →
    (AreLevelMarks 0 t (suc i) above (marks_of l) (all_marks_of ls) → AreLevelMarks merge_steps t (suc i) above (marks_of m) (all_marks_of ls)) →
    (AreAllMarks 0 t (suc (suc i)) l.visible (all_marks_of ls) → AreAllMarks (taken r) t (suc (suc i)) l.visible (all_marks_of ms)) →
    AreAllMarks 0 t (suc i) above (all_marks_of (l ∷ ls)) → AreAllMarks (taken r) t (suc i) above (all_marks_of (m ∷ ms))
marks_then r t i above l m ls ms one all first rest marks = (
  level_marks_below merge_steps (taken r) t i above (marks_of m) ls ms (taken_few r) all (first marks.0),
  subst (λ (n : ℕ). AreAllMarks (taken r) t (suc (suc i)) n (all_marks_of ms)) (sym one.visible) (rest marks.1),
)

-- ---- shadows that are saved

pub saved_then : (mid new : WorkState) (t i above : ℕ) (l m : Level) (ls ms : List Level) → HasTurned t i l m → HaveTurned t (suc i) ls ms → Keeps (IsQuiet t (suc i)) mid.held new.held →
    (works t (suc i) ≡ true → IsUsedUp (aim_at t i m.visible above (all_marks_of ls)) m.merger → (mid.held.shadows (suc i)).saved ≡ true) →
    AreSavedAtEnd new.held t (suc i) ms → above ≤ slot_size i → AreAllMarks merge_steps t (suc i) above (all_marks_of (m ∷ ms)) → AreSavedAtEnd new.held t i (m ∷ ms)
saved_then mid new t i above l m ls ms one all keeps first rest fits marks k lo hi e =
    elim (eqb_tells k (suc i)) [
      | inl q ↦ subst (λ (n : ℕ). (new.held.shadows n).saved ≡ true) (sym q.1) (own (subst (λ (n : ℕ). ends t n ≡ true) q.1 e))
      | inr q ↦ rest k (let d = q.1 in omega (arith, d, lo)) (omega (arith, hi)) e
    ] where
      own : ends t (suc i) ≡ true → (new.held.shadows (suc i)).saved ≡ true
      own end =
          ap (λ (x : Shadow). x.saved) (keeps.shadows_stay (suc i) (inl (omega arith)))
          ∙ first (ends-works t (suc i) end)
          (subst (λ (a : Aim). IsUsedUp a m.merger) (sym (aim_same t i m.visible above ls ms (ends-works t (suc i) end) all)) (ends_used_up t i above m (all_marks_of ms) end fits marks))

-- ---- transfers

pub worked_then : (s u v : WorkState) (t i above : ℕ) (l m : Level) (ls ms : List Level) → u.held.fixed ≡ s.held.fixed → HasTurned t i l m →
    IsLevelsTurn s.held.fixed.doublings t i above (marks_of l) (marks_of m) (all_marks_of ls) (transfers s) (transfers u) (works t (suc i)) →
    AreLevelsWorked u.held.fixed.doublings t (suc i) m.visible (all_marks_of ls) (all_marks_of ms) (transfers u) (transfers v) →
    AreLevelsWorked s.held.fixed.doublings t i above (all_marks_of (l ∷ ls)) (all_marks_of (m ∷ ms)) (transfers s) (transfers v)
worked_then s u v t i above l m ls ms x one turn rest = (
  transfers u,
  turn,
  subst (λ (n : ℕ). AreLevelsWorked s.held.fixed.doublings t (suc i) n (all_marks_of ls) (all_marks_of ms) (transfers u) (transfers v)) one.visible
      (subst (λ (y : Fixed). AreLevelsWorked y.doublings t (suc i) m.visible (all_marks_of ls) (all_marks_of ms) (transfers u) (transfers v)) x rest),
)
