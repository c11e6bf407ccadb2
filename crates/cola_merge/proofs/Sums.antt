-- How steps add up.
use Rattle.std.proofs.Common.{◌≡◌, ◌≢◌, inl, inr, ℕ, zero, suc, ◌+◌, ◌%◌, ◌<◌, ◌≤◌, ◌==◌, List, ap, sym, subst, ◌∙◌, arith}
use Rattle.std.specs.declared.cmp.Ordering.{Ordering}
use Rattle.std.proofs.lemmas.Bool.Decides.{eqb_tells}
use Rattle.cola_outside.specs.Faults.{Rose}
use Rattle.cola_runs.specs.Weave.{Part}
use Rattle.cola_runs.specs.Cells as laws
use Rattle.cola_runs.specs.Steps.{Build, step, steps}
use Rattle.cola_cell.specs.declared.sink.Shadow.{Shadow}
use Rattle.cola_cell.specs.declared.fault.StepFault.{StepFault}
use Rattle.cola_cell.specs.declared.fault.StepFault.TheVariants.{Device}
use Rattle.cola_cell.specs.Held.{LawCell, IsTelling, span}
use Rattle.cola_cell.specs.Spent.{Spent, Ticks}
use Rattle.cola_cell.proofs.RunLemmas.{telling_stays}
use Rattle.cola_merge.specs.declared.aims.Aim.{Aim}
use Rattle.cola_cell.specs.Order.{key_cmp}
use Rattle.cola_merge.specs.Feeds.{part_of, feed_cells, feed_keys}
use Rattle.cola_merge.specs.Heads.{IsReady, AreFeedsTold, build_of}
use Rattle.cola_merge.specs.States.{Spends, MergeState, len_of, Goes, Took, Refused, StepCause, StepCalm}
use Rattle.cola_merge.proofs.Kept.{grows_then, feed_cells-stay, feeds_told-stay}

-- ---- steps of the laws

module _ {K V : Type 0} (cmp : K → K → Ordering) (part : Part) (own incoming : List (laws.Cell K V)) (keys : List K) where
  pub steps-add : (a b : ℕ) (p : Build K V) → steps cmp part own incoming keys (a + b) p ≡ steps cmp part own incoming keys b (steps cmp part own incoming keys a p)
  steps-add zero b p = ap (λ (n : ℕ). steps cmp part own incoming keys n p) (let e : 0 + b ≡ b = omega arith in e)
  steps-add (suc a) b p =
      ap (λ (n : ℕ). steps cmp part own incoming keys n p) (let e : suc a + b ≡ suc (a + b) = omega arith in e)
      ∙ steps-add a b (step cmp part own incoming keys p)

-- ---- what accesses cost

-- so many ticks are made, each of which turns to or writes one block at most
pub spends_ticks : {old new : Spent} {from to : ℕ} (n : ℕ) → to ≡ from + n → Ticks old.ticked new.ticked n → old.turned ≤ new.turned → old.written ≤ new.written →
    new.turned + new.written ≤ old.turned + old.written + n → old.faults ≤ new.faults → Spends old new from to
spends_ticks n e ticked turned written rises faults = record {
  steps_stay = omega (arith, e);
  ticked_is = omega (arith, e, ticked);
  turned_stays = turned;
  written_stays = written;
  transfers = omega (arith, e, rises);
  faults_stay = faults;
}

pub spends_none : (spent : Spent) (n : ℕ) → Spends spent spent n n
spends_none spent n = spends_ticks 0 (omega arith) (omega arith) (omega arith) (omega arith) (omega arith) (omega arith)

pub spends_then : {a b c : Spent} {i j k : ℕ} → Spends a b i j → Spends b c j k → Spends a c i k
spends_then {a} {b} {c} {i} {j} {k} g h = record {
  steps_stay = omega (arith, g.steps_stay, h.steps_stay);
  ticked_is = omega (arith, g.ticked_is, h.ticked_is);
  turned_stays = omega (arith, g.turned_stays, h.turned_stays);
  written_stays = omega (arith, g.written_stays, h.written_stays);
  transfers = omega (arith, g.transfers, h.transfers);
  faults_stay = omega (arith, g.faults_stay, h.faults_stay);
}

-- ---- steps

builds_then : {aim : Aim} {s t u : MergeState} {m n : ℕ} → (g : Goes aim s t m) (h : Goes aim t u n) → IsReady s.held aim s.merger → IsTelling s.held → (f : AreFeedsTold s.held aim) →
    build_of u.held aim u.merger ≡ steps key_cmp (part_of aim) (feed_cells s.held aim.own) (feed_cells s.held aim.incoming) (feed_keys s.held aim.sample) (m + n) (build_of s.held aim s.merger)
builds_then {aim} {s} {t} {u} {m} {n} g h r tells f =
    let own : List LawCell = feed_cells s.held aim.own in
    let incoming : List LawCell = feed_cells s.held aim.incoming in
    let keys : List (List ℕ) = feed_keys s.held aim.sample in
    let stays = feed_cells-stay g.grows aim.slot r.slot_is in
    let first : build_of t.held aim t.merger ≡ steps key_cmp (part_of aim) own incoming keys m (build_of s.held aim s.merger) = g.builds tells f in
    let second = h.builds (telling_stays s.held t.held aim.level g.grows.around tells) (feeds_told-stay g.grows r f) in
    let a = stays aim.own r.own_apart in
    let b = stays aim.incoming r.incoming_apart in
    let c = stays aim.sample r.sample_apart in
    let all = steps-add key_cmp (part_of aim) own incoming keys m n (build_of s.held aim s.merger) in cc

pub goes_then : {aim : Aim} {s t u : MergeState} {m n : ℕ} → IsReady s.held aim s.merger → Goes aim s t m → Goes aim t u n → Goes aim s u (m + n)
goes_then {aim} {s} {t} {u} {m} {n} r g h = record {
  ready = h.ready;
  grows = grows_then g.grows h.grows;
  consumes = omega (arith, g.consumes, h.consumes);
  rises = λ reader. let a = g.rises reader in let b = h.rises reader in omega (arith, a, b);
  emits = omega (arith, g.emits, h.emits);
  samples = omega (arith, g.samples, h.samples);
  builds = λ tells f. builds_then g h r tells f;
  told = λ tells w. h.told (telling_stays s.held t.held aim.level g.grows.around tells) (g.told tells w);
  spends = spends_then g.spends h.spends;
  lasts = λ buffer b l q k d. h.lasts buffer b l q k d ∙ g.lasts buffer b l q k d;
}

grew_then : (span x y z : ℕ) (t u : Shadow) → x ≤ y → y ≤ z → x < z → (z ≡ y → u ≡ t) → (x < y → t.saved ≡ (y % span == 0)) → (y < z → u.saved ≡ (z % span == 0)) → u.saved ≡ (z % span == 0)
grew_then span x y z t u h k l same first second = elim (eqb_tells z y) [
  | inl e ↦ ap (λ (s : Shadow). s.saved) (same e.1) ∙ first (let f : z ≡ y = e.1 in omega (arith, f, l)) ∙ ap (λ (n : ℕ). n % span == 0) (sym e.1)
  | inr e ↦ second (let f : z ≢ y = e.1 in omega (arith, k, f))
]

pub took_then : {aim : Aim} {s t u : MergeState} {m n : ℕ} → IsReady s.held aim s.merger → Took aim s t m → Took aim t u n → Took aim s u (m + n)
took_then {aim} {s} {t} {u} {m} {n} r g h =
    let e = g.goes.grows.around.fixed_is in
    record {
      goes = goes_then r g.goes h.goes;
      ticks = omega (arith, g.ticks, h.ticks);
      reads = omega (arith, g.reads, h.reads);
      turned = let k = rw e at h.turned in omega (arith, g.turned, k);
      written = let k = rw e at h.written in omega (arith, g.written, k);
      saved = record {
        still = λ f. both_still g.goes.grows.len_rises h.goes.grows.len_rises f;
        grew = λ l. grew_then (span s.held) (len_of aim s) (len_of aim t) (len_of aim u) (t.held.shadows aim.level) (u.held.shadows aim.level)
            g.goes.grows.len_rises h.goes.grows.len_rises l h.saved.still g.saved.grew (rw e at h.saved.grew);
      };
      calm = h.calm ∙ g.calm;
    }
  where
    both_still : len_of aim s ≤ len_of aim t → len_of aim t ≤ len_of aim u → len_of aim u ≡ len_of aim s → u.held.shadows aim.level ≡ s.held.shadows aim.level
    both_still a b f = h.saved.still (omega (arith, a, b, f)) ∙ g.saved.still (omega (arith, a, b, f))

-- ---- a refused step

pub cause_then : (aim : Aim) (before between : ℕ) (t : MergeState) (fault : StepFault) → between ≡ before → StepCause aim between t fault → StepCause aim before t fault
cause_then aim before between t Device e c = subst (λ (x : ℕ). Rose x t.spent.faults) e c
cause_then aim before between t _ e c = c

pub calm_then : (before between now : ℕ) (fault : StepFault) → between ≡ before → StepCalm between now fault → StepCalm before now fault
calm_then before between now Device e c = tt
calm_then before between now _ e c = c ∙ e

pub refused_then : {aim : Aim} {s t u : MergeState} {m n : ℕ} {fault : StepFault} → IsReady s.held aim s.merger → Took aim s t m → Refused aim t u n fault → Refused aim s u (m + n) fault
refused_then {aim} {s} {t} {u} {m} {n} {fault} r g h =
    record {
      goes = goes_then r g.goes h.goes;
      ticks = omega (arith, g.ticks, h.ticks);
      reads = λ l. let a = h.reads (g.goes.grows.len_fits l) in omega (arith, g.reads, a);
      pushes = omega (arith, g.reads, h.pushes);
      written = let k = rw g.goes.grows.around.fixed_is at h.written in omega (arith, g.written, k);
      cause = cause_then aim s.spent.faults t.spent.faults u fault g.calm h.cause;
      calm = calm_then s.spent.faults t.spent.faults u.spent.faults fault g.calm h.calm;
    }
