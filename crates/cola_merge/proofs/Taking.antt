-- The heads of a step: three fetches, and what the rules ask for then.
use Rattle.std.proofs.Common.{◌≡◌, ℕ, ◌+◌, Bool, false, ◌-◌, ◌<◌, ◌≤◌, Option, Result, Ok, Err, refl, ap, sym, subst, ◌∙◌, arith}
use Rattle.cola_cell.specs.declared.cell.Reader.{Reader}
use Rattle.cola_cell.specs.declared.cell.Reader.TheVariants.{Own, Incoming, Sample}
use Rattle.cola_cell.specs.declared.fault.ReadFault.{ReadFault}
use Rattle.cola_cell.specs.declared.fault.StepFault.{StepFault}
use Rattle.cola_cell.specs.Fault.{step_of_read}
use Rattle.cola_cell.specs.Places.{Block}
use Rattle.cola_cell.specs.Held.{Held}
use Rattle.cola_cell.specs.State.{State}
use Rattle.cola_merge.specs.declared.aims.Aim.{Aim}
use Rattle.cola_merge.specs.declared.aims.Progress.{Progress}
use Rattle.cola_merge.specs.declared.aims.Progress.TheVariants.{Done, More}
use Rattle.cola_merge.specs.Fetched.{Head}
use Rattle.cola_merge.specs.declared.merging.Merger.{Merger}
use Rattle.cola_merge.specs.Feeds.{feed_of}
use Rattle.cola_merge.specs.Heads.{head_of, with_head, consumed, HasHeads, IsReady, IsUsedUp, build_of}
use Rattle.cola_merge.specs.Blocks.{is_last}
use Rattle.cola_merge.specs.States.{Fetch, MergeState, state, Goes, Took, StepCause, Refused, Taken, TakesQuota}
use Rattle.cola_merge.specs.Pulls.{Looks, Looked, Unread}
use Rattle.cola_merge.proofs.Kept.{grows_none}
use Rattle.cola_merge.proofs.Sums.{took_then, spends_none, spends_then, cause_then, calm_then, refused_then}
use Rattle.cola_merge.proofs.Reading.{heads_of, ready_by, fetch_looked, fetch_unread}

-- ---- reads of heads add up

-- none was read
pub looked_none : {aim : Aim} (s : MergeState) → HasHeads s.held aim s.merger → Looked aim s s
looked_none s h = record {
  looks = record { cells_stay = refl; at_is = λ reader. refl; heads = h; spends = spends_none s.spent s.steps; written_is = refl; others_stay = λ buffer d. refl };
  ticks = omega arith;
  reads = omega arith;
  turned = omega arith;
  calm = refl;
}

looks_then : {aim : Aim} {s t u : MergeState} → Looks aim s t → Looks aim t u → Looks aim s u
looks_then {aim} {s} {t} {u} g h = record {
  cells_stay = h.cells_stay ∙ g.cells_stay;
  at_is = λ reader. h.at_is reader ∙ g.at_is reader;
  heads = subst (λ (x : Held). HasHeads x aim u.merger) g.cells_stay h.heads;
  spends = spends_then g.spends h.spends;
  written_is = h.written_is ∙ g.written_is;
  others_stay = λ buffer d. h.others_stay buffer d ∙ g.others_stay buffer d;
}

looked_then : {aim : Aim} {s t u : MergeState} → Looked aim s t → Looked aim t u → Looked aim s u
looked_then {aim} {s} {t} {u} g h = record {
  looks = looks_then g.looks h.looks;
  ticks = omega (arith, g.ticks, h.ticks);
  reads = omega (arith, g.reads, h.reads);
  turned = let k = rw g.looks.cells_stay at h.turned in omega (arith, g.turned, k);
  calm = h.calm ∙ g.calm;
}

unread_then : {aim : Aim} {s t u : MergeState} {fault : ReadFault} → Looked aim s t → Unread aim t u fault → Unread aim s u fault
unread_then {aim} {s} {t} {u} {fault} g h = record {
  looks = looks_then g.looks h.looks;
  ticks = omega (arith, g.ticks, h.ticks);
  reads = omega (arith, g.reads, h.reads);
  left = h.left;
  cause = cause_then aim s.spent.faults t.spent.faults u (step_of_read fault) g.calm h.cause;
  calm = calm_then s.spent.faults t.spent.faults u.spent.faults (step_of_read fault) g.calm h.calm;
}

-- ---- one head after others

pub heads_there : {aim : Aim} {s t : MergeState} → Looked aim s t → HasHeads t.held aim t.merger
heads_there {aim} {s} {t} g = subst (λ (h : Held). HasHeads h aim t.merger) (sym g.looks.cells_stay) g.looks.heads

pub and_read : {A : Type 0} {aim : Aim} {s : MergeState} {old new : State} {from to : ℕ} (m : Merger) → Looked aim s (state old m from) → (reader : Reader) (head : Head) (a : A) →
    Fetch old new reader (feed_of aim reader) (head_of m reader) head from to (Ok a) → Looked aim s (state new (with_head m reader head) to)
and_read {from = from} {to = to} m g reader head a f = looked_then g (fetch_looked m from to reader head (heads_there g) a f)

pub and_unread : {A : Type 0} {aim : Aim} {s : MergeState} {old new : State} {from to : ℕ} (m : Merger) → Looked aim s (state old m from) → (reader : Reader) (head : Head) (fault : ReadFault) →
    Fetch {A = A} old new reader (feed_of aim reader) (head_of m reader) head from to (Err fault) → Unread aim s (state new (with_head m reader head) to) fault
and_unread {from = from} {to = to} m g reader head fault f = unread_then g (fetch_unread m from to reader head fault (heads_there g) f)

-- ---- heads that were read, as a part of a step

-- the same state of an object that keeps its cells
abbrev pub kept_at : Held → MergeState → MergeState
kept_at held s = record { held = held; spent = s.spent; merger = s.merger; steps = s.steps }

merger_cursors : (m n : Merger) → ((reader : Reader) → (head_of n reader).at ≡ (head_of m reader).at) → consumed n ≡ consumed m + 0
merger_cursors m n e = let a = e Own in let b = e Incoming in let c = e Sample in omega (arith, a, b, c)

same_build : (held : Held) (aim : Aim) (m n : Merger) → ((reader : Reader) → (head_of n reader).at ≡ (head_of m reader).at) → build_of held aim n ≡ build_of held aim m
same_build held aim m n e = let a = e Own in let b = e Incoming in let c = e Sample in cc

module _ {aim : Aim} {s t : MergeState} (r : IsReady s.held aim s.merger) where
  goes_look : Looks aim s t → Goes aim s (kept_at s.held t) 0
  goes_look f = record {
    ready = ready_by r f.heads;
    grows = grows_none s.held aim.level;
    consumes = merger_cursors s.merger t.merger f.at_is;
    rises = λ reader. let e = f.at_is reader in omega (arith, e);
    emits = (let e = merger_cursors s.merger t.merger f.at_is in omega (arith, e));
    samples = (let e = f.at_is Sample in omega (arith, e));
    builds = λ _ _. same_build s.held aim s.merger t.merger f.at_is;
    told = λ _ h. h;
    spends = f.spends;
    lasts = λ buffer b l q k d. ap (λ (x : Option Block). is_last x l q k) (f.others_stay buffer b);
  }

  took_kept : Looked aim s t → Took aim s (kept_at s.held t) 0
  took_kept f = record {
    goes = goes_look f.looks;
    ticks = omega (arith, f.ticks);
    reads = omega (arith, f.reads);
    turned = f.turned;
    written = omega (arith, f.looks.written_is);
    saved = record { still = λ _. refl; grew = λ h. absurd (omega (arith, h)) };
    calm = f.calm;
  }

  pub took_look : Looked aim s t → Took aim s t 0
  took_look f = subst (λ (h : Held). Took aim s (kept_at h t) 0) (sym f.looks.cells_stay) (took_kept f)

  refused_kept : (fault : ReadFault) → Unread aim s t fault → Refused aim s (kept_at s.held t) 0 (step_of_read fault)
  refused_kept fault f = record {
    goes = goes_look f.looks;
    ticks = omega (arith, f.ticks);
    reads = λ l. omega (arith, f.reads, f.left, l);
    pushes = omega (arith, f.reads, f.left);
    written = omega (arith, f.looks.written_is);
    cause = subst (λ (h : Held). StepCause aim s.spent.faults (kept_at h t) (step_of_read fault)) f.looks.cells_stay f.cause;
    calm = f.calm;
  }

  pub refused_look : (fault : ReadFault) → Unread aim s t fault → Refused aim s t 0 (step_of_read fault)
  refused_look fault f = subst (λ (h : Held). Refused aim s (kept_at h t) 0 (step_of_read fault)) (sym f.looks.cells_stay) (refused_kept fault f)

pub took_none : {aim : Aim} (s : MergeState) → IsReady s.held aim s.merger → Took aim s s 0
took_none s r = took_look r (looked_none s (heads_of r))

-- ---- steps of a quota

-- none was taken behind so many
pub done_ran : {aim : Aim} {s t u : MergeState} {count quota : ℕ} (b : Bool) → b ≡ false → IsReady s.held aim s.merger → Took aim s t count → Taken aim t u (Ok b) → count < quota → TakesQuota aim s u quota (Ok Done)
done_ran {aim} {s} {t} {u} {count} b e r k h l =
    let none : Taken aim t u (Ok false) = rw e at h in
    record { steps = (count, omega (arith, l), let z : count ≡ count + 0 = omega arith in rw z (took_then r k none.0), none.1) }

pub refused_ran : {aim : Aim} {s t u : MergeState} {count quota : ℕ} (result : Result Progress StepFault) (fault : StepFault) → result ≡ Err fault → IsReady s.held aim s.merger → Took aim s t count → Refused aim t u 0 fault →
    count < quota → TakesQuota aim s u quota result
refused_ran {aim} {s} {t} {u} {count} {quota} result fault e r k h l =
    rw e (record { steps = (count, l, let z : count ≡ count + 0 = omega arith in rw z (refused_then r k h)) })

-- ---- steps of a quota, of which so many are left

-- so many more of those that were left
pub took_more : {aim : Aim} {s t u : MergeState} (quota left count : ℕ) → IsReady s.held aim s.merger → Took aim s t (quota - left) → Took aim t u count → left ≤ quota → count ≤ left → Took aim s u (quota - (left - count))
took_more {aim} {s} {t} {u} quota left count r k h l few = let z : quota - (left - count) ≡ (quota - left) + count = omega (arith, l, few) in rw z (took_then r k h)

-- no source cell is left
pub ran_out : {aim : Aim} {s u : MergeState} (quota rest : ℕ) → IsUsedUp aim u.merger → Took aim s u (quota - rest) → TakesQuota aim s u quota (Ok Done)
ran_out quota rest h k = record { steps = (quota - rest, omega arith, k, h) }

-- all of them were taken
pub all_ran : {aim : Aim} {s u : MergeState} (quota rest : ℕ) (progress : Progress) → (progress ≡ More → IsUsedUp aim u.merger → ⊥) → (progress ≡ Done → IsUsedUp aim u.merger) → rest ≡ 0 → Took aim s u (quota - rest) → TakesQuota aim s u quota (Ok progress)
all_ran quota rest More f h e k = record { steps = (let z : quota ≡ quota - rest = omega (arith, e) in rw z k, f refl) }
all_ran quota rest Done f h e k = ran_out quota rest (h refl) k
