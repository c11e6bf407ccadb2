use Rattle.std.proofs.Common.{ℕ, ◌-◌, false, List, length, Ok, Err, refl, sym, ap, subst, ◌∙◌}
use Rattle.std.specs.List.{refill}
use Rattle.arrayvec.specs.declared.array_vec.ArrayVec.{ArrayVec}
use Rattle.cola_level.specs.declared.level.Level.{Level}
use Rattle.cola_mutation.specs.Steps.{Mutates}
use Rattle.cola_chain.specs.Contents.{Contents, spent_of}
use Rattle.cola_chain.specs.Account.{IsPaid, added, CountsStep}
use Rattle.cola_chain.specs.Steps.{work_of, Steps}
use Rattle.cola_chain.proofs.Account.{paid-step, refilled}
use Rattle.cola_chain.proofs.Stepping.{step-accepted, step-refused}
use Rattle.cola_chain.proofs.chains.Chain.step.Goals as goal

-- the contents before an accepted step and after it
abbrev old : (g : _) (c : goal.After-self-in-Ok-4-1 g) → Contents g.row.D.Denot
old g c =
    let s = c.self.inside in
    record { store = s.runs; levels = s.levels.value.items; clock = s.clock; accepted = s.accepted; reads = s.reads; writes = s.writes; counted = s.counted }

abbrev new : (g : _) (c : goal.After-self-in-Ok-4-1 g) → Contents g.row.D.Denot
new g c = record {
  store = c.step.new.work;
  levels = refill (length c.deref_mut.result.now.items) c.deref_mut.result.now.items c.step.new.levels;
  clock = c.in-Ok.next;
  accepted = c.add-self-inside.result;
  reads = c.add-self-inside-in-Ok.result;
  writes = c.add-self-inside-in-Ok-2.result;
  counted = c.self.inside.counted;
}

mutates : (g : _) (c : goal.After-self-in-Ok-4-1 g) →
    Mutates (old g c).clock c.args.key.now c.args.item.now (work_of g.D.Device (old g c) c.args.steps.now) (work_of g.D.Device (new g c) c.step.new.steps) (old g c).levels (new g c).levels (Ok (new g c).clock)
mutates g c =
    let levels_are = refilled c.deref_mut.result.now.items c.step.new.levels (c.step.ensures.steps.counted ∙ ap (λ (ls : List Level). length ls) c.as_mut_slice.ensures.value) in
    subst (λ (ls : List Level). Mutates (old g c).clock c.args.key.now c.args.item.now (work_of g.D.Device (old g c) c.args.steps.now) (work_of g.D.Device (new g c) c.step.new.steps) (old g c).levels ls (Ok (new g c).clock)) (sym levels_are)
    (subst (λ (ls : List Level). Mutates (old g c).clock c.args.key.now c.args.item.now (work_of g.D.Device (old g c) c.args.steps.now) (work_of g.D.Device (new g c) c.step.new.steps) ls c.step.new.levels (Ok (new g c).clock))
    (c.as_mut_slice.ensures.value ∙ ap (λ (a : ArrayVec Level 23 Unit). a.items) c.deref_mut.ensures.value) c.in-Ok.ensures.steps)

counts : (g : _) (c : goal.After-self-in-Ok-4-1 g) → CountsStep g.D.Device.counts (old g c) (new g c) (Ok (tt {0}))
counts g c =
    let spent = spent_of g.D.Device.counts (new g c) in (
      c.add-self-inside.ensures,
      c.add-self-inside-in-Ok.ensures ∙ ap (added (old g c).reads) (c.rise.ensures ∙ ap (λ (n : ℕ). n - c.transfers-before.result.0) c.transfers-after.ensures.reads ∙ ap (λ (n : ℕ). spent.turned - n) c.transfers-before.ensures.reads),
      c.add-self-inside-in-Ok-2.ensures ∙ ap (added (old g c).writes) (c.rise-in-Ok.ensures ∙ ap (λ (n : ℕ). n - c.transfers-before.result.1) c.transfers-after.ensures.writes ∙ ap (λ (n : ℕ). spent.written - n) c.transfers-before.ensures.writes),
      refl,
    )

paid : (g : _) (c : goal.After-self-in-Ok-4-1 g) → IsPaid g.D.Device.bytes g.D.Device.counts (old g c) → IsPaid g.D.Device.bytes g.D.Device.counts (new g c)
paid g c =
    let m = mutates g c in
    let n = counts g c in
    paid-step g.D.Device.bytes g.D.Device.counts (old g c) (new g c) c.args.steps.now c.step.new.steps c.self.invariant.stands.many m.chain m.clock m.fixed m.costs.turned_stays m.costs.written_stays m.trades n.0 n.1 n.2

pub invariant_of-self : goal.invariant_of-self
invariant_of-self g c = let m = mutates g c in record { stands = m.chain; paid = λ counted. paid g c (c.self.invariant.paid counted) }

pub returns-in-Ok-clause-steps : goal.returns-in-Ok-clause-steps
returns-in-Ok-clause-steps g c =
    subst (λ (x : Contents g.row.D.Denot). Steps g.D.Device x (new g c) c.args.steps.now c.step.new.steps c.args.key.now c.args.item.now (Ok (tt {0}))) c.self.view_is
    (step-accepted g.D.Device (old g c) (new g c) c.args.steps.now c.step.new.steps c.args.key.now c.args.item.now (mutates g c) (counts g c) (paid g c))

pub returns-in-Err-clause-steps : goal.returns-in-Err-clause-steps
returns-in-Err-clause-steps g c =
    let s = c.self.inside in
    let before : Contents g.row.D.Denot = record { store = s.runs; levels = s.levels.value.items; clock = s.clock; accepted = s.accepted; reads = s.reads; writes = s.writes; counted = s.counted } in
    let levels : List Level = refill (length c.deref_mut.result.now.items) c.deref_mut.result.now.items c.step.new.levels in
    let after : Contents g.row.D.Denot = record before { store = c.step.new.work; levels = levels; counted = false } in
    let levels_are = refilled c.deref_mut.result.now.items c.step.new.levels (c.step.ensures.steps.counted ∙ ap (λ (ls : List Level). length ls) c.as_mut_slice.ensures.value) in
    let mutated : Mutates s.clock c.args.key.now c.args.item.now (work_of g.D.Device before c.args.steps.now) (work_of g.D.Device after c.step.new.steps) before.levels levels (Err c.in-Err.fault) =
    subst (λ (ls : List Level). Mutates s.clock c.args.key.now c.args.item.now (work_of g.D.Device before c.args.steps.now) (work_of g.D.Device after c.step.new.steps) before.levels ls (Err c.in-Err.fault)) (sym levels_are)
    (subst (λ (ls : List Level). Mutates s.clock c.args.key.now c.args.item.now (work_of g.D.Device before c.args.steps.now) (work_of g.D.Device after c.step.new.steps) ls c.step.new.levels (Err c.in-Err.fault))
    (c.as_mut_slice.ensures.value ∙ ap (λ (a : ArrayVec Level 23 Unit). a.items) c.deref_mut.ensures.value) c.in-Err.ensures.steps) in
    subst (λ (x : Contents g.row.D.Denot). Steps {D = g.row.D.Denot} {A = Unit {0}} g.D.Device x after c.args.steps.now c.step.new.steps c.args.key.now c.args.item.now (Err c.in-Err.fault)) c.self.view_is
    (step-refused g.D.Device before after c.args.steps.now c.step.new.steps c.args.key.now c.args.item.now c.in-Err.fault mutated refl (refl, refl, refl, refl))
