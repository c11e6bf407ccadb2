-- What a weave leaves of a store, into a level on the device.
use Rattle.std.proofs.Common.{◌≡◌, ◌<◌, ◌+◌, ◌%◌, ◌^◌, ℕ, List, inl, refl, ap, sym, subst, ◌∙◌, arith}
use Rattle.std.proofs.lemmas.List.{with_items_is}
use Rattle.std.proofs.lemmas.Option.{IfSome_then}
use Rattle.std.specs.Vec.{with_items}
use Rattle.cola_cell.specs.declared.sink.Shadow.{Shadow}
use Rattle.cola_run.proofs.Weaves.{weaves}
use Rattle.cola_run.proofs.Sounding.{woven_shape, woven_backed, woven_cell, woven_stays}
use Rattle.cola_run.proofs.Sinks.{sound-by, around-by}
use Rattle.cola_run.proofs.Reading.{span-is}
use Rattle.cola_run.proofs.Spots.{both-same}
use Rattle.std.proofs.Math.Nat.{mod-lt}
use Rattle.std.proofs.lemmas.Nat.{pow_pos}
use Rattle.cola_cell.specs.Flat.{shadow_at}
use Rattle.cola_cell.specs.Windows.{Grown}
use Rattle.cola_run.specs.Cells.{IsOnDevice}
use Rattle.cola_run.specs.Store.{Store, IsStore, held_of, state_of}
use Rattle.cola_run.specs.Weaving.{WoveBelow}
use Rattle.cola_run.proofs.Views.{store_of, lent-back}
use Rattle.cola_run.proofs.run_store.RunStore.weave_below.Goals as goal

-- the store after a weave
abbrev view-new : (g : _) (c : goal.After-tick_all g) → Store g.row.D.Denot
view-new g c = record (store_of c.self.inside) {
  shadows = (with_items c.self.inside.shadows.items c.weave_on_device-woven.new.shadows).items;
  tails = (with_items c.tails.inside.bytes.items c.weave_on_device-woven.new.tails).items;
  ticked = (c.self.inside.ticked + c.in-Some.passed.ticks) % 2 ^ 64;
}

below : (g : _) (c : goal.After-tick_all g) →
    WoveBelow g.M.WindowMerge.wove g.D.Device.lends (g.D.Device.bytes c.self.inside.buffers.cache.device) c.self.inside.geometry c.self.inside.front (store_of c.self.inside).shadows (view-new g c).shadows (store_of c.self.inside).tails (view-new g c).tails
    c.args.level c.args.own c.args.incoming c.args.sample c.args.merge.now c.weave_on_device-woven.new.merge c.args.job.now c.in-Some.passed
below g c =
    let i = c.self.inside in
    let told = g.D.Device.bytes i.buffers.cache.device in
    let w = c.weave_on_device-woven in
    let is : (shadows now : List Shadow) (tails after : List ℕ) → Type 0 = λ shadows now tails after. WoveBelow g.M.WindowMerge.wove g.D.Device.lends told i.geometry i.front shadows now tails after
    c.args.level c.args.own c.args.incoming c.args.sample c.args.merge.now w.new.merge c.args.job.now c.in-Some.passed in
    lent-back (λ xs ys. is xs ys (store_of i).tails (view-new g c).tails) c.deref_mut.ensures.value (with_items_is i.shadows.items w.new.shadows (w.auto.shadows ∙ c.deref_mut.ensures.len))
    (lent-back (λ ts us. is c.deref_mut.result.now w.new.shadows ts us) (c.deref_mut-2.ensures.value ∙ c.tails.view_is)
    (with_items_is c.tails.inside.bytes.items w.new.tails (w.auto.tails ∙ c.deref_mut-2.ensures.len)) c.in-Some.ensures.wove)

on-device : (g : _) (c : goal.After-tick_all g) → IsOnDevice c.self.inside.geometry c.args.level
on-device g c = subst (λ (s : Store _). IsOnDevice s.geometry c.args.level) (sym c.self.view_is) c.requires.level

pub invariant_of-self : goal.invariant_of-self
invariant_of-self g c =
    let i = c.self.inside in
    let old = store_of i in
    let now = view-new g c in
    let w = below g c in
    sound-by g.D.Device.bytes old now c.self.invariant refl refl
    (woven_shape i.geometry i.front old.shadows now.shadows old.tails now.tails c.args.level c.in-Some.passed.cells w.room (on-device g c) c.self.invariant.cells.shape w.shadow w.few w.room_is w.tails_are)
    (IfSome_then (g.D.Device.bytes i.buffers.cache.device) c.self.invariant.cells.backed
    (woven_backed i.geometry i.front old.shadows now.shadows old.tails now.tails c.args.level c.in-Some.passed.cells w.room (on-device g c) c.self.invariant.cells.shape w.shadow w.few w.room_is w.tails_are))
    refl refl refl

-- where nothing ran it is as before
still : (g : _) (c : goal.In-None g) → record (store_of c.self.inside) {
  shadows = (with_items c.self.inside.shadows.items c.weave_on_device-woven.new.shadows).items;
  tails = (with_items c.tails.inside.bytes.items c.weave_on_device-woven.new.tails).items;
} ≡ store_of c.self.inside
still g c =
    let w = c.weave_on_device-woven in
    ap (λ (xs : List Shadow). record (store_of c.self.inside) { shadows = xs; tails = (with_items c.tails.inside.bytes.items w.new.tails).items })
    (with_items_is c.self.inside.shadows.items w.new.shadows (w.auto.shadows ∙ c.deref_mut.ensures.len) ∙ (w.ensures.still c.in-None.is).0 ∙ c.deref_mut.ensures.value)
    ∙ ap (λ (ts : List ℕ). record (store_of c.self.inside) { tails = ts })
    (with_items_is c.tails.inside.bytes.items w.new.tails (w.auto.tails ∙ c.deref_mut-2.ensures.len) ∙ (w.ensures.still c.in-None.is).1 ∙ c.deref_mut-2.ensures.value ∙ c.tails.view_is)

pub invariant_of-self-in-None : goal.invariant_of-self-in-None
invariant_of-self-in-None g c = subst (λ (s : Store _). IsStore (g.D.Device.bytes c.self.inside.buffers.cache.device) s) (sym (still g c)) c.self.invariant

grown-of : (g : _) (c : goal.After-tick_all g) → Grown (held_of g.D.Device.bytes (store_of c.self.inside)) (held_of g.D.Device.bytes (view-new g c)) c.args.level (below g c).room c.in-Some.passed.cells
grown-of g c =
    let i = c.self.inside in
    let old = store_of i in
    let now = view-new g c in
    let w = below g c in
    let told = g.D.Device.bytes i.buffers.cache.device in
    let shape = c.self.invariant.cells.shape in
    record {
      around = around-by g.D.Device.bytes old now c.args.level refl refl w.shadow.others (both-same told (λ _ _. Unit {0}) (λ _. tt));
      shadow_is = w.shadow.is;
      fits = let f = w.few in let s = shape.shadows_fit c.args.level (on-device g c).within in let a = s.within in omega (arith, f, a);
      in_block = λ d.
          let r = mod-lt (shadow_at old.shadows c.args.level).len (pow_pos i.geometry.block_exp) in
          subst (λ (n : ℕ). (shadow_at old.shadows c.args.level).len % n + c.in-Some.passed.cells < n) (sym (span-is i.geometry shape.block)) (omega (arith, w.few, r));
      spelled = w.over.spelled;
      cells_are = λ k h. woven_cell i.geometry i.front old.shadows now.shadows old.tails now.tails c.args.level c.in-Some.passed.cells w.room (on-device g c) shape w.shadow w.few w.room_is w.tails_are told k h (w.over.spelled k h);
      others_stay = woven_stays i.geometry i.front old.shadows now.shadows old.tails now.tails c.args.level c.in-Some.passed.cells w.room (on-device g c) shape w.shadow w.few w.room_is w.tails_are told;
    }

pub returns-in-Some-clause-weaves : goal.returns-in-Some-clause-weaves
returns-in-Some-clause-weaves g c =
    let w = below g c in
    weaves g.D.Device.bytes g.D.Device.counts g.M.WindowMerge.wove g.D.Device.lends (store_of c.self.inside) c.args.self.now (view-new g c) c.self.view_is c.args.level c.args.own c.args.incoming c.args.sample
    c.args.merge.now c.weave_on_device-woven.new.merge c.args.job.now c.self.invariant w.views w.room c.in-Some.passed c.args.steps.now c.tick_all.new.steps w.over (grown-of g c)
    (record { steps_are = c.tick_all.ensures; ticked_are = omega arith; faults_are = refl; turned_is = refl; written_is = refl; lasts_are = λ _. refl })
    c.requires.own c.requires.incoming c.requires.sample c.requires.there

pub returns-in-Some-clause-runs : goal.returns-in-Some-clause-runs
returns-in-Some-clause-runs g c = λ lie. (
  c.in-Some.passed,
  subst (λ (s : Store _). WoveBelow g.M.WindowMerge.wove g.D.Device.lends (g.D.Device.bytes s.buffers.cache.device) s.geometry s.front s.shadows (view-new g c).shadows s.tails (view-new g c).tails
      c.args.level c.args.own c.args.incoming c.args.sample c.args.merge.now c.weave_on_device-woven.new.merge c.args.job.now c.in-Some.passed) c.self.view_is (below g c),
  refl,
)

pub returns-in-None-clause-weaves : goal.returns-in-None-clause-weaves
returns-in-None-clause-weaves g c =
    inl (record {
      state_is = ap (state_of g.D.Device.bytes g.D.Device.counts) (still g c ∙ c.self.view_is);
      merge_is = (c.weave_on_device-woven.ensures.still c.in-None.is).2;
      steps_are = refl;
      none = refl;
    })
