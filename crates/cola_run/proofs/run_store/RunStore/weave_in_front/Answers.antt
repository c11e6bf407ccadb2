-- What a weave leaves of a store, into a level of the front.
use Rattle.std.proofs.Common.{◌≡◌, ◌+◌, ◌%◌, ◌^◌, ◌≤◌, ◌<◌, List, inl, refl, ap, sym, subst, ◌∙◌, arith}
use Rattle.std.proofs.lemmas.List.{with_items_is}
use Rattle.std.specs.Vec.{with_items}
use Rattle.cola_cell.specs.declared.sink.Shadow.{Shadow}
use Rattle.cola_cell.specs.Flat.{shadow_at}
use Rattle.cola_cell.specs.Places.{slot_size}
use Rattle.cola_front.specs.Front.{FrontCells}
use Rattle.cola_run.specs.Store.{Store, IsStore, state_of}
use Rattle.cola_run.specs.Weaving.{WoveInFront}
use Rattle.cola_run.proofs.Fronted.{fronted-sound, fronted-grown}
use Rattle.cola_run.proofs.Weaves.{weaves}
use Rattle.cola_run.proofs.Views.{store_of, lent-back}
use Rattle.cola_run.proofs.run_store.RunStore.weave_in_front.Goals as goal

-- the store after a weave
abbrev view-new : (g : _) (c : goal.After-tick_all g) → Store g.row.D.Denot
view-new g c = record (store_of c.self.inside) {
  front = c.weave_into_front-woven.new.front;
  shadows = (with_items c.self.inside.shadows.items c.weave_into_front-woven.new.shadows).items;
  ticked = (c.self.inside.ticked + c.in-Some.passed.ticks) % 2 ^ 64;
}

over : (g : _) (c : goal.After-tick_all g) →
    WoveInFront g.M.WindowMerge.wove g.D.Device.lends (g.D.Device.bytes c.self.inside.buffers.cache.device) c.self.inside.geometry c.self.inside.front (view-new g c).front (store_of c.self.inside).shadows (view-new g c).shadows
    c.args.level c.args.own c.args.incoming c.args.sample c.args.merge.now c.weave_into_front-woven.new.merge c.args.job.now c.in-Some.passed
over g c =
    let i = c.self.inside in
    let w = c.weave_into_front-woven in
    lent-back (λ xs ys. WoveInFront g.M.WindowMerge.wove g.D.Device.lends (g.D.Device.bytes i.buffers.cache.device) i.geometry i.front w.new.front xs ys
    c.args.level c.args.own c.args.incoming c.args.sample c.args.merge.now w.new.merge c.args.job.now c.in-Some.passed) c.deref_mut.ensures.value
    (with_items_is i.shadows.items w.new.shadows (w.auto.shadows ∙ c.deref_mut.ensures.len)) c.in-Some.ensures.wove

low : (g : _) (c : goal.After-tick_all g) → c.args.level + 2 < c.self.inside.geometry.block_exp
low g c = subst (λ (s : Store _). c.args.level + 2 < s.geometry.block_exp) (sym c.self.view_is) c.requires.level

within : (g : _) (c : goal.After-tick_all g) → c.args.level ≤ c.self.inside.geometry.bottom
within g c = subst (λ (s : Store _). c.args.level ≤ s.geometry.bottom) (sym c.self.view_is) c.requires.low

few : (g : _) (c : goal.After-tick_all g) → (shadow_at (store_of c.self.inside).shadows c.args.level).len + c.in-Some.passed.cells ≤ slot_size c.args.level
few g c = omega (arith, (c.self.invariant.cells.shape.shadows_fit c.args.level (within g c)).within, (over g c).few)

pub invariant_of-self : goal.invariant_of-self
invariant_of-self g c =
    fronted-sound g.D.Device.bytes g.D.Device.counts g.D.Device.kept (store_of c.self.inside) (view-new g c) c.args.level c.in-Some.passed.cells (over g c).room c.self.invariant refl refl refl (low g c) (within g c) (over g c).put (few g c)

pub returns-in-Some-clause-weaves : goal.returns-in-Some-clause-weaves
returns-in-Some-clause-weaves g c =
    let w = over g c in
    weaves g.D.Device.bytes g.D.Device.counts g.M.WindowMerge.wove g.D.Device.lends (store_of c.self.inside) c.args.self.now (view-new g c) c.self.view_is c.args.level c.args.own c.args.incoming c.args.sample
    c.args.merge.now c.weave_into_front-woven.new.merge c.args.job.now c.self.invariant w.views w.room c.in-Some.passed c.args.steps.now c.tick_all.new.steps w.over
    (fronted-grown g.D.Device.bytes g.D.Device.counts g.D.Device.kept (store_of c.self.inside) (view-new g c) c.args.level c.in-Some.passed.cells w.room c.self.invariant refl refl refl (low g c) (within g c) w.put (few g c) w.over.spelled)
    (record { steps_are = c.tick_all.ensures; ticked_are = omega arith; faults_are = refl; turned_is = refl; written_is = refl; lasts_are = λ _. refl })
    c.requires.own c.requires.incoming c.requires.sample c.requires.there

pub returns-in-Some-clause-runs : goal.returns-in-Some-clause-runs
returns-in-Some-clause-runs g c = λ lie. (
  c.in-Some.passed,
  subst (λ (s : Store _). WoveInFront g.M.WindowMerge.wove g.D.Device.lends (g.D.Device.bytes s.buffers.cache.device) s.geometry s.front (view-new g c).front s.shadows (view-new g c).shadows
      c.args.level c.args.own c.args.incoming c.args.sample c.args.merge.now c.weave_into_front-woven.new.merge c.args.job.now c.in-Some.passed) c.self.view_is (over g c),
  refl,
)

-- where nothing ran it is as before
still : (g : _) (c : goal.In-None g) → record (store_of c.self.inside) {
  shadows = (with_items c.self.inside.shadows.items c.weave_into_front-woven.new.shadows).items;
  front = c.weave_into_front-woven.new.front;
} ≡ store_of c.self.inside
still g c =
    let w = c.weave_into_front-woven in
    ap (λ (xs : List Shadow). record (store_of c.self.inside) { shadows = xs; front = w.new.front })
    (with_items_is c.self.inside.shadows.items w.new.shadows (w.auto.shadows ∙ c.deref_mut.ensures.len) ∙ (w.ensures.still c.in-None.is).1 ∙ c.deref_mut.ensures.value)
    ∙ ap (λ (f : FrontCells). record (store_of c.self.inside) { front = f }) (w.ensures.still c.in-None.is).0

pub invariant_of-self-in-None : goal.invariant_of-self-in-None
invariant_of-self-in-None g c = subst (λ (s : Store _). IsStore (g.D.Device.bytes c.self.inside.buffers.cache.device) s) (sym (still g c)) c.self.invariant

pub returns-in-None-clause-weaves : goal.returns-in-None-clause-weaves
returns-in-None-clause-weaves g c =
    inl (record {
      state_is = ap (state_of g.D.Device.bytes g.D.Device.counts) (still g c ∙ c.self.view_is);
      merge_is = (c.weave_into_front-woven.ensures.still c.in-None.is).2;
      steps_are = refl;
      none = refl;
    })
