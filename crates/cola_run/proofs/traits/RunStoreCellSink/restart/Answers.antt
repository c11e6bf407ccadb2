use Rattle.std.proofs.Common.{subst, ◌∙◌, List, refl}
use Rattle.std.proofs.lemmas.List.{with_items_is}
use Rattle.std.specs.Vec.{with_items}
use Rattle.cola_cell.specs.declared.sink.Shadow.{Shadow}
use Rattle.cola_cell.specs.Shadows.{emptied, Restarts}
use Rattle.cola_run.specs.Parts.{OneShadow}
use Rattle.cola_run.specs.Store.{Store, held_of}
use Rattle.cola_run.proofs.Fronting.{restarted-sound, restarted-meets}
use Rattle.cola_run.proofs.Views.{store_of, lent-back}
use Rattle.cola_run.proofs.traits.RunStoreCellSink.restart.Goals as goal

pub invariant_of-self : goal.invariant_of-self
invariant_of-self g c =
    let i = c.self.inside in
    let view = store_of i in
    let shadows : List Shadow = (with_items i.shadows.items c.set_shadow.new.shadows).items in
    let one : OneShadow i.shadows.items.items shadows c.args.level (emptied c.args.slot) = lent-back (λ xs ys. OneShadow xs ys c.args.level (emptied c.args.slot)) c.deref_mut.ensures.value
    (with_items_is i.shadows.items c.set_shadow.new.shadows (c.set_shadow.ensures.many ∙ c.deref_mut.ensures.len)) c.set_shadow.ensures in
    let now : Store _ = record view { shadows = shadows } in
    restarted-sound g.D.Device.bytes g.D.Device.counts g.D.Device.kept view now c.args.level (emptied c.args.slot) c.self.invariant refl refl refl one c.args.slot refl refl c.requires.slot_in

pub returns-clause-restarts : goal.returns-clause-restarts
returns-clause-restarts g c =
    let i = c.self.inside in
    let view = store_of i in
    let shadows : List Shadow = (with_items i.shadows.items c.set_shadow.new.shadows).items in
    let one : OneShadow i.shadows.items.items shadows c.args.level (emptied c.args.slot) = lent-back (λ xs ys. OneShadow xs ys c.args.level (emptied c.args.slot)) c.deref_mut.ensures.value
    (with_items_is i.shadows.items c.set_shadow.new.shadows (c.set_shadow.ensures.many ∙ c.deref_mut.ensures.len)) c.set_shadow.ensures in
    let now : Store _ = record view { shadows = shadows } in
    subst (λ (s : Store _). Restarts (held_of g.D.Device.bytes s) (held_of g.D.Device.bytes now) c.args.level c.args.slot) c.self.view_is
    (restarted-meets g.D.Device.bytes g.D.Device.counts g.D.Device.kept view now c.args.level (emptied c.args.slot) c.self.invariant refl refl refl one c.args.slot refl refl)
