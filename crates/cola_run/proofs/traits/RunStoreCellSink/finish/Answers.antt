use Rattle.std.proofs.Common.{◌≡◌, ◌<◌, ◌+◌, ◌≤◌, true, false, ap, sym, subst, ◌∙◌, arith, List, not, Ok, refl}
use Rattle.std.proofs.lemmas.List.{with_items_is}
use Rattle.std.specs.Vec.{with_items}
use Rattle.cola_cell.specs.declared.sink.Shadow.{Shadow}
use Rattle.cola_cell.specs.Flat.{shadow_at}
use Rattle.cola_cell.specs.Shadows.{Finishes, FinishSpends}
use Rattle.cola_run.specs.Cells.{IsOnDevice, HasRoom, end_block}
use Rattle.cola_run.specs.Parts.{OneShadow, IsFinished}
use Rattle.cola_run.specs.Turns.{Writing}
use Rattle.cola_run.specs.Store.{Store, IsStore, lower_of, state_of, kept_of}
use Rattle.cola_run.proofs.Finishes.{ends-within}
use Rattle.cola_run.proofs.Finishing.{finished-sound, finished-keeps, finished-meets, finished-spends}
use Rattle.cola_run.proofs.Fronting.{front-finished-sound, front-finished-meets}
use Rattle.cola_run.proofs.Views.{store_of, lent-back}
use Rattle.cola_run.proofs.traits.RunStoreCellSink.finish.Goals as goal

-- a finish of a level of the front: the store after it
abbrev front-new : (g : _) (c : goal.After-self-1 g) → Store g.row.D.Denot
front-new g c = record (store_of c.self.inside) { shadows = (with_items c.self.inside.shadows.items c.set_shadow.new.shadows).items }

-- it is sound and meets the trait
in-front : (g : _) (c : goal.After-self-1 g) →
    IsStore (g.D.Device.bytes c.self.inside.buffers.cache.device) (front-new g c)
    × Finishes (state_of g.D.Device.bytes g.D.Device.counts (store_of c.self.inside)) (state_of g.D.Device.bytes g.D.Device.counts (front-new g c)) c.args.level (Ok (tt {0}))
in-front g c =
    let i = c.self.inside in
    let view = store_of i in
    let now = front-new g c in
    let low : c.args.level + 2 < i.geometry.block_exp = omega (arith, c.front_levels.ensures, c.if-level-front_levels.true) in
    let within : c.args.level ≤ i.geometry.bottom = omega (arith, subst (λ (s : Store _). c.args.level < s.geometry.bottom + 1) (sym c.self.view_is) c.requires) in
    let one : OneShadow view.shadows now.shadows c.args.level c.saved.result = lent-back (λ xs ys. OneShadow xs ys c.args.level c.saved.result) c.deref_mut.ensures.value
    (with_items_is i.shadows.items c.set_shadow.new.shadows (c.set_shadow.ensures.many ∙ c.deref_mut.ensures.len)) c.set_shadow.ensures in
    let shadow : c.saved.result ≡ record (shadow_at view.shadows c.args.level) { saved = true } =
    c.saved.ensures ∙ ap (λ (x : Shadow). record x { saved = true }) (c.shadow_of-shadow.ensures ∙ ap (λ (xs : List Shadow). shadow_at xs c.args.level) c.deref.ensures.value) in (
      front-finished-sound g.D.Device.bytes g.D.Device.counts g.D.Device.kept view now c.args.level c.saved.result c.self.invariant refl refl refl one low within shadow refl,
      front-finished-meets g.D.Device.bytes g.D.Device.counts g.D.Device.kept view now c.args.level c.saved.result c.self.invariant refl refl refl one low within shadow refl tt,
    )

pub invariant_of-self : goal.invariant_of-self
invariant_of-self g c = (in-front g c).0

pub returns-then-level-front_levels-clause-finishes : goal.returns-then-level-front_levels-clause-finishes
returns-then-level-front_levels-clause-finishes g c =
    subst (λ (s : Store _). Finishes (state_of g.D.Device.bytes g.D.Device.counts s) (state_of g.D.Device.bytes g.D.Device.counts (front-new g c)) c.args.level (Ok tt)) c.self.view_is (in-front g c).1

pub finish_on_device-requires-clause-place : goal.finish_on_device-requires-clause-place
finish_on_device-requires-clause-place g c =
    let i = c.self.inside in
    let levels : c.args.level < i.geometry.bottom + 1 = subst (λ (s : Store _). c.args.level < s.geometry.bottom + 1) (sym c.self.view_is) c.requires in
    let device : IsOnDevice i.geometry c.args.level = record { within = omega (arith, levels); whole = omega (arith, c.front_levels.ensures, c.if-level-front_levels.false) } in
    subst (λ (xs : List Shadow). (shadow_at xs c.args.level).saved ≡ false → HasRoom i.geometry xs c.args.level) (sym c.deref_mut-2.ensures.value)
    (ends-within i.geometry i.front i.shadows.items.items i.tails c.args.level c.self.invariant.cells.shape device)

-- a finish of a level on the device: the store after it
abbrev device-new : (g : _) (c : goal.After-self-2-1 g) → Store g.row.D.Denot
device-new g c = record (store_of c.self.inside) { buffers = c.finish_on_device.new.buffers; shadows = (with_items c.self.inside.shadows.items c.finish_on_device.new.shadows).items }

-- it is sound, keeps what is kept, meets the trait, and spends what that says
on-device : (g : _) (c : goal.After-self-2-1 g) →
    IsStore (g.D.Device.bytes c.finish_on_device.new.buffers.cache.device) (device-new g c)
    × (kept_of g.D.Device.bytes g.D.Device.counts g.D.Device.kept (device-new g c) ≡ kept_of g.D.Device.bytes g.D.Device.counts g.D.Device.kept (store_of c.self.inside))
    × Finishes (state_of g.D.Device.bytes g.D.Device.counts (store_of c.self.inside)) (state_of g.D.Device.bytes g.D.Device.counts (device-new g c)) c.args.level c.finish_on_device.result
    × FinishSpends (state_of g.D.Device.bytes g.D.Device.counts (store_of c.self.inside)) (state_of g.D.Device.bytes g.D.Device.counts (device-new g c)) c.args.level
on-device g c =
    let i = c.self.inside in
    let view = store_of i in
    let now = device-new g c in
    let levels : c.args.level < i.geometry.bottom + 1 = subst (λ (s : Store _). c.args.level < s.geometry.bottom + 1) (sym c.self.view_is) c.requires in
    let device : IsOnDevice i.geometry c.args.level = record { within = omega (arith, levels); whole = omega (arith, c.front_levels.ensures, c.if-level-front_levels.false) } in
    let finished : IsFinished i.geometry (lower_of g.D.Device.bytes i.buffers view.shadows view.tails) (lower_of g.D.Device.bytes now.buffers now.shadows view.tails) c.args.level c.finish_on_device.result = lent-back
    (λ xs ys. IsFinished i.geometry (lower_of g.D.Device.bytes i.buffers xs view.tails) (lower_of g.D.Device.bytes now.buffers ys view.tails) c.args.level c.finish_on_device.result) c.deref_mut-2.ensures.value
    (with_items_is i.shadows.items c.finish_on_device.new.shadows (c.finish_on_device.auto.shadows ∙ c.deref_mut-2.ensures.len)) c.finish_on_device.ensures.finished in
    let writing = subst (λ (xs : List Shadow). Writing g.D.Device.counts g.D.Device.kept (not (shadow_at xs c.args.level).saved) i.buffers now.buffers (end_block i.geometry xs c.args.level) c.finish_on_device.result)
    c.deref_mut-2.ensures.value c.finish_on_device.ensures.writing in (
      finished-sound g.D.Device.bytes g.D.Device.counts g.D.Device.kept view now c.args.level c.finish_on_device.result c.self.invariant device refl refl finished writing (omega arith),
      finished-keeps g.D.Device.bytes g.D.Device.counts g.D.Device.kept view now c.args.level c.finish_on_device.result c.self.invariant device refl refl finished writing (omega arith),
      finished-meets g.D.Device.bytes g.D.Device.counts g.D.Device.kept view now c.args.level c.finish_on_device.result c.self.invariant device refl refl finished writing (omega arith),
      finished-spends g.D.Device.bytes g.D.Device.counts g.D.Device.kept view now c.args.level c.finish_on_device.result c.self.invariant device refl refl finished writing (omega arith),
    )

pub invariant_of-self-2 : goal.invariant_of-self-2
invariant_of-self-2 g c = (on-device g c).0

pub returns-clause-kept : goal.returns-clause-kept
returns-clause-kept g c = (on-device g c).1 ∙ ap (λ (s : Store _). kept_of g.D.Device.bytes g.D.Device.counts g.D.Device.kept s) c.self.view_is

pub returns-clause-finishes : goal.returns-clause-finishes
returns-clause-finishes g c =
    subst (λ (s : Store _). Finishes (state_of g.D.Device.bytes g.D.Device.counts s) (state_of g.D.Device.bytes g.D.Device.counts (device-new g c)) c.args.level c.finish_on_device.result) c.self.view_is (on-device g c).2

pub returns-clause-spends : goal.returns-clause-spends
returns-clause-spends g c =
    subst (λ (s : Store _). FinishSpends (state_of g.D.Device.bytes g.D.Device.counts s) (state_of g.D.Device.bytes g.D.Device.counts (device-new g c)) c.args.level) c.self.view_is (on-device g c).3
