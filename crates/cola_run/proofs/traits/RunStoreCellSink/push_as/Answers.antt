use Rattle.std.proofs.Common.{◌≡◌, ◌<◌, ◌^◌, ◌+◌, ◌*◌, ◌%◌, ◌≤◌, ap, sym, subst, ◌∙◌, arith, ℕ, List, length, Err, Result, Ok, refl}
use Rattle.std.proofs.lemmas.List.{with_items_is}
use Rattle.std.specs.Vec.{with_items}
use Rattle.cola_cell.specs.declared.fault.PushFault.{PushFault}
use Rattle.cola_cell.specs.declared.sink.Shadow.{Shadow}
use Rattle.cola_cell.specs.Packed.{passed}
use Rattle.cola_cell.specs.Decoded.{spelling}
use Rattle.cola_cell.specs.Flat.{shadow_at}
use Rattle.cola_cell.specs.Format.{width}
use Rattle.cola_cell.specs.Places.{slot_size}
use Rattle.cola_cell.specs.Shadows.{push_ticks, Pushes, PushSpends}
use Rattle.cola_device.specs.Bytes.{splice}
use Rattle.cola_front.specs.Front.{front_with}
use Rattle.cola_run.specs.Cells.{IsOnDevice, Lower, end_number, end_block, tail_number}
use Rattle.cola_run.specs.Parts.{fills, lengthened, OneShadow, IsLengthened, IsPushed, MetFault}
use Rattle.cola_run.specs.Turns.{Writing}
use Rattle.cola_run.specs.Store.{Store, IsStore, lower_of, state_of, kept_of}
use Rattle.cola_cell.specs.Spent.{Ticks}
use Rattle.cola_cell.specs.declared.fault.PushFault.TheVariants as push
use Rattle.cola_run.proofs.Pushing.{pushed-sound, pushed-keeps, pushed-meets, pushed-spends}
use Rattle.cola_run.proofs.Fronting.{front-pushed-sound, front-pushed-meets}
use Rattle.cola_run.proofs.Views.{store_of, lent-back}
use Rattle.cola_run.proofs.traits.RunStoreCellSink.push_as.Goals as goal

-- a push that finds room makes a tick
ticked-by : (ticked : ℕ) (result : Result (Unit {0}) PushFault) → MetFault result → Ticks ticked ((ticked + 1) % 2 ^ 64) (push_ticks result)
ticked-by ticked (Ok value) fault = omega arith
ticked-by ticked (Err push.Device) fault = omega arith
ticked-by ticked (Err (push.Overfull level)) fault = absurd fault

-- a push to a level of the front: the store after it
abbrev front-new : (g : _) (c : goal.After-self-then-level-front_levels-1 g) → Store g.row.D.Denot
front-new g c = record (store_of c.self.inside) {
  front = c.push_in_front.new.front;
  shadows = (with_items c.self.inside.shadows.items c.push_in_front.new.shadows).items;
  ticked = (c.self.inside.ticked + 1) % 2 ^ 64;
}

-- it is sound and meets the trait
in-front : (g : _) (c : goal.After-self-then-level-front_levels-1 g) →
    IsStore (g.D.Device.bytes c.self.inside.buffers.cache.device) (front-new g c)
    × Pushes (state_of g.D.Device.bytes g.D.Device.counts (store_of c.self.inside)) (state_of g.D.Device.bytes g.D.Device.counts (front-new g c)) c.args.level (passed c.args.pass c.args.cell.now) (Ok (tt {0}))
in-front g c =
    let i = c.self.inside in
    let view = store_of i in
    let now = front-new g c in
    let low : c.args.level + 2 < i.geometry.block_exp = omega (arith, c.front_levels.ensures, c.if-level-front_levels.true) in
    let within : c.args.level ≤ i.geometry.bottom = omega (arith, subst (λ (s : Store _). c.args.level < s.geometry.bottom + 1) (sym c.self.view_is) c.requires.level_in) in
    let old = shadow_at view.shadows c.args.level in
    let of_old : c.shadow_of-len.result ≡ old = c.shadow_of-len.ensures ∙ ap (λ (xs : List Shadow). shadow_at xs c.args.level) c.deref.ensures.value in
    let lens : c.shadow_of-len.result.len ≡ old.len = ap (λ (x : Shadow). x.len) of_old in
    let size = c.cells_of_slot.ensures in
    let room : old.len < slot_size c.args.level = omega (arith, (c.self.invariant.cells.shape.shadows_fit c.args.level within).within, lens, size, c.if-len-cells_of_slot.false) in
    let next : Shadow = lengthened i.geometry old in
    let one : OneShadow view.shadows now.shadows c.args.level next = lent-back (λ xs ys. OneShadow xs ys c.args.level (lengthened i.geometry (shadow_at xs c.args.level))) c.deref_mut.ensures.value
    (with_items_is i.shadows.items c.push_in_front.new.shadows (c.push_in_front.auto.shadows ∙ c.deref_mut.ensures.len)) c.push_in_front.ensures.shadow in
    let put : now.front ≡ front_with i.front (end_number view.shadows c.args.level) (passed c.args.pass c.args.cell.now) =
    subst (λ (xs : List Shadow). now.front ≡ front_with i.front (end_number xs c.args.level) (passed c.args.pass c.args.cell.now)) c.deref_mut.ensures.value c.push_in_front.ensures.front in
    let inside : end_number view.shadows c.args.level < length i.front.cells =
    subst (λ (xs : List Shadow). end_number xs c.args.level < length i.front.cells) c.deref_mut.ensures.value c.push_in_front.ensures.within in (
      front-pushed-sound g.D.Device.bytes g.D.Device.counts g.D.Device.kept view now c.args.level next c.self.invariant refl refl refl one (passed c.args.pass c.args.cell.now) low within room put inside refl,
      front-pushed-meets g.D.Device.bytes g.D.Device.counts g.D.Device.kept view now c.args.level next c.self.invariant refl refl refl one (passed c.args.pass c.args.cell.now) low within room put inside refl tt,
    )

pub invariant_of-self : goal.invariant_of-self
invariant_of-self g c = (in-front g c).0

pub returns-then-level-front_levels-clause-pushes : goal.returns-then-level-front_levels-clause-pushes
returns-then-level-front_levels-clause-pushes g c =
    subst (λ (s : Store _). Pushes (state_of g.D.Device.bytes g.D.Device.counts s) (state_of g.D.Device.bytes g.D.Device.counts (front-new g c)) c.args.level (passed c.args.pass c.args.cell.now) (Ok tt)) c.self.view_is (in-front g c).1

-- a push to a level on the device: the store after it
abbrev device-new : (g : _) (c : goal.After-self-2-1 g) → Store g.row.D.Denot
device-new g c = record (store_of c.self.inside) {
  buffers = c.lengthen_on_device.new.buffers;
  shadows = (with_items c.self.inside.shadows.items c.lengthen_on_device.new.shadows).items;
  tails = c.put.new.self;
  ticked = (c.self.inside.ticked + 1) % 2 ^ 64;
}

-- it is sound, keeps what is kept, meets the trait, and spends what that says
on-device : (g : _) (c : goal.After-self-2-1 g) →
    IsStore (g.D.Device.bytes c.lengthen_on_device.new.buffers.cache.device) (device-new g c)
    × (kept_of g.D.Device.bytes g.D.Device.counts g.D.Device.kept (device-new g c) ≡ kept_of g.D.Device.bytes g.D.Device.counts g.D.Device.kept (store_of c.self.inside))
    × Pushes (state_of g.D.Device.bytes g.D.Device.counts (store_of c.self.inside)) (state_of g.D.Device.bytes g.D.Device.counts (device-new g c)) c.args.level (passed c.args.pass c.args.cell.now) c.lengthen_on_device.result
    × PushSpends (state_of g.D.Device.bytes g.D.Device.counts (store_of c.self.inside)) (state_of g.D.Device.bytes g.D.Device.counts (device-new g c)) c.args.level c.lengthen_on_device.result
on-device g c =
    let i = c.self.inside in
    let view = store_of i in
    let now = device-new g c in
    let levels : c.args.level < i.geometry.bottom + 1 = subst (λ (s : Store _). c.args.level < s.geometry.bottom + 1) (sym c.self.view_is) c.requires.level_in in
    let device : IsOnDevice i.geometry c.args.level = record { within = omega (arith, levels); whole = omega (arith, c.front_levels.ensures, c.if-level-front_levels.false) } in
    let old = shadow_at view.shadows c.args.level in
    let of_old : c.shadow_of-len.result ≡ old = c.shadow_of-len.ensures ∙ ap (λ (xs : List Shadow). shadow_at xs c.args.level) c.deref.ensures.value in
    let lens : c.shadow_of-len.result.len ≡ old.len = ap (λ (x : Shadow). x.len) of_old in
    let size = c.cells_of_slot.ensures in
    let room : old.len < slot_size c.args.level = omega (arith, (c.self.invariant.cells.shape.shadows_fit c.args.level device.within).within, lens, size, c.if-len-cells_of_slot.false) in
    let before : List Shadow → List ℕ → Lower = lower_of g.D.Device.bytes i.buffers in
    let after : List Shadow → List ℕ → Lower = lower_of g.D.Device.bytes now.buffers in
    let grew : IsLengthened i.geometry (before view.shadows now.tails) (after now.shadows now.tails) c.args.level c.lengthen_on_device.result =
    lent-back (λ xs ys. IsLengthened i.geometry (before xs now.tails) (after ys now.tails) c.args.level c.lengthen_on_device.result) c.deref_mut-2.ensures.value
    (with_items_is i.shadows.items c.lengthen_on_device.new.shadows (c.lengthen_on_device.auto.shadows ∙ c.deref_mut-2.ensures.len)) c.lengthen_on_device.ensures.lengthened in
    let pushed : IsPushed i.geometry (before view.shadows view.tails) (after now.shadows now.tails) c.args.level (passed c.args.pass c.args.cell.now) c.lengthen_on_device.result =
    record {
      tails = c.put.ensures.put ∙ ap (λ (n : ℕ). splice i.tails (width i.geometry.format * tail_number i.geometry c.args.level n) (spelling i.geometry.format (passed c.args.pass c.args.cell.now))) lens;
      longer = record { shadow = grew.shadow; device = grew.device; fault = grew.fault };
      spelled = c.put.ensures.spelled;
    } in
    let writing = subst (λ (xs : List Shadow). Writing g.D.Device.counts g.D.Device.kept (fills i.geometry (shadow_at xs c.args.level).len) i.buffers now.buffers (end_block i.geometry xs c.args.level) c.lengthen_on_device.result)
    c.deref_mut-2.ensures.value c.lengthen_on_device.ensures.writing in
    let ticks = ticked-by i.ticked c.lengthen_on_device.result grew.fault in (
      pushed-sound g.D.Device.bytes g.D.Device.counts g.D.Device.kept view now c.args.level (passed c.args.pass c.args.cell.now) c.lengthen_on_device.result c.self.invariant device room refl refl pushed writing ticks,
      pushed-keeps g.D.Device.bytes g.D.Device.counts g.D.Device.kept view now c.args.level (passed c.args.pass c.args.cell.now) c.lengthen_on_device.result c.self.invariant device room refl refl pushed writing ticks,
      pushed-meets g.D.Device.bytes g.D.Device.counts g.D.Device.kept view now c.args.level (passed c.args.pass c.args.cell.now) c.lengthen_on_device.result c.self.invariant device room refl refl pushed writing ticks,
      pushed-spends g.D.Device.bytes g.D.Device.counts g.D.Device.kept view now c.args.level (passed c.args.pass c.args.cell.now) c.lengthen_on_device.result c.self.invariant device room refl refl pushed writing ticks,
    )

pub invariant_of-self-2 : goal.invariant_of-self-2
invariant_of-self-2 g c = (on-device g c).0

pub returns-clause-kept : goal.returns-clause-kept
returns-clause-kept g c = (on-device g c).1 ∙ ap (λ (s : Store _). kept_of g.D.Device.bytes g.D.Device.counts g.D.Device.kept s) c.self.view_is

pub returns-clause-pushes : goal.returns-clause-pushes
returns-clause-pushes g c =
    subst (λ (s : Store _). Pushes (state_of g.D.Device.bytes g.D.Device.counts s) (state_of g.D.Device.bytes g.D.Device.counts (device-new g c)) c.args.level (passed c.args.pass c.args.cell.now) c.lengthen_on_device.result) c.self.view_is (on-device g c).2

pub returns-clause-spends : goal.returns-clause-spends
returns-clause-spends g c =
    subst (λ (s : Store _). PushSpends (state_of g.D.Device.bytes g.D.Device.counts s) (state_of g.D.Device.bytes g.D.Device.counts (device-new g c)) c.args.level c.lengthen_on_device.result) c.self.view_is (on-device g c).3
