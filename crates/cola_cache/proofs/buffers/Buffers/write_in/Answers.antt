use Rattle.std.proofs.Common.{◌≡◌, ◌<◌, ◌≤◌, ◌+◌, ◌*◌, ℕ, List, Option, length, map, Some, sym, ap, subst, ◌∙◌}
use Rattle.std.proofs.lemmas.List.{with_items_is}
use Rattle.std.specs.Vec.{with_items}
use Rattle.cola_device.specs.Bytes.{HasRange}
use Rattle.cola_device.proofs.ToldLemmas.{HasRange-Wrote}
use Rattle.cola_cache.specs.Blocks.{Made, Since, forgotten, last_in, to_copy}
use Rattle.cola_cache.proofs.BlocksLemmas.{sound-after, lasts-written, copies-written, shared-written, write-inside, held-written, since-unread, held-after, wrote-copied, range-copied}
use Rattle.cola_cache.proofs.buffers.Buffers.write_in.Goals as goal

pub invariant_of-self : goal.invariant_of-self
invariant_of-self g c =
    let i = c.self.inside in
    let write = c.write.ensures in
    let made : Made = record { reads = i.made_reads; faults = i.made_faults } in
    let sound = c.self.invariant.1 in
    let less : c.args.block < i.many = rw (← c.self.view_is) at c.requires.block in
    let begins : c.args.block * i.device.size ≤ c.args.at = rw (← c.self.view_is) at c.requires.begins in
    let ends : c.args.at + length c.args.from.now ≤ c.args.block * i.device.size + i.device.size = rw (← c.self.view_is) at c.requires.ends in
    let told = g.D.Device.bytes i.device.device in
    let now = g.D.Device.bytes c.write.new.self.device in
    let inside : HasRange told c.args.at (length c.args.from.now) = write-inside told c.args.block i.many i.device.size c.args.at (length c.args.from.now) less sound.inside begins ends in
    let forgot : c.forget.new.lasts ≡ map (forgotten c.args.block) i.lasts.items.items = c.forget.ensures ∙ ap (λ (held : List (Option ℕ)). map (forgotten c.args.block) held) c.deref_mut.ensures.value in
    let lasts : (with_items i.lasts.items c.forget.new.lasts).items ≡ map (forgotten c.args.block) i.lasts.items.items = with_items_is i.lasts.items c.forget.new.lasts (c.forget.auto.lasts ∙ c.deref_mut.ensures.len) ∙ forgot in
    let since : Since i.many i.device.blocks c.write.new.self.held made (g.D.Device.counts c.write.new.self.device) =
    since-unread i.many i.device.blocks 1 0 i.device.held c.write.new.self.held made (g.D.Device.counts i.device.device) (g.D.Device.counts c.write.new.self.device) c.write.result sound.since write.counts
    (held-written c.write.result i.many i.device.size c.args.at (length c.args.from.now) i.device.held c.write.new.self.held write.ok write.err sound.since.held_are) write.ok in (
      c.self.invariant.0 ∙ sym write.settings.1,
      sound-after told now (g.D.Device.counts i.device.device) (g.D.Device.counts c.write.new.self.device) i.device c.write.new.self i.lasts.items.items (with_items i.lasts.items c.forget.new.lasts).items i.many made
          sound (HasRange-Wrote c.write.result c.args.at c.args.from.now told now 0 (i.many * i.device.size) write.wrote inside sound.inside)
          write.settings.0 write.settings.1
          (subst (λ (held : List (Option ℕ)). (other last : ℕ) → last_in held other ≡ Some last → last < i.many) (sym lasts) (lasts-written i.lasts.items.items c.args.block i.many sound.lasts_are))
          (subst (λ (blocks : ℕ). Since i.many blocks c.write.new.self.held made (g.D.Device.counts c.write.new.self.device)) (sym write.settings.0) since),
      rw lasts (copies-written c.write.result (to_copy g.D.Device.lends told) (to_copy g.D.Device.lends now) c.args.block c.args.at i.size c.args.from.now i.copies.items.items i.lasts.items.items i.shares.items.items (wrote-copied g.D.Device.lends c.write.result told now c.args.at c.args.from.now write.wrote) (range-copied g.D.Device.lends told c.args.at (length c.args.from.now) inside)
          (rw c.self.invariant.0 begins) (rw c.self.invariant.0 ends) c.self.invariant.2),
      rw lasts (shared-written c.write.result c.args.block i.device c.write.new.self i.lasts.items.items i.shares.items.items
          (held-after c.write.result c.args.block c.args.at (length c.args.from.now) i.device c.write.new.self c.requires.some begins ends write.ok write.err) c.self.invariant.3),
    )

pub returns-clause-held : goal.returns-clause-held
returns-clause-held g c =
    held-after c.write.result c.args.block c.args.at (length c.args.from.now) c.args.self.now.cache c.write.new.self c.requires.some c.requires.begins c.requires.ends (rw (← c.self.view_is) c.write.ensures.ok) (rw (← c.self.view_is) c.write.ensures.err)
