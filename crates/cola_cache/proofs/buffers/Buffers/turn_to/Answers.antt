use Rattle.std.proofs.Common.{◌≡◌, ◌<◌, ◌*◌, ℕ, List, Option, length, set, Some, None, sym, subst, ◌∙◌}
use Rattle.std.proofs.lemmas.List.{with_items_is}
use Rattle.std.specs.Prelude.{OnOk, OnErr}
use Rattle.std.specs.Vec.{with_items}
use Rattle.cola_device.specs.Bytes.{HasRange}
use Rattle.cola_cache.specs.Blocks.{Made, last_in}
use Rattle.cola_cache.proofs.BlocksLemmas.{sound-after, lasts-turned}
use Rattle.cola_cache.proofs.buffers.Buffers.turn_to.Goals as goal

pub invariant_of-self : goal.invariant_of-self
invariant_of-self g c =
    let i = c.self.inside in
    let turned = c.turn.ensures.turned in
    let made : Made = record { reads = i.made_reads; faults = i.made_faults } in
    let less : c.args.block < i.many = rw (← c.self.view_is) at c.requires.block in
    let within : c.args.buffer < length i.lasts.items.items = rw (← c.self.view_is) at c.requires.buffer in
    let told = g.D.Device.bytes i.device.device in
    let now = g.D.Device.bytes c.turn.new.device.device in
    let lasts : (with_items i.lasts.items c.turn.new.lasts).items ≡ c.turn.new.lasts = with_items_is i.lasts.items c.turn.new.lasts (c.turn.auto.lasts ∙ c.deref_mut.ensures.len) in
    let shares : (with_items i.shares.items c.turn.new.shares).items ≡ c.turn.new.shares = with_items_is i.shares.items c.turn.new.shares (c.turn.auto.shares ∙ c.deref_mut-2.ensures.len) in
    let copies : (with_items i.copies.items c.turn.new.copies).items ≡ c.turn.new.copies = with_items_is i.copies.items c.turn.new.copies (c.turn.auto.copies ∙ c.deref_mut-3.ensures.len) in (
      c.self.invariant.0 ∙ sym turned.read.size,
      sound-after told now (g.D.Device.counts i.device.device) (g.D.Device.counts c.turn.new.device.device) i.device c.turn.new.device i.lasts.items.items (with_items i.lasts.items c.turn.new.lasts).items i.many made
          c.self.invariant.1 (subst (λ (bytes : Option (List ℕ)). HasRange bytes 0 (i.many * i.device.size)) (sym turned.read.bytes_stay) c.self.invariant.1.inside)
          turned.read.blocks turned.read.size
          (subst (λ (held : List (Option ℕ)). (other last : ℕ) → last_in held other ≡ Some last → last < i.many) (sym lasts)
          (lasts-turned c.turn.result i.lasts.items.items c.turn.new.lasts c.args.buffer c.args.block i.many within less
          (subst (λ (held : List (Option ℕ)). OnOk c.turn.result (c.turn.new.lasts ≡ set held c.args.buffer (Some c.args.block))) c.deref_mut.ensures.value turned.ok)
          (subst (λ (held : List (Option ℕ)). OnErr c.turn.result (c.turn.new.lasts ≡ set held c.args.buffer None)) c.deref_mut.ensures.value turned.err)
          c.self.invariant.1.lasts_are))
          (turned.since i.many made less c.self.invariant.1.since),
      rw (copies, lasts, shares) turned.copies,
      rw (lasts, shares) turned.shared,
    )
