use Rattle.std.proofs.Common.{◌≡◌, ℕ, ◌+◌, ◌*◌, ◌/◌, false, List, length, arith, ap, subst, sym, ◌∙◌}
use Rattle.std.proofs.lemmas.List.{with_items_is}
use Rattle.std.specs.Prelude.{OnOk}
use Rattle.std.specs.Vec.{with_items}
use Rattle.cola_device.specs.Bytes.{HasRange}
use Rattle.cola_cache.specs.Order.{Holds, is_within}
use Rattle.cola_cache.specs.Cache.{Agree, IsWritten}
use Rattle.cola_cache.proofs.CacheLemmas.{agree-failed, written-ok}
use Rattle.cola_cache.proofs.cached.CachedDevice.write.Goals as goal

pub invariant_of-self : goal.invariant_of-self
invariant_of-self g c =
    let inside : HasRange (g.D.Device.bytes c.self.inside.device) c.args.at (length c.args.from.now) = rw (← c.self.view_is) at c.requires.inside in
    let written : IsWritten c.args.at c.args.from.now (g.D.Device.bytes c.self.inside.device) (g.D.Device.bytes c.write.new.self) =
    subst (λ result. OnOk result (IsWritten c.args.at c.args.from.now (g.D.Device.bytes c.self.inside.device) (g.D.Device.bytes c.write.new.self))) c.in-Ok.is
    (written-ok c.write.result (g.D.Device.bytes c.self.inside.device) (g.D.Device.bytes c.write.new.self) c.args.at c.args.from.now c.write.ensures.wrote) in
    let lent : c.deref_mut.result.now ≡ c.self.inside.copies.items.items = c.deref_mut.ensures.value in
    let room : length c.renew.new.copies ≡ length c.self.inside.copies.items.items = c.renew.ensures.room ∙ ap (λ (bytes : List ℕ). length bytes) lent in
    let is : (with_items c.self.inside.copies.items c.renew.new.copies).items ≡ c.renew.new.copies = with_items_is c.self.inside.copies.items c.renew.new.copies (c.renew.ensures.room ∙ c.deref_mut.ensures.len) in (
      subst (λ (bytes : List ℕ). Agree (g.D.Device.bytes c.write.new.self) c.self.inside.order bytes c.self.inside.size) (sym is)
          (c.renew.ensures.agree (g.D.Device.bytes c.self.inside.device) (g.D.Device.bytes c.write.new.self) written inside
          (subst (λ (bytes : List ℕ). Agree (g.D.Device.bytes c.self.inside.device) c.self.inside.order bytes c.self.inside.size) (sym lent) c.self.invariant.0)),
      ap (λ (bytes : List ℕ). length bytes) is ∙ (room ∙ c.self.invariant.1),
      c.self.invariant.2,
      c.self.invariant.3,
    )

pub invariant_of-self-in-Err : goal.invariant_of-self-in-Err
invariant_of-self-in-Err g c =
    let inside : HasRange (g.D.Device.bytes c.self.inside.device) c.args.at (length c.args.from.now) = rw (← c.self.view_is) at c.requires.inside in (
      agree-failed c.write.result (g.D.Device.bytes c.self.inside.device) (g.D.Device.bytes c.write.new.self) c.self.inside.order c.give_up_range.new.self c.self.inside.copies.items.items c.args.from.now c.self.inside.size c.args.at
          (omega (arith, c.self.invariant.2)) c.write.ensures.wrote inside c.self.invariant.0
          (λ other held holds. subst (λ (n : ℕ). Holds c.self.inside.order other held × (is_within (c.args.at / c.self.inside.size) (c.args.at / c.self.inside.size + n) held ≡ false)) c.touched_blocks-touched.ensures.is (c.give_up_range.ensures.same other held holds)),
      c.self.invariant.1 ∙ ap (λ (n : ℕ). n * c.self.inside.size) (sym c.give_up_range.ensures.count),
      c.self.invariant.2,
      c.self.invariant.3,
    )
