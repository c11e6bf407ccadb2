use Rattle.std.proofs.Common.{◌≡◌, ℕ, ◌*◌, false, List, Option, Some, None, refl, sym, ap, ◌∙◌}
use Rattle.cola_device.specs.Bytes.{Gives, part}
use Rattle.cola_cache.specs.Blocks.{last_in}
use Rattle.cola_cache.proofs.BlocksLemmas.{in-file, own-given}
use Rattle.cola_cache.proofs.buffers.Buffers.copy.Goals as goal

pub lent_to-requires-clause-inside : goal.lent_to-requires-clause-inside
lent_to-requires-clause-inside g c = λ block is.
    let sound = c.self.invariant.1 in
    in-file (g.D.Device.bytes c.self.inside.device.device) block c.self.inside.many c.self.inside.device.size
    (sound.lasts_are c.args.buffer block (ap (λ (xs : List (Option ℕ)). last_in xs c.args.buffer) (sym c.deref.ensures.value) ∙ is)) sound.inside sound.fits

pub bytes_of-requires : goal.bytes_of-requires
bytes_of-requires g c =
    let is : (last_in c.self.inside.lasts.items.items c.args.buffer ≡ Some c.in-Some-borrowed.block) × (last_in c.self.inside.shares.items.items c.args.buffer ≡ Some c.in-Some-borrowed.frame) = rw (c.deref-2.ensures.value, c.deref-3.ensures.value) at c.in-Some-borrowed.ensures.some in
    c.self.invariant.3 c.args.buffer c.in-Some-borrowed.block is.0 (λ none. let both : Some c.in-Some-borrowed.frame ≡ None = sym is.1 ∙ none in cc)

pub returns-in-Some-borrowed-clause-given : goal.returns-in-Some-borrowed-clause-given
returns-in-Some-borrowed-clause-given g c = λ held is_held.
    let there : last_in c.self.inside.lasts.items.items c.args.buffer ≡ Some c.in-Some-borrowed.block = rw c.deref-2.ensures.value at c.in-Some-borrowed.ensures.some.0 in
    let now : last_in c.self.inside.lasts.items.items c.args.buffer ≡ Some held = rw (← c.self.view_is) at is_held in
    let same : held ≡ c.in-Some-borrowed.block = (let both : Some held ≡ Some c.in-Some-borrowed.block = sym now ∙ there in cc) in
    rw (same, ← c.self.view_is) c.bytes_of.ensures.given

pub returns-in-None-clause-given : goal.returns-in-None-clause-given
returns-in-None-clause-given g c = λ held is_held.
    let now : last_in c.self.inside.lasts.items.items c.args.buffer ≡ Some held = rw (← c.self.view_is) at is_held in
    let lent_not : g.D.Device.lends ≡ false = c.in_default.ensures.none refl held (ap (λ (xs : List (Option ℕ)). last_in xs c.args.buffer) c.deref.ensures.value ∙ now) in
    let free : last_in c.self.inside.shares.items.items c.args.buffer ≡ None =
    ap (λ (xs : List (Option ℕ)). last_in xs c.args.buffer) (sym c.deref-3.ensures.value) ∙ c.in-None.ensures.none refl held (ap (λ (xs : List (Option ℕ)). last_in xs c.args.buffer) c.deref-2.ensures.value ∙ now) in
    let given : Gives (g.D.Device.bytes c.self.inside.device.device) (held * c.self.inside.size) (part c.self.inside.copies.items.items (c.args.buffer * c.self.inside.size) c.self.inside.size) =
    own-given g.D.Device.lends (g.D.Device.bytes c.self.inside.device.device) (held * c.self.inside.size) (part c.self.inside.copies.items.items (c.args.buffer * c.self.inside.size) c.self.inside.size) lent_not (c.self.invariant.2.agree c.args.buffer held (now, free)) in
    rw (c.own_copy.ensures, c.deref-in-None.ensures.value, ← c.self.view_is, ← c.self.invariant.0) given
