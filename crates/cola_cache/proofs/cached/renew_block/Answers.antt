use Rattle.std.proofs.Common.{◌≡◌, ℕ, ◌+◌, ◌*◌, ◌/◌, ◌≤◌, ◌≢◌, length, arith, subst, refl, ap, ◌∙◌}
use Rattle.cola_device.specs.Bytes.{part, splice, Gives}
use Rattle.cola_device.proofs.BytesLemmas.{length-part}
use Rattle.cola_cache.specs.Order.{Holds}
use Rattle.cola_cache.proofs.OrderLemmas.{holds-absent}
use Rattle.cola_cache.proofs.CacheLemmas.{apart, part-apart, renewed, slice-is, begins-at}
use Rattle.cola_cache.proofs.cached.renew_block.Goals as goal

pub returns-in-Some : goal.returns-in-Some
returns-in-Some c =
    let into : ℕ = c.piece-into.result.0 in
    let gone : ℕ = c.piece-into.result.1 in
    let count : ℕ = c.piece-into.result.2 in
    let start : ℕ = (c.args.at / c.args.size + c.args.step) * c.args.size in
    let end = apart c.in-Some.frame (length c.args.order.now) c.args.size c.in-Some.ensures.some.1 in
    let room : c.in-Some.frame * c.args.size + c.args.size ≤ length c.args.copies.now = omega (arith, end, c.requires.room) in
    let made : c.copy_in.new.copies ≡ splice c.args.copies.now (c.in-Some.frame * c.args.size + into) (part c.args.from.now gone count) =
    c.copy_in.ensures ∙ ap (splice c.args.copies.now (c.in-Some.frame * c.args.size + into)) (slice-is c.args.from.now gone count) in record {
      room = c.copy_in.auto.copies;
      here = λ told now frame written inside holds given.
          let this : frame ≡ c.in-Some.frame = c.in-Some.ensures.one frame holds in
          let found = subst (λ (number : ℕ). Gives told start (part c.args.copies.now (number * c.args.size) c.args.size)) this given in
          rw (this, made) (renewed told now c.args.from.now c.args.copies.now c.args.at start c.args.size (c.in-Some.frame * c.args.size) into gone count written inside room (omega (arith, c.requires.size))
          (begins-at c.args.at c.args.size c.args.step into gone c.piece-into.ensures.place) c.piece-into.ensures.fits c.piece-into.ensures.enough c.piece-into.ensures.head c.piece-into.ensures.tail found);
      others = λ frame block holds differ.
          let other : frame ≢ c.in-Some.frame = λ same. differ (let here = subst (λ (number : ℕ). Holds c.args.order.now number block) same holds in cc (here, c.in-Some.ensures.some.0)) in
          let long : length (part c.args.from.now gone count) ≡ count = length-part c.args.from.now gone count c.piece-into.ensures.enough in
          let fits : into + length (part c.args.from.now gone count) ≤ c.args.size = omega (arith, long, c.piece-into.ensures.fits) in
          rw made (part-apart c.args.copies.now (part c.args.from.now gone count) c.in-Some.frame frame c.args.size into other fits room);
    }

pub returns-in-None-clause-here : goal.returns-in-None-clause-here
returns-in-None-clause-here c = λ told now frame written inside holds given. absurd (holds-absent (c.args.at / c.args.size + c.args.step) frame c.args.order.now (c.in-None.ensures.none refl) holds)
