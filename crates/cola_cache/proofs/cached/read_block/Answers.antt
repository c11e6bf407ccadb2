use Rattle.std.proofs.Common.{◌≡◌, ℕ, ◌+◌, ◌*◌, ◌≤◌, ◌<◌, List, length, arith, rules, ap, ◌∙◌}
use Rattle.cola_cache.specs.Order.{Holds, IsAbsent, blocks_of}
use Rattle.cola_cache.proofs.OrderLemmas.{length-used}
use Rattle.cola_cache.proofs.CacheLemmas.{apart, agree-put}
use Rattle.cola_cache.proofs.cached.read_block.Goals as goal

pub returns-in-Ok-clause-agree : goal.returns-in-Ok-clause-agree
returns-in-Ok-clause-agree g c =
    let below = apart c.admit-frame.result (length c.args.order.now) (length c.args.into.now) c.admit-frame.ensures.below in
    let room : c.admit-frame.result * length c.args.into.now + length c.args.into.now ≤ length c.args.copies.now = omega (arith, below, c.requires.room) in
    let as_many : length c.read.new.into ≡ length c.args.into.now = omega (arith, c.read.auto.into) in
    rw (c.copy_in.ensures, c.read.ensures.bytes_stay)
    (agree-put (g.D.Device.bytes c.args.device.now) c.args.copies.now c.read.new.into (length c.args.into.now) c.admit-frame.result (Holds c.args.order.now) (Holds c.admit-frame.new.self) c.requires.agree as_many room
    (λ held now. rw (c.admit-frame.ensures.here held now, ← c.requires.whole) c.in-Ok.ensures.given) c.admit-frame.ensures.same)

pub returns-in-Ok-clause-reads : goal.returns-in-Ok-clause-reads
returns-in-Ok-clause-reads g c = λ room.
    let absent : IsAbsent c.args.block (blocks_of c.args.order.now) = search rules in
    let less : length (blocks_of c.args.order.now) < length c.args.order.now = room absent in
    let more : length (blocks_of c.admit-frame.new.self) ≡ length (blocks_of c.args.order.now) + 1 =
    ap (λ (blocks : List ℕ). length blocks) c.admit-frame.ensures.blocks ∙ length-used (length c.args.order.now) c.args.block (blocks_of c.args.order.now) absent less in
    omega (arith, more, c.read.ensures.counts.reads_rise)
