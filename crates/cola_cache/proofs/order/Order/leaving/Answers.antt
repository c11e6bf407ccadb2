use Rattle.std.proofs.Common.{◌≡◌, ◌<◌, ℕ, None, length, arith}
use Rattle.std.specs.Prelude.{IfSome}
use Rattle.std.proofs.lemmas.Bool.Decides.{nat_tests}
use Rattle.cola_cache.specs.Cache.{used}
use Rattle.cola_cache.specs.Order.{IsAbsent, Holds, blocks_of}
use Rattle.cola_cache.proofs.OrderLemmas.{absent-admitted}
use Rattle.cola_cache.proofs.order.Order.leaving.Goals as goal

pub returns : goal.returns
returns c = λ block other absent differ now.
    let some : 0 < length c.self.inside.slots.entries = grind (arith, nat_tests, c.if-self-eq0.false, c.self.invariant.2) in
    let was : IsAbsent block (blocks_of c.self.inside.slots.entries) = rw c.self.view_is absent in
    let holds : IfSome c.block_in.result (λ held. Holds c.self.inside.slots.entries c.last_of.result held) = rw c.self.view_is c.block_in.ensures.some in
    let none : c.block_in.result ≡ None → (held : ℕ) → Holds c.self.inside.slots.entries c.last_of.result held → ⊥ = rw c.self.view_is c.block_in.ensures.none in
    let after : IsAbsent other (used (length c.self.inside.slots.entries) block (blocks_of c.self.inside.slots.entries)) = rw c.self.view_is now in
    rw (← c.self.view_is) (absent-admitted c.self.inside.slots.entries c.last_of.result block other c.block_in.result c.self.invariant.0 c.last_of.ensures some was holds none differ after)
