use Rattle.std.proofs.Common.{ℕ, List, length, refl, subst, arith}
use Rattle.cola_layout.specs.Header.{IsSpelling}
use Rattle.cola_layout.proofs.Refusing.{zeros-from_each}
use Rattle.cola_store.specs.Create.{new_header}
use Rattle.cola_handle.proofs.Making.{made}
use Rattle.cola_handle.proofs.creating.create.Goals as goal

pub returns : goal.returns
returns c =
    let sizes = c.in-Some.geometry in
    let head : List ℕ = c.first_bytes-head.result in
    let bytes : List ℕ = c.args.bytes.now in
    made sizes.format c.args.keys c.args.block_exp c.args.version sizes.bottom head bytes _ c.in-Some.ensures.sizes c.first_bytes-head.ensures.size
    (subst (λ (keys : ℕ). IsSpelling (new_header sizes.format keys c.args.block_exp sizes.bottom) head) c.in-Some.ensures.keys
    (subst (λ (block_exp : ℕ). IsSpelling (new_header sizes.format sizes.keys block_exp sizes.bottom) head) c.in-Some.ensures.block c.first_bytes-head.ensures.spelled))
    (omega (arith, c.size_of.ensures.value, c.size_of.ensures.header)) (omega (arith, c.size_of.ensures.value, c.if-bytes-size_of.false))
    (zeros-from_each (length bytes) bytes refl (c.is_zero.ensures.0 c.if-not-is_zero.false)) c.put_at.ensures
