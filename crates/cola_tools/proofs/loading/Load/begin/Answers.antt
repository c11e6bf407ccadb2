use Rattle.std.proofs.Common.{◌≡◌, ◌∙◌, ℕ, List, length, Option, refl, sym, ap, subst, arith}
use Rattle.cola_layout.proofs.Refusing.{zeros-from_each}
use Rattle.cola_mapped.specs.Region.{bytes_in}
use Rattle.cola_run.specs.Cells.{file_bytes}
use Rattle.cola_tools.specs.Growing.{AreZero}
use Rattle.cola_tools.specs.New.{Place}
use Rattle.cola_tools.specs.Loading.{HasBegun}
use Rattle.cola_tools.proofs.Loaded.{each-zero, is-begun, same-place}
use Rattle.cola_tools.proofs.loading.Load.begin.Goals as goal

pub returns-then-size-size_of-clause-cause : goal.returns-then-size-size_of-clause-cause
returns-then-size-size_of-clause-cause c =
    let same : length (bytes_in c.of-lent.result.bytes) ≡ length (bytes_in c.args.region.bytes) = ap (λ (b : Option (List ℕ)). length (bytes_in b)) c.of-lent.ensures.bytes in
    let whole : c.size_of.result ≡ file_bytes c.in-Some.geometry = c.size_of.ensures.value in
    (c.in-Some.geometry, (c.in-Some.ensures.sizes, omega (arith, c.if-size-size_of.true, c.size.ensures.value, whole, same)))

pub returns-then-not-is_zero-clause-cause : goal.returns-then-not-is_zero-clause-cause
returns-then-not-is_zero-clause-cause c =
    let same : length (bytes_in c.of-lent.result.bytes) ≡ length (bytes_in c.args.region.bytes) = ap (λ (b : Option (List ℕ)). length (bytes_in b)) c.of-lent.ensures.bytes in
    let whole : c.size_of.result ≡ file_bytes c.in-Some.geometry = c.size_of.ensures.value in
    let shown : bytes_in c.args.region.bytes ≡ c.shown.result.now = sym (ap bytes_in c.of-lent.ensures.bytes) ∙ ap bytes_in c.shown.ensures.value in (
      (c.in-Some.geometry, (c.in-Some.ensures.sizes, omega (arith, c.if-size-size_of.false, c.size.ensures.value, whole, same))),
      λ zero. cc (c.is_zero.ensures.1 (each-zero c.shown.result.now (subst AreZero shown zero)), c.if-not-is_zero.true),
    )

pub begin_in-requires-clause-zero : goal.begin_in-requires-clause-zero
begin_in-requires-clause-zero c =
    subst AreZero (sym (ap bytes_in c.shown.ensures.value)) (zeros-from_each (length c.shown.result.now) c.shown.result.now refl (c.is_zero.ensures.0 c.if-not-is_zero.false))

pub returns-in-Ok-clause-begun : goal.returns-in-Ok-clause-begun
returns-in-Ok-clause-begun c =
    let bytes : bytes_in c.of-lent.result.bytes ≡ bytes_in c.args.region.bytes = ap bytes_in c.of-lent.ensures.bytes in
    let whole : c.size_of.result ≡ file_bytes c.in-Some.geometry = c.size_of.ensures.value in
    let zero : AreZero c.shown.result.now = zeros-from_each (length c.shown.result.now) c.shown.result.now refl (c.is_zero.ensures.0 c.if-not-is_zero.false) in
    is-begun c.args.keys c.args.block_exp c.args.version (bytes_in c.args.region.bytes) c.in-Some.geometry _ c.in-Ok.load c.in-Some.ensures.sizes
    (omega (arith, c.if-size-size_of.false, c.size.ensures.value, whole, ap (λ (b : List ℕ). length b) bytes))
    (subst AreZero (sym (ap bytes_in c.shown.ensures.value) ∙ bytes) zero)
    (subst (λ (place : Place). HasBegun c.in-Some.geometry place c.in-Ok.load) (same-place _ _ _ _ _ _ c.of-lent.ensures.at c.of-lent.ensures.len bytes) c.in-Ok.ensures.begun)

pub returns-in-Err-clause-cause : goal.returns-in-Err-clause-cause
returns-in-Err-clause-cause c =
    let bytes : bytes_in c.of-lent.result.bytes ≡ bytes_in c.args.region.bytes = ap bytes_in c.of-lent.ensures.bytes in
    let whole : c.size_of.result ≡ file_bytes c.in-Some.geometry = c.size_of.ensures.value in
    let zero : AreZero c.shown.result.now = zeros-from_each (length c.shown.result.now) c.shown.result.now refl (c.is_zero.ensures.0 c.if-not-is_zero.false) in (
      (c.in-Some.geometry, (c.in-Some.ensures.sizes, omega (arith, c.if-size-size_of.false, c.size.ensures.value, whole, ap (λ (b : List ℕ). length b) bytes))),
      subst AreZero (sym (ap bytes_in c.shown.ensures.value) ∙ bytes) zero,
    )
