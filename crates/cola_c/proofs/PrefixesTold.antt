-- What the seek of a prefix tells.
use Rattle.std.proofs.Common.{◌≡◌, true, false, length, inl, inr, leb, refl}
use Rattle.std.proofs.lemmas.Bool.{leb-true, leb-false}
use Rattle.cola_c.specs.Prefixed.{PlainSeekPrefix, SeeksOfPrefixesAreTold}

pub prefixes-told : SeeksOfPrefixesAreTold
prefixes-told prefix before after code set pairs long =
    elim (leb (length prefix) 40) as (λ b. leb (length prefix) 40 ≡ b → PlainSeekPrefix prefix before after code) [
      | true ↦ λ e. inl (leb-true (length prefix) 40 e, set e, λ m bytes. pairs m bytes e)
      | false ↦ λ e. inr (leb-false (length prefix) 40 e, (long e).0, (long e).1)
    ] refl
