use Rattle.std.proofs.Common.{inl, inr}
use Rattle.cola_wide.proofs.laws.devices_fail.Goals as goal

pub returns-clause-places : goal.returns-clause-places
returns-clause-places g c = λ from from' to to' failed. elim failed [
  | inl first ↦ inl (first.source, first.untouched)
  | inr later ↦ inr (
    later.0,
    elim later.1 [
      | inl laying ↦ inl (laying.source, laying.failed)
      | inr begun ↦ inr (elim begun [
        | inl copying ↦ (copying.was, (copying.was_empty, inl copying.copy_is))
        | inr last ↦ (last.was, (last.was_empty, inr last.copy_is))
      ])
    ],
  )
]
