use Rattle.std.proofs.Common.{inl, inr}
use Rattle.cola_workload.proofs.laws.four_keys_are_filled.Goals as goal

pub returns-clause-done : goal.returns-clause-done
returns-clause-done g c = λ store steps new fills. (fills.given.between, (fills.given.first, fills.given.second))

pub returns-clause-refused : goal.returns-clause-refused
returns-clause-refused g c = λ store steps fault new fills. elim fills.given [
  | inl first ↦ inl first
  | inr second ↦ inr (second.between, (second.first, second.second))
]

pub returns-clause-left : goal.returns-clause-left
returns-clause-left g c = λ store steps new fills empty room. let made = fills.from_empty empty room in (made.tallied.fresh, (made.tallied.gone, (made.map, (made.holds, made.odd))))
