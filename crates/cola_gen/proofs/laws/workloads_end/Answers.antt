use Rattle.std.proofs.Common.{inl, inr}
use Rattle.cola_gen.proofs.laws.workloads_end.Goals as goal

pub returns-clause-done : goal.returns-clause-done
returns-clause-done g c = λ bound levels number old new all. (all.between, (all.first, all.second))

pub returns-clause-refused : goal.returns-clause-refused
returns-clause-refused g c = λ bound levels number fault old new ended. elim ended [
  | inl put ↦ inl put
  | inr delete ↦ inr (delete.between, (delete.first, delete.second))
]

pub returns-clause-answered : goal.returns-clause-answered
returns-clause-answered g c = λ command bound levels count old new all. (all.turns, (all.answered, all.answered.number))

pub returns-clause-stopped : goal.returns-clause-stopped
returns-clause-stopped g c = λ command bound levels count answer old new ended. (ended.place, (ended.in_range, (ended.before, (ended.turns, (ended.answered, ended.refused)))))

pub returns-clause-left : goal.returns-clause-left
returns-clause-left g c = λ number old new made. (made.map, (made.holds, (made.odd, (made.tallied.fresh, made.tallied.gone))))
