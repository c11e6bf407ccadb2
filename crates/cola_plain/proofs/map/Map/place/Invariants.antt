use Rattle.cola_spec.specs.Map.{Stored}
use Rattle.cola_plain.proofs.MapLemmas.{IsPast}
use Rattle.cola_plain.proofs.map.Map.place.Given as goal

abbrev pub invariant-loop-i : goal.invariant-loop-i
invariant-loop-i l = (new : Stored) → IsPast l.key new l.self.entries.items l.i
