use Rattle.cola_layout.proofs.Places.{place-behind, place-covers, place-within}
use Rattle.cola_layout.proofs.law.places_cover.Goals as goal

pub returns-clause-behind : goal.returns-clause-behind
returns-clause-behind c = λ bottom j a i is. place-behind j a i

pub returns-clause-within : goal.returns-clause-within
returns-clause-within c = place-within

pub returns-clause-each : goal.returns-clause-each
returns-clause-each c = place-covers
