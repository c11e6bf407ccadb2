use Rattle.cola_layout.proofs.Places.{place-differ}
use Rattle.cola_layout.proofs.law.places_differ.Goals as goal

pub returns : goal.returns
returns c = place-differ
