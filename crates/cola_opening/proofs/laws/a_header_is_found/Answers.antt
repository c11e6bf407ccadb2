use Rattle.cola_opening.proofs.Apart.{header-found}
use Rattle.cola_opening.proofs.laws.a_header_is_found.Goals as goal

pub returns : goal.returns
returns g c = λ header bytes head before now result is has seen. header-found g.D.Device header bytes head before now result is has seen
