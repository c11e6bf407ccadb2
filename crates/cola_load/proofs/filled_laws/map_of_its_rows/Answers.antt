use Rattle.cola_load.proofs.FilledMaps.{map-again, are-rows}
use Rattle.cola_load.proofs.filled_laws.map_of_its_rows.Goals as goal

pub returns : goal.returns
returns c = record { again = map-again; are_rows = are-rows }
