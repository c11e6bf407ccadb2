use Rattle.cola_load.proofs.FilledMaps.{entries-are, count-is, rows-are, is-map}
use Rattle.cola_load.proofs.filled_laws.rows_of_their_map.Goals as goal

pub returns : goal.returns
returns c = record { entries = entries-are; counted = count-is; rows = rows-are; is_map = is-map }
