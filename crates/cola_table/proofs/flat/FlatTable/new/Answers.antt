use Rattle.cola_table.proofs.FlatMap.{map_of_none}
use Rattle.cola_table.proofs.flat.FlatTable.new.Goals as goal

pub returns : goal.returns
returns c = rw (c.in_ok-entries.ensures, map_of_none)
