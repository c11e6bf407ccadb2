use Rattle.std.proofs.Common.{refl}
use Rattle.cola_table.proofs.FlatMap.{get_map_of}
use Rattle.cola_table.proofs.flat.FlatTableTable.get.Goals as goal

pub returns-clause-answer : goal.returns-clause-answer
returns-clause-answer g c m is = rw (is, ← c.self.view_is) (rw (get_map_of _ c.self.invariant.rising) c.find.ensures, refl)
