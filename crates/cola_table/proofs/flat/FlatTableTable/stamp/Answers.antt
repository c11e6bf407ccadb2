use Rattle.std.proofs.Common.{refl}
use Rattle.cola_table.proofs.FlatMap.{get_map_of, no_stamps}
use Rattle.cola_table.proofs.flat.FlatTableTable.stamp.Goals as goal

pub stamp_of-requires-clause-unstamped : goal.stamp_of-requires-clause-unstamped
stamp_of-requires-clause-unstamped g c = no_stamps _ _ c.self.invariant

pub returns-clause-answer : goal.returns-clause-answer
returns-clause-answer g c m is = rw (is, ← c.self.view_is) (rw (get_map_of _ c.self.invariant.rising) c.stamp_of.ensures, refl)
