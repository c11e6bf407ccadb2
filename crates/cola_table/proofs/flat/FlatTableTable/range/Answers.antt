use Rattle.std.proofs.Common.{refl, arith}
use Rattle.cola_table.proofs.FlatMap.{entries_map_of}
use Rattle.cola_table.proofs.Ranges.{filter-between}
use Rattle.cola_table.proofs.flat.FlatTableTable.range.Goals as goal

pub overflow_cast-place : goal.overflow_cast-place
overflow_cast-place g c = omega (arith, c.place_of-place.ensures.small)

pub returns-clause-answer : goal.returns-clause-answer
returns-clause-answer g c m is = rw (is, ← c.self.view_is) (rw (entries_map_of _ c.self.invariant.rising, c.place_of-place.ensures.place, c.copied.ensures) (filter-between c.args.low.now _ _ c.self.invariant.rising), refl)
