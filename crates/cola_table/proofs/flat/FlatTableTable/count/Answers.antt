use Rattle.std.proofs.Common.{◌∙◌, sym, arith, rules}
use Rattle.cola_table.proofs.FlatMap.{count_map_of, entries_map_of}
use Rattle.cola_table.proofs.flat.FlatTableTable.count.Goals as goal

pub returns-clause-counted : goal.returns-clause-counted
returns-clause-counted c m is = rw (is, ← c.self.view_is) (c.len.ensures.value ∙ sym (count_map_of _ c.self.invariant.rising))

pub returns-clause-is_map : goal.returns-clause-is_map
returns-clause-is_map c m is = rw (is, ← c.self.view_is) (record {
  within = rw (count_map_of _ c.self.invariant.rising) c.self.invariant.within;
  fitting = rw (entries_map_of _ c.self.invariant.rising) c.self.invariant.fitting;
  last_given = omega arith;
  unstamped = search rules;
})
