-- The entries of the table are `c.self.inside.entries`; the map is theirs.
use Rattle.std.proofs.Common.{sym, refl}
use Rattle.cola_table.proofs.FlatMap.{flat-remove, value_at, value_none, after_gone, after_none}
use Rattle.cola_table.proofs.flat.FlatTableTable.delete.Goals as goal

-- the key is there: its entry is taken out
pub invariant_of-self : goal.invariant_of-self
invariant_of-self g c = rw c.remove.ensures.kept (flat-remove _ _ c.self.invariant c.args.key.now c.in-Ok.place c.in-Ok.ensures.found)

pub returns-in-Ok-clause-answer : goal.returns-in-Ok-clause-answer
returns-in-Ok-clause-answer g c m is =
    rw (is, ← c.self.view_is) (
      rw (value_at _ _ c.self.invariant c.args.key.now c.in-Ok.place c.remove.result c.in-Ok.ensures.found, c.remove.ensures.entry, c.value.ensures) refl,
      rw c.remove.ensures.kept (sym (after_gone _ _ c.self.invariant c.args.key.now c.in-Ok.place c.in-Ok.ensures.found)),
    )

-- it is not there
pub returns-in-Err-clause-answer : goal.returns-in-Err-clause-answer
returns-in-Err-clause-answer g c m is =
    rw (is, ← c.self.view_is) (
      sym (value_none _ _ c.self.invariant c.args.key.now c.in-Err.field-0 c.in-Err.ensures.absent),
      sym (after_none _ _ c.self.invariant c.args.key.now c.in-Err.field-0 c.in-Err.ensures.absent),
    )
