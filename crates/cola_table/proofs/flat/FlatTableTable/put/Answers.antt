-- The entries of the table are `c.self.inside.entries`; the map is theirs.
use Rattle.std.proofs.Common.{◌<◌, length, sym, refl, arith}
use Rattle.cola_table.proofs.FlatMap.{fits_flat, flat-set, flat-insert, outcome_old, after_old, outcome_new, after_new, outcome_full}
use Rattle.cola_table.proofs.flat.FlatTableTable.put.Goals as goal

-- the key is there: its entry is written over
pub invariant_of-self : goal.invariant_of-self
invariant_of-self g c =
    let fits = fits_flat c.self.inside.entries.limit c.args.key.now c.args.value.now (rw c.new-entry.ensures.value at c.new-entry.ensures.some) c.requires.key_fits c.requires.value_fits in
    rw (c.replace.ensures, c.new-entry.ensures.value) (flat-set _ _ c.self.invariant c.args.key.now _ c.in-Ok.place c.in-Ok.ensures.found fits)

pub returns-in-Ok-clause-answer : goal.returns-in-Ok-clause-answer
returns-in-Ok-clause-answer g c m is =
    let old = outcome_old c.self.inside.entries.limit c.self.inside.entries.list c.self.invariant c.args.key.now c.in-Ok.place c.at.result.now c.in-Ok.ensures.found in
    rw (is, ← c.self.view_is) (
      rw (old, c.at.ensures, c.value-old.ensures) refl,
      rw (c.replace.ensures, c.new-entry.ensures.value) (sym (after_old _ _ c.self.invariant c.args.key.now c.args.value.now c.in-Ok.place c.in-Ok.ensures.found)),
    )

-- it is not there, and there is room
pub invariant_of-self-in-Err : goal.invariant_of-self-in-Err
invariant_of-self-in-Err g c =
    let fits = fits_flat c.self.inside.entries.limit c.args.key.now c.args.value.now (rw c.new-entry.ensures.value at c.new-entry.ensures.some) c.requires.key_fits c.requires.value_fits in
    rw (c.insert.ensures, c.new-entry.ensures.value) (flat-insert _ _ c.self.invariant c.args.key.now _ c.in-Err.place c.in-Err.ensures.absent (grind (arith, c.is_full.ensures.1, c.if-is_full.false)) fits)

pub returns-else-is_full-clause-answer : goal.returns-else-is_full-clause-answer
returns-else-is_full-clause-answer g c m is =
    let room : length c.self.inside.entries.list < c.self.inside.entries.limit = grind (arith, c.is_full.ensures.1, c.if-is_full.false) in
    rw (is, ← c.self.view_is) (
      sym (outcome_new _ _ c.self.invariant c.args.key.now c.in-Err.place c.in-Err.ensures.absent room),
      rw (c.insert.ensures, c.new-entry.ensures.value) (sym (after_new _ _ c.self.invariant c.args.key.now c.args.value.now c.in-Err.place c.in-Err.ensures.absent room)),
    )

-- and there is none
pub returns-then-is_full-clause-answer : goal.returns-then-is_full-clause-answer
returns-then-is_full-clause-answer g c m is = rw (is, ← c.self.view_is) (outcome_full _ _ c.self.invariant c.args.key.now c.in-Err.place c.in-Err.ensures.absent (c.is_full.ensures.0 c.if-is_full.true), refl)
