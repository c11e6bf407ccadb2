-- The entries of the table are `c.self.inside.entries`; the map is theirs.
use Rattle.std.proofs.Common.{suc, drop, map, refl, ◌∙◌, sym, arith, add-one}
use Rattle.std.specs.List.{filter}
use Rattle.cola_spec.specs.Map.{pair_of}
use Rattle.cola_table.proofs.FlatMap.{entries_map_of}
use Rattle.cola_table.proofs.Ranges.{is_ahead, ahead_end, ahead_past, ahead_first}
use Rattle.cola_table.proofs.flat.FlatTableTable.next.Goals as goal

-- no entry is left
pub returns-then-walk-len-clause-answer : goal.returns-then-walk-len-clause-answer
returns-then-walk-len-clause-answer g c m pairs is ahead =
    let end = ahead_end c.args.walk.now.high c.self.inside.entries.list c.args.walk.now.place (omega (arith, c.if-walk-len.true, c.len.ensures.value)) in
    rw (ahead, ← c.self.view_is, entries_map_of _ c.self.invariant.rising) (end, sym end)

-- the next entry is not below the upper end
pub returns-then-not-is_below-clause-answer : goal.returns-then-not-is_below-clause-answer
returns-then-not-is_below-clause-answer g c m pairs is ahead =
    let past = ahead_past c.args.walk.now.high c.self.inside.entries.list c.args.walk.now.place c.at.result.now c.self.invariant.rising (omega (arith, c.if-walk-len.false, c.len.ensures.value)) (rw (c.at.ensures, ← c.key.ensures) (sym c.is_below.ensures ∙ c.if-not-is_below.true)) in
    rw (ahead, ← c.self.view_is, entries_map_of _ c.self.invariant.rising) (past, sym past)

pub overflow_add-walk : goal.overflow_add-walk
overflow_add-walk g c = omega (arith, c.if-walk-len.false, c.len.ensures.small)

-- it is, and its pair is the next
pub returns-clause-answer : goal.returns-clause-answer
returns-clause-answer g c m pairs is ahead =
    let first = ahead_first c.args.walk.now.high c.self.inside.entries.list c.args.walk.now.place c.at.result.now (omega (arith, c.if-walk-len.false, c.len.ensures.value)) (rw (c.at.ensures, ← c.key.ensures) (sym c.is_below.ensures ∙ c.if-not-is_below.false)) in
    let rest = filter (is_ahead c.args.walk.now.high) (drop (suc c.args.walk.now.place) (map pair_of c.self.inside.entries.list)) in
    rw (ahead, ← c.self.view_is, entries_map_of _ c.self.invariant.rising) (rest, rw (first, c.at.ensures, c.key-2.ensures, c.value.ensures) refl, rw add-one refl)
