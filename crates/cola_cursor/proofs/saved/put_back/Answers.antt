use Rattle.std.proofs.Common.{◌∙◌, length, arith}
use Rattle.cola_cursor.proofs.Saving.{last_within, once_rest, restored_rest}
use Rattle.cola_cursor.proofs.saved.put_back.Goals as goal

pub offset_bounds-lines-number : goal.offset_bounds-lines-number
offset_bounds-lines-number c =
    let l = last_within (length c.loop-one.lines) c.loop-one.saved.items c.pop.new.self.items c.in-Some.one c.in-Some.ensures.items c.loop-one.invariant.once in
    let e = c.loop-one.auto.lines in
    let f = c.requires.few in
    omega (arith, l, e, f)

pub bounds-lines-number : goal.bounds-lines-number
bounds-lines-number c = last_within (length c.loop-one.lines) c.loop-one.saved.items c.pop.new.self.items c.in-Some.one c.in-Some.ensures.items c.loop-one.invariant.once

pub loop-one-preserved : goal.loop-one-preserved
loop-one-preserved c = record {
  once = once_rest c.loop-one.lines c.loop-one.saved.items c.pop.new.self.items c.in-Some.one c.in-Some.ensures.items c.loop-one.invariant.once;
  restores = restored_rest c.loop-one.lines c.loop-one.saved.items c.pop.new.self.items c.in-Some.one c.in-Some.ensures.items ∙ c.loop-one.invariant.restores;
}
