use Rattle.std.proofs.Common.{[], ◌∙◌, None, Some, cond, refl, sym, ap}
use Rattle.cola_cell.specs.Cell.{key_of}
use Rattle.cola_cursor.specs.Results.{key_in}
use Rattle.cola_cursor.proofs.Least.{least_ends}
use Rattle.cola_cursor.proofs.First.{seen_none, seen_next, seen_all}
use Rattle.cola_cursor.proofs.lines.least_key.Goals as goal

pub loop-i-init : goal.loop-i-init
loop-i-init c = seen_none c.args.falls c.args.lines.now

pub loop-i-preserved : goal.loop-i-preserved
loop-i-preserved c =
    seen_next c.args.falls c.args.lines.now c.loop-i.i c.index-lines-i.result (key_in c.loop-i.least) (key_in c.lesser-next.result.0) c.loop-i.first c.lesser-next.result.1 c.loop-i.invariant c.loop-i-test.true
    c.lesser-next.ensures.key c.lesser-next.ensures.first

pub returns-then-is_within : goal.returns-then-is_within
returns-then-is_within c =
    let k = key_of c.in-Some.cell.now in
    let is = sym c.is_within.ensures ∙ c.if-is_within.true in
    let all = seen_all c.args.falls c.args.lines.now c.loop-i.i (key_in c.loop-i.least) c.loop-i.first c.loop-i-test.false c.loop-i.invariant in
    record {
      key = ap Some c.key.ensures ∙ sym (ap (λ b. cond b (Some k) None) is)
          ∙ least_ends c.args.falls c.args.end.now (key_in c.loop-i.least) (Some k) c.args.lines.now [] refl all (ap key_in c.in-Some.is);
      first = c.loop-i.invariant.none c.key.result (ap key_in c.in-Some.is ∙ sym (ap Some c.key.ensures));
    }

pub returns-else-is_within : goal.returns-else-is_within
returns-else-is_within c =
    let k = key_of c.in-Some.cell.now in
    let is = sym c.is_within.ensures ∙ c.if-is_within.false in
    let all = seen_all c.args.falls c.args.lines.now c.loop-i.i (key_in c.loop-i.least) c.loop-i.first c.loop-i-test.false c.loop-i.invariant in
    record {
      key = sym (ap (λ b. cond b (Some k) None) is) ∙ least_ends c.args.falls c.args.end.now (key_in c.loop-i.least) (Some k) c.args.lines.now [] refl all (ap key_in c.in-Some.is);
      first = tt;
    }

pub returns-in-None : goal.returns-in-None
returns-in-None c =
    let all = seen_all c.args.falls c.args.lines.now c.loop-i.i (key_in c.loop-i.least) c.loop-i.first c.loop-i-test.false c.loop-i.invariant in
    record {
      key = least_ends c.args.falls c.args.end.now (key_in c.loop-i.least) None c.args.lines.now [] refl all (ap key_in c.in-None.is);
      first = tt;
    }
