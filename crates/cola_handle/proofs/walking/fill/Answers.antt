use Rattle.std.proofs.Common.{rules, ◌∙◌, arith, option_copied, subst, Option, Ok, inl, inr}
use Rattle.cola_handle.specs.Cursors.{Pair}
use Rattle.cola_handle.proofs.Filling.{drop_later, one_more, came_first, came_on}
use Rattle.cola_handle.proofs.walking.fill.Goals as goal

-- no row is given yet
pub rows-init : goal.rows-init
rows-init g c =
    search (rules, came_first g.T.Table c.args.cursor.now c.args.low.now (option_copied c.args.high) c.args.table.now c.range.new.self c.in-Ok.walk c.args.rows.now c.in-Ok.ensures.given)

-- a pair was given
pub rows-preserved : goal.rows-preserved
rows-preserved g c = record {
  came = came_on g.T.Table c.args.cursor.now c.args.low.now (option_copied c.args.high) c.args.table.now c.rows.table c.next.new.self c.rows.walk c.next.new.walk c.rows.rows c.give-given.new.rows c.rows.given c.give-given.result c.in-Ok-next.next c.in-Some.pair
      c.in-Some.is c.give-given.ensures.pairs c.in-Ok-next.ensures.given c.rows.invariant.came;
  stands = c.in-Ok-next.ensures.stands;
  few = omega (arith, c.give-given.ensures.few, c.give-given.auto.rows);
  size = c.give-given.auto.rows ∙ c.rows.invariant.size;
  good = c.give-given.ensures.good_rows c.rows.invariant.good;
  others = c.give-given.ensures.others ∙ drop_later c.rows.given c.give-given.result _ _ c.give-given.ensures.grows c.rows.invariant.others;
  kept = c.in-Ok-next.ensures.kept ∙ c.rows.invariant.kept;
  terms = c.in-Ok-next.ensures.call.same_terms ∙ c.rows.invariant.terms;
  faults = c.in-Ok-next.ensures.faults ∙ c.rows.invariant.faults;
  steps = omega (arith, c.in-Ok-next.ensures.call.steps_kept, c.rows.invariant.steps);
  left = omega (arith, c.in-Ok-next.ensures.left, c.rows.invariant.left);
  so_far = λ m held.
      let so = c.rows.invariant.so_far m held in
      one_more g.T.Table c.args.cursor.now c.args.low.now (option_copied c.args.high) m c.rows.given c.give-given.result c.rows.rows c.give-given.new.rows c.rows.table c.next.new.self c.rows.walk c.next.new.walk c.in-Ok-next.next c.in-Some.pair
      c.in-Some.is c.give-given.ensures.pairs (c.in-Ok-next.ensures.sound m so.held) so (c.in-Ok-next.ensures.answer m so.pairs so.held so.ahead);
}

-- a call on the walk was refused
pub returns-in-Err-next-clause-fills : goal.returns-in-Err-next-clause-fills
returns-in-Err-next-clause-fills g c = inr (c.rows.given, record { far = c.rows.table; walk = c.rows.walk; last = c.next.new.walk; came = c.rows.invariant.came; ends = c.in-Err-next.ensures.given })

-- no pair is left
pub returns-in_default-clause-fills : goal.returns-in_default-clause-fills
returns-in_default-clause-fills g c = inr (record {
  far = c.rows.table;
  walk = c.rows.walk;
  last = c.next.new.walk;
  came = c.rows.invariant.came;
  ends = subst (λ (a : Option Pair). g.T.Table.goes c.rows.table c.rows.walk (Ok a) c.next.new.self c.next.new.walk) c.in_default.is c.in-Ok-next.ensures.given;
})

-- every row is given
pub returns-clause-fills : goal.returns-clause-fills
returns-clause-fills g c = inl (omega (arith, c.rows.invariant.few, c.rows-test.false), (c.rows.walk, c.rows.invariant.came))
