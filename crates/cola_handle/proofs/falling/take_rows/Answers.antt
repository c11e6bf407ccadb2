use Rattle.std.proofs.Common.{◌∙◌, arith, subst, Option, Ok, inl, inr, refl}
use Rattle.std.proofs.lemmas.List.Elements.{All-nil}
use Rattle.cola_handle.specs.Cursors.{Pair, IsGoodRow}
use Rattle.cola_handle.specs.Walking.{Stays}
use Rattle.cola_handle.proofs.Filling.{drop_later}
use Rattle.cola_handle.proofs.Rows.{front_first}
use Rattle.cola_handle.proofs.Taking.{goes_more, one_more, none_more}
use Rattle.cola_handle.proofs.falling.take_rows.Goals as goal

-- no row is given yet
pub rows-init : goal.rows-init
rows-init g c = record {
  gone = Stays;
  stands = c.requires;
  few = omega arith;
  size = refl;
  good = All-nil IsGoodRow;
  others = refl;
  kept = refl;
  terms = refl;
  faults = refl;
  steps = omega arith;
  left = omega arith;
  so_far = λ m pairs held ahead. record { held = held; rest = pairs; ahead = ahead; whole = refl };
}

-- a pair was given
pub rows-preserved : goal.rows-preserved
rows-preserved g c = record {
  gone = goes_more g.T.Table c.args.table.now c.rows.table c.next.new.self c.args.walk c.rows.walk c.next.new.walk c.rows.given c.give_row-given.result c.rows.rows c.give_row-given.new.rows c.in-Ok.next c.in-Some.pair
      c.in-Some.is c.give_row-given.ensures.pairs c.in-Ok.ensures.given c.rows.invariant.gone;
  stands = c.in-Ok.ensures.stands;
  few = omega (arith, c.give_row-given.ensures.next, c.rows-test.true, c.give_row-given.auto.rows);
  size = c.give_row-given.auto.rows ∙ c.rows.invariant.size;
  good = c.give_row-given.ensures.good_rows c.rows.invariant.good;
  others = c.give_row-given.ensures.others ∙ drop_later c.rows.given c.give_row-given.result _ _ (omega (arith, c.give_row-given.ensures.next)) c.rows.invariant.others;
  kept = c.in-Ok.ensures.kept ∙ c.rows.invariant.kept;
  terms = c.in-Ok.ensures.call.same_terms ∙ c.rows.invariant.terms;
  faults = c.in-Ok.ensures.faults ∙ c.rows.invariant.faults;
  steps = omega (arith, c.in-Ok.ensures.call.steps_kept, c.rows.invariant.steps);
  left = omega (arith, c.in-Ok.ensures.left, c.rows.invariant.left);
  so_far = λ m pairs held ahead.
      let so = c.rows.invariant.so_far m pairs held ahead in
      one_more g.T.Table m pairs c.rows.given c.give_row-given.result c.rows.rows c.give_row-given.new.rows c.rows.table c.next.new.self c.rows.walk c.next.new.walk c.in-Ok.next c.in-Some.pair
      c.in-Some.is c.give_row-given.ensures.pairs (c.in-Ok.ensures.sound m so.held) so (c.in-Ok.ensures.answer m so.rest so.held so.ahead);
}

-- a call on the walk was refused
pub returns-in-Err-clause-takes : goal.returns-in-Err-clause-takes
returns-in-Err-clause-takes g c = (c.rows.given, record { far = c.rows.table; last = c.rows.walk; after = c.next.new.walk; gone = c.rows.invariant.gone; ends = c.in-Err.ensures.given })

pub returns-in-Err-clause-rows : goal.returns-in-Err-clause-rows
returns-in-Err-clause-rows g c = λ m pairs held ahead.
    let so = c.rows.invariant.so_far m pairs held ahead in
    (c.in-Err.ensures.answer m so.rest so.held so.ahead).0

-- no pair is left
pub returns-in_default-clause-takes : goal.returns-in_default-clause-takes
returns-in_default-clause-takes g c = inr (record {
  far = c.rows.table;
  last = c.rows.walk;
  after = c.next.new.walk;
  gone = c.rows.invariant.gone;
  ends = subst (λ (a : Option Pair). g.T.Table.goes c.rows.table c.rows.walk (Ok a) c.next.new.self c.next.new.walk) c.in_default.is c.in-Ok.ensures.given;
})

pub returns-in_default-clause-rows : goal.returns-in_default-clause-rows
returns-in_default-clause-rows g c = λ m pairs held ahead.
    let so = c.rows.invariant.so_far m pairs held ahead in (
      none_more g.T.Table m pairs c.rows.given c.rows.rows c.rows.table c.next.new.self c.rows.walk c.next.new.walk c.in-Ok.next c.in_default.is c.rows.invariant.few so
          (c.in-Ok.ensures.answer m so.rest so.held so.ahead),
      c.in-Ok.ensures.sound m so.held,
    )

-- every row is given
pub returns-clause-takes : goal.returns-clause-takes
returns-clause-takes g c = inl (omega (arith, c.rows.invariant.few, c.rows-test.false), (c.rows.walk, c.rows.invariant.gone))

pub returns-clause-rows : goal.returns-clause-rows
returns-clause-rows g c = λ m pairs held ahead.
    let so = c.rows.invariant.so_far m pairs held ahead in
    (front_first pairs so.rest c.rows.rows c.rows.given so.whole c.rows.invariant.few (inr (omega (arith, c.rows-test.false))), so.held)
