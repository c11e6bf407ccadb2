use Rattle.std.proofs.Common.{◌<◌, ℕ, List, sym, ◌∙◌, arith, option_copied}
use Rattle.cola_line.specs.Replied.{failure_of}
use Rattle.cola_line.proofs.Listing.{on_some}
use Rattle.cola_line.proofs.Walking.{begun, range_refused, one_more, enough, none_left, cut_short, broken_off}
use Rattle.cola_line.proofs.rows.write_rows.Goals as goal

-- the range was refused
pub returns-in-Err-clause-rows : goal.returns-in-Err-clause-rows
returns-in-Err-clause-rows g c =
    range_refused g.T.Table g.K.Sink c.args.low.now (option_copied c.args.high) c.args.most c.args.table.now c.args.sink.now _ c.in-Err.fault (failure_of c.failed_read.result) c.range.new.self c.write_reply.new.sink
    c.failed_read.ensures c.in-Err.ensures.given c.in-Err.ensures.faults c.in-Err.ensures.answer c.write_reply.ensures.wrote

-- it was begun
pub rows-init : goal.rows-init
rows-init g c = record {
  stands = c.in-Ok.ensures.stands;
  room = omega (arith, c.in-Ok.ensures.most);
  kept = c.in-Ok.ensures.kept;
  terms = c.in-Ok.ensures.call.same_terms;
  sink_faults = omega arith;
  steps = c.in-Ok.ensures.call.steps_kept;
  left = c.in-Ok.ensures.left;
  so_far = begun g.T.Table g.K.Sink c.args.low.now (option_copied c.args.high) c.args.most c.args.table.now c.args.sink.now c.range.new.self c.in-Ok.walk c.in-Ok.ensures.given c.in-Ok.ensures.faults c.in-Ok.ensures.answer;
  sound = λ m held. (c.in-Ok.ensures.answer m held).1;
}

-- a next was refused
pub returns-in-Err-next-clause-rows : goal.returns-in-Err-next-clause-rows
returns-in-Err-next-clause-rows g c =
    cut_short g.T.Table g.K.Sink c.args.low.now (option_copied c.args.high) c.args.most c.args.table.now c.args.sink.now c.rows.rows c.rows.table c.rows.walk c.rows.sink c.rows.invariant.so_far _ c.in-Err-next.fault (failure_of c.failed_read-in-Err-next.result) c.next.new.self c.next.new.walk c.write_reply-in-Err-next.new.sink
    c.failed_read-in-Err-next.ensures (sym c.is_wanted.ensures ∙ c.rows-test.true) c.in-Err-next.ensures.given c.in-Err-next.ensures.faults c.in-Err-next.ensures.answer c.write_reply-in-Err-next.ensures.wrote

-- none was left
pub returns-in_default-clause-rows : goal.returns-in_default-clause-rows
returns-in_default-clause-rows g c =
    none_left g.T.Table g.K.Sink c.args.low.now (option_copied c.args.high) c.args.most c.args.table.now c.args.sink.now c.rows.rows c.rows.table c.rows.walk c.rows.sink c.rows.invariant.so_far _ c.in-Ok-next.pair c.next.new.self c.next.new.walk c.write_end.new.sink
    c.in_default.is (sym c.is_wanted.ensures ∙ c.rows-test.true) c.in-Ok-next.ensures.given c.in-Ok-next.ensures.faults c.in-Ok-next.ensures.answer c.write_end.ensures.wrote

-- the sink refused a row
pub returns-in-Err-write_row-clause-rows : goal.returns-in-Err-write_row-clause-rows
returns-in-Err-write_row-clause-rows g c =
    broken_off g.T.Table g.K.Sink c.args.low.now (option_copied c.args.high) c.args.most c.args.table.now c.args.sink.now c.rows.rows c.rows.table c.rows.walk c.rows.sink c.rows.invariant.so_far (Unit {0}) c.in-Err-write_row.fault c.in-Some.row c.in-Ok-next.pair c.next.new.self c.next.new.walk c.write_row.new.sink
    c.in-Some.is (sym c.is_wanted.ensures ∙ c.rows-test.true) c.in-Ok-next.ensures.given c.in-Ok-next.ensures.faults c.in-Ok-next.ensures.answer c.in-Err-write_row.ensures.wrote

-- a row was written
pub rows-preserved : goal.rows-preserved
rows-preserved g c =
    let pair : List ℕ × List ℕ = c.in-Some.row in
    record {
      stands = c.in-Ok-next.ensures.stands;
      room = omega (arith, on_some (g.T.Table.most c.next.new.walk < g.T.Table.most c.rows.walk) c.in-Ok-next.pair pair c.in-Some.is c.in-Ok-next.ensures.fewer, c.rows.invariant.room);
      kept = c.in-Ok-next.ensures.kept ∙ c.rows.invariant.kept;
      terms = c.in-Ok-next.ensures.call.same_terms ∙ c.rows.invariant.terms;
      sink_faults = c.in_default-write_row.ensures.faults_counted ∙ c.rows.invariant.sink_faults;
      steps = omega (arith, c.in-Ok-next.ensures.call.steps_kept, c.rows.invariant.steps);
      left = omega (arith, c.in-Ok-next.ensures.left, c.rows.invariant.left);
      so_far = one_more g.T.Table g.K.Sink c.args.low.now (option_copied c.args.high) c.args.most c.args.table.now c.args.sink.now c.rows.rows c.rows.table c.rows.walk c.rows.sink c.rows.invariant.so_far pair c.in-Ok-next.pair c.next.new.self c.next.new.walk c.write_row.new.sink
          c.in-Some.is (sym c.is_wanted.ensures ∙ c.rows-test.true) c.in-Ok-next.ensures.given c.in-Ok-next.ensures.faults c.in-Ok-next.ensures.sound c.in-Ok-next.ensures.answer c.in_default-write_row.ensures.wrote;
      sound = λ m held. c.in-Ok-next.ensures.sound m (c.rows.invariant.sound m held);
    }

-- no more were wanted
pub returns-clause-rows : goal.returns-clause-rows
returns-clause-rows g c =
    enough g.T.Table g.K.Sink c.args.low.now (option_copied c.args.high) c.args.most c.args.table.now c.args.sink.now c.rows.rows c.rows.table c.rows.walk c.rows.sink c.rows.invariant.so_far _ c.write_end-2.new.sink
    (sym c.is_wanted.ensures ∙ c.rows-test.false) c.write_end-2.ensures.wrote
