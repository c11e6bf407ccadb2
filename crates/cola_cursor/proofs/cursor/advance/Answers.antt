use Rattle.std.proofs.Common.{Some, None, option_map, refl, sym, ap, ◌∙◌, arith}
use Rattle.cola_cell.specs.Held.{Held}
use Rattle.cola_look.proofs.Looking.{err_is, looks_as, looks_then, looks_refused, looked_none}
use Rattle.cola_cursor.specs.declared.lines.Least.{Least}
use Rattle.cola_cursor.specs.Standing.{none_hidden}
use Rattle.cola_cursor.specs.Saving.{cursor_at, lines_left}
use Rattle.cola_cursor.proofs.Readings.{reading_then}
use Rattle.cola_cursor.proofs.Going.{quiet_begins, same_pass, key_below, key_there, quiet_none, quiet_tombstone, answer_going, takes_pair, takes_none, all_end, step_cause, went, stayed}
use Rattle.cola_cursor.proofs.Behind.{value_passes, value_later}
use Rattle.cola_cursor.proofs.Stepping.{pass_less}
use Rattle.cola_cursor.proofs.Least.{least_none}
use Rattle.cola_cursor.proofs.Saving.{saves_from, saves_then, once_none, same_cursor}
use Rattle.cola_cursor.proofs.cursor.advance.Goals as goal

pub read_heads-requires-clause-once : goal.read_heads-requires-clause-once
read_heads-requires-clause-once g c = once_none c.requires.none

pub loop-least-init : goal.loop-least-init
loop-least-init g c = record {
  looks = looks_as c.in_ok-read_heads.ensures.looks;
  reading = c.in_ok-read_heads.ensures.reading;
  left = c.in_ok-read_heads.ensures.left;
  saves = saves_from c.requires.none c.in_ok-read_heads.ensures.saves;
  quiet = quiet_begins c.args.falls (g.W.CellSource.state c.args.work.now).held (cursor_at c.args.lines.now c.args.end.now c.args.falls) c.read_heads.new.lines c.in_ok-read_heads.ensures.fetches;
}

pub loop-least-smaller-in-Tombstone : goal.loop-least-smaller-in-Tombstone
loop-least-smaller-in-Tombstone g c =
    let i = c.loop-least.invariant in
    pass_less c.args.falls (g.W.CellSource.state c.args.work.now).held c.in-Some.least.key c.loop-least.lines c.pass_all.new.lines c.in_ok-item.item
    (same_pass c.args.falls c.in-Some.least.key c.loop-least.lines c.pass_all.new.lines c.in_ok-item.item i.looks.cells_stay c.in_ok-item.ensures.passes)
    (key_there c.args.falls i.quiet c.in-Some.least.key (sym c.least_key.ensures.key ∙ ap (option_map (λ (least : Least). least.key)) c.in-Some.is))

pub loop-least-preserved-in-Tombstone : goal.loop-least-preserved-in-Tombstone
loop-least-preserved-in-Tombstone g c =
    let i = c.loop-least.invariant in
    let p = same_pass c.args.falls c.in-Some.least.key c.loop-least.lines c.pass_all.new.lines c.in_ok-item.item i.looks.cells_stay c.in_ok-item.ensures.passes in
    record {
      looks = looks_then i.looks c.in_ok-item.ensures.looks;
      reading = reading_then i.reading c.in_ok-item.ensures.reading;
      left = (let q = i.left in let r = c.in_ok-item.ensures.left in omega arith);
      saves = saves_then i.saves c.in_ok-item.ensures.saves;
      quiet = quiet_tombstone c.args.falls i.quiet c.in-Some.least.key (sym c.least_key.ensures.key ∙ ap (option_map (λ (least : Least). least.key)) c.in-Some.is) c.pass_all.new.lines c.in_ok-item.item p (c.in-Some-item.is ∙ ap Some c.in-Tombstone.is);
    }

pub loop-least-smaller : goal.loop-least-smaller
loop-least-smaller g c =
    let i = c.loop-least.invariant in
    pass_less c.args.falls (g.W.CellSource.state c.args.work.now).held c.in-Some.least.key c.loop-least.lines c.pass_all.new.lines c.in_ok-item.item
    (same_pass c.args.falls c.in-Some.least.key c.loop-least.lines c.pass_all.new.lines c.in_ok-item.item i.looks.cells_stay c.in_ok-item.ensures.passes)
    (key_there c.args.falls i.quiet c.in-Some.least.key (sym c.least_key.ensures.key ∙ ap (option_map (λ (least : Least). least.key)) c.in-Some.is))

pub loop-least-preserved : goal.loop-least-preserved
loop-least-preserved g c =
    let i = c.loop-least.invariant in
    let p = same_pass c.args.falls c.in-Some.least.key c.loop-least.lines c.pass_all.new.lines c.in_ok-item.item i.looks.cells_stay c.in_ok-item.ensures.passes in
    record {
      looks = looks_then i.looks c.in_ok-item.ensures.looks;
      reading = reading_then i.reading c.in_ok-item.ensures.reading;
      left = (let q = i.left in let r = c.in_ok-item.ensures.left in omega arith);
      saves = saves_then i.saves c.in_ok-item.ensures.saves;
      quiet = quiet_none c.args.falls i.quiet c.in-Some.least.key (sym c.least_key.ensures.key ∙ ap (option_map (λ (least : Least). least.key)) c.in-Some.is) c.pass_all.new.lines c.in_ok-item.item p c.in-None.is;
    }

pub returns-in_err-read_heads : goal.returns-in_err-read_heads
returns-in_err-read_heads g c =
    let w = g.W.CellSource in
    let end = c.args.end.now in
    let old = cursor_at c.args.lines.now end c.args.falls in
    let new = cursor_at (lines_left c.from_residual.result c.read_heads.new.saved.items c.read_heads.new.lines) end c.args.falls in
    let h = c.in_err-read_heads.ensures in
    let fault = c.in_err-read_heads.field-0.0 in
    let is = err_is c.from_residual.result fault c.from_residual.ensures.1 in
    let saves = saves_from c.requires.none h.saves in
    record {
      gives = stayed c.args.falls w c.args.work.now c.read_heads.new.work old new c.args.steps.now c.read_heads.new.steps h.reading
          c.from_residual.result fault (looks_refused fault c.from_residual.result looked_none h.looks is) is (same_cursor end c.args.falls c.from_residual.result fault is saves) refl c.requires.stands h.left h.cause;
      saves = saves;
    }

pub returns-in_err-item : goal.returns-in_err-item
returns-in_err-item g c =
    let w = g.W.CellSource in
    let i = c.loop-least.invariant in
    let end = c.args.end.now in
    let result = c.from_residual-in_err-item.result in
    let old = cursor_at c.args.lines.now end c.args.falls in
    let new = cursor_at (lines_left result c.pass_all.new.saved.items c.pass_all.new.lines) end c.args.falls in
    let h = c.in_err-item.ensures in
    let fault = c.in_err-item.field-0.0 in
    let is = err_is result fault c.from_residual-in_err-item.ensures.1 in
    let saves = saves_then i.saves h.saves in
    record {
      gives = stayed c.args.falls w c.args.work.now c.pass_all.new.work old new c.args.steps.now c.pass_all.new.steps (reading_then i.reading h.reading)
          result fault (looks_refused fault result i.looks h.looks is) is (same_cursor end c.args.falls result fault is saves) refl c.requires.stands (let q = i.left in let r = h.left in omega (arith, q, r))
          (step_cause c.args.falls (w.state c.args.work.now).spent.faults (w.state c.loop-least.work).spent.faults (w.state c.pass_all.new.work).spent.faults fault i.looks.cells_stay i.looks.calm i.quiet h.cause);
      saves = saves;
    }

pub returns-in-Value : goal.returns-in-Value
returns-in-Value g c =
    let w = g.W.CellSource in
    let i = c.loop-least.invariant in
    let held : Held = (w.state c.args.work.now).held in
    let end = c.args.end.now in
    let mids = c.loop-least.lines in
    let news = c.pass_all.new.lines in
    let item = c.in_ok-item.item in
    let key = c.in-Some.least.key in
    let h = c.in_ok-item.ensures in
    let least = sym c.least_key.ensures.key ∙ ap (option_map (λ (least : Least). least.key)) c.in-Some.is in
    let p = same_pass c.args.falls key mids news item i.looks.cells_stay h.passes in
    let there = c.in-Some-item.is ∙ ap Some c.in-Value.is in
    let old = cursor_at c.args.lines.now end c.args.falls in
    let new = cursor_at news end c.args.falls in
    record {
      gives = went c.args.falls w c.args.work.now c.pass_all.new.work old new c.args.steps.now c.pass_all.new.steps (reading_then i.reading h.reading)
          (Some (key, c.in-Value.value, c.in-Value.stamp)) (looks_then i.looks h.looks) c.requires.stands (let q = i.left in let r = h.left in omega (arith, q, r)) refl refl refl
          (answer_going c.args.falls i.quiet key least news item p) (key_below c.args.falls i.quiet key least)
          (value_later c.args.falls held key c.in-Value.value c.in-Value.stamp c.args.lines.now mids news None none_hidden i.quiet.going.passed (value_passes c.args.falls held key c.in-Value.value c.in-Value.stamp mids news item there p))
          (takes_pair c.args.falls old new i.quiet key least item c.in-Value.value c.in-Value.stamp refl p there);
      saves = saves_then i.saves h.saves;
    }

pub returns : goal.returns
returns g c =
    let i = c.loop-least.invariant in
    let end = c.args.end.now in
    let least = sym c.least_key.ensures.key ∙ ap (option_map (λ (least : Least). least.key)) c.in_default.is in
    let old = cursor_at c.args.lines.now end c.args.falls in
    let new = cursor_at c.loop-least.lines end c.args.falls in
    record {
      gives = went c.args.falls g.W.CellSource c.args.work.now c.loop-least.work old new c.args.steps.now c.loop-least.steps i.reading None (looks_as i.looks) c.requires.stands i.left refl refl refl i.quiet.going
          (all_end c.args.falls end c.loop-least.lines i.quiet.going.ready (least_none c.args.falls end None c.loop-least.lines least).1) tt (takes_none c.args.falls old new i.quiet refl least);
      saves = i.saves;
    }
