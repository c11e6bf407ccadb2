use Rattle.std.proofs.Common.{refl}
use Rattle.cola_look.proofs.Looking.{looks_then}
use Rattle.cola_cursor.specs.Lines.{LineFits}
use Rattle.cola_cursor.specs.Results.{LinesCause}
use Rattle.cola_cursor.proofs.Lists.{refused}
use Rattle.cola_cursor.proofs.Readings.{reading_then}
use Rattle.cola_cursor.proofs.Saving.{saves_set, saves_then}
use Rattle.cola_cursor.proofs.Turns.{line_has, line_cause, turned_next, turned_stays, fetched_next, fetched_stays}
use Rattle.cola_cursor.proofs.lines.read_heads.Goals as goal

pub loop-i-preserved-then-is_ready : goal.loop-i-preserved-then-is_ready
loop-i-preserved-then-is_ready g c =
    let i = c.loop-i.invariant in
    let d = c.index-lines-i.result in
    let l = c.loop-i-test.true in
    let fits = line_has c.args.falls i.turned l d (LineFits c.args.falls) i.looks.cells_stay c.requires.fit in
    record {
      looks = i.looks;
      reading = i.reading;
      turned = turned_stays c.args.falls i.turned l d;
      fetched = fetched_stays c.args.falls i.turned l d i.looks.cells_stay i.fetched fits (c.is_ready.ensures c.if-is_ready.true);
    }

pub loop-i-preserved : goal.loop-i-preserved
loop-i-preserved g c =
    let i = c.loop-i.invariant in
    let d = c.index-lines-i-in-loop-i.result in
    let l = c.loop-i-test.true in
    let new = c.read_head.new.self in
    record {
      looks = looks_then i.looks c.in_ok-read_head.ensures.looks;
      reading = reading_then i.reading c.in_ok-read_head.ensures.reading;
      turned = turned_next c.args.falls i.turned l d new refl (saves_set c.loop-i.i new c.save.ensures.saves c.save.ensures.saved) c.in_ok-read_head.ensures.left;
      fetched = fetched_next c.args.falls i.turned l d new refl i.looks.cells_stay i.fetched c.in_ok-read_head.ensures.fetches;
    }

pub returns-in_err-read_head-clause-saves : goal.returns-in_err-read_head-clause-saves
returns-in_err-read_head-clause-saves g c = saves_set c.loop-i.i c.read_head.new.self (saves_then c.loop-i.invariant.turned.saves c.save.ensures.saves) c.save.ensures.saved

pub returns-in_err-read_head-clause-cause : goal.returns-in_err-read_head-clause-cause
returns-in_err-read_head-clause-cause g c =
    let w = g.W.CellSource in
    let i = c.loop-i.invariant in
    let fault = c.in_err-read_head.field-0.0 in
    let faults = (w.state c.args.work.now).spent.faults in
    let after = (w.state c.read_head.new.work).spent.faults in
    refused c.args.falls c.from_residual.result fault (LinesCause c.args.falls (w.state c.args.work.now).held c.args.lines.now faults after) c.from_residual.ensures.1
    (line_cause c.args.falls i.turned c.loop-i-test.true c.index-lines-i-in-loop-i.result (w.state c.loop-i.work).held (w.state c.args.work.now).held faults (w.state c.loop-i.work).spent.faults after fault
    i.looks.cells_stay i.looks.calm c.in_err-read_head.ensures.cause)
