use Rattle.std.proofs.Common.{refl, sym, ◌∙◌, arith}
use Rattle.cola_look.proofs.Looking.{looked_none, looks_then}
use Rattle.cola_cursor.specs.Lines.{LineFits, IsReady}
use Rattle.cola_cursor.specs.Results.{LinesCause}
use Rattle.cola_cursor.proofs.First.{pass_none}
use Rattle.cola_cursor.proofs.Lists.{refused, left_split}
use Rattle.cola_cursor.proofs.Readings.{reading_none, reading_then}
use Rattle.cola_cursor.proofs.Saving.{saves_none, saves_set, saves_then}
use Rattle.cola_cursor.proofs.Turns.{line_has, line_cause, turned_next, turned_stays, passed_next, passed_stays}
use Rattle.cola_cursor.proofs.lines.pass_all.Goals as goal

pub loop-i-init : goal.loop-i-init
loop-i-init g c = record {
  looks = looked_none;
  reading = reading_none (g.W.CellSource.state c.args.work.now) c.args.steps.now;
  turned = record { saves = saves_none c.requires.once; rest = refl; left = let e = left_split c.args.falls c.args.lines.now c.args.first in omega arith };
  passed = pass_none c.args.falls (g.W.CellSource.state c.args.work.now).held c.args.key.now c.args.lines.now c.args.first c.requires.fit c.requires.ready c.requires.first;
}

pub loop-i-preserved-then-not-has_key : goal.loop-i-preserved-then-not-has_key
loop-i-preserved-then-not-has_key g c =
    let i = c.loop-i.invariant in
    let d = c.index-lines-i.result in
    let l = c.loop-i-test.true in
    let fits = line_has c.args.falls i.turned l d (LineFits c.args.falls) i.looks.cells_stay c.requires.fit in
    let ready = line_has c.args.falls i.turned l d (λ held. IsReady) i.looks.cells_stay c.requires.ready in
    record {
      looks = i.looks;
      reading = i.reading;
      turned = turned_stays c.args.falls i.turned l d;
      passed = passed_stays c.args.falls i.turned l d c.args.key.now c.loop-i.item i.looks.cells_stay i.passed fits ready (sym c.has_key.ensures ∙ c.if-not-has_key.true);
    }

pub loop-i-preserved : goal.loop-i-preserved
loop-i-preserved g c =
    let i = c.loop-i.invariant in
    let d = c.index-lines-i-in-loop-i.result in
    let l = c.loop-i-test.true in
    let new = c.pass.new.self in
    record {
      looks = looks_then i.looks c.in_ok-passed.ensures.looks;
      reading = reading_then i.reading c.in_ok-passed.ensures.reading;
      turned = turned_next c.args.falls i.turned l d new refl (saves_set c.loop-i.i new c.save.ensures.saves c.save.ensures.saved) c.in_ok-passed.ensures.left;
      passed = passed_next c.args.falls i.turned l d new refl c.args.key.now c.loop-i.item c.in_ok-passed.passed c.or-item.result i.looks.cells_stay c.or-item.ensures i.passed c.in_ok-passed.ensures.passes;
    }

pub returns-in_err-passed-clause-saves : goal.returns-in_err-passed-clause-saves
returns-in_err-passed-clause-saves g c = saves_set c.loop-i.i c.pass.new.self (saves_then c.loop-i.invariant.turned.saves c.save.ensures.saves) c.save.ensures.saved

pub returns-in_err-passed-clause-cause : goal.returns-in_err-passed-clause-cause
returns-in_err-passed-clause-cause g c =
    let w = g.W.CellSource in
    let i = c.loop-i.invariant in
    let fault = c.in_err-passed.field-0.0 in
    let faults = (w.state c.args.work.now).spent.faults in
    let after = (w.state c.pass.new.work).spent.faults in
    refused c.args.falls c.from_residual.result fault (LinesCause c.args.falls (w.state c.args.work.now).held c.args.lines.now faults after) c.from_residual.ensures.1
    (line_cause c.args.falls i.turned c.loop-i-test.true c.index-lines-i-in-loop-i.result (w.state c.loop-i.work).held (w.state c.args.work.now).held faults (w.state c.loop-i.work).spent.faults after fault
    i.looks.cells_stay i.looks.calm c.in_err-passed.ensures.cause)
