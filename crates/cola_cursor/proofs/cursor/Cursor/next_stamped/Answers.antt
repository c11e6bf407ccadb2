use Rattle.std.proofs.Common.{List, None, Some, Ok, length, sym, ap, subst}
use Rattle.std.specs.List.{refill}
use Rattle.cola_cursor.specs.declared.line.Line.{Line}
use Rattle.cola_cursor.specs.Saving.{cursor_at}
use Rattle.cola_cursor.specs.Standing.{StandsAlong}
use Rattle.cola_cursor.proofs.Going.{one_gives}
use Rattle.cola_cursor.proofs.cursor.Cursor.next_stamped.Goals as goal

pub next_saving-requires : goal.next_saving-requires
next_saving-requires g c =
    let w = g.W.CellSource in
    let cursor = c.args.self.now in
    let none = one_gives cursor.falls w c.args.work.now c.simple_step.new.work cursor.end cursor.lines.items _ c.simple_step.new.lines c.args.steps.now c.simple_step.new.steps (Ok c.in-Ok-None.field-0) (Ok None) (ap Ok c.in-Ok-None.field-0-is) c.as_mut_slice.ensures.value c.simple_step.auto.lines c.in-Ok-None.ensures in
    subst (λ x. StandsAlong cursor.falls (w.state x).held (cursor_at (refill (length cursor.lines.items) cursor.lines.items c.simple_step.new.lines) cursor.end cursor.falls)) (sym none.0)
    (subst (λ (x : List Line). StandsAlong cursor.falls (w.state c.args.work.now).held (cursor_at x cursor.end cursor.falls)) (sym none.1) c.requires)

pub returns-in-Ok-Some : goal.returns-in-Ok-Some
returns-in-Ok-Some g c =
    let cursor = c.args.self.now in
    one_gives cursor.falls g.W.CellSource c.args.work.now c.simple_step.new.work cursor.end cursor.lines.items _ c.simple_step.new.lines c.args.steps.now c.simple_step.new.steps (Ok c.in-Ok-Some.field-0) (Ok (Some c.in-Ok-Some.pair)) (ap Ok c.in-Ok-Some.field-0-is) c.as_mut_slice.ensures.value c.simple_step.auto.lines c.in-Ok-Some.ensures
