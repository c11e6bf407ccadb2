use Rattle.std.proofs.Common.{option_copied, ◌≡◌, ◌+◌, ◌*◌, ◌≤◌, true, false, None, Ok, Err, List, map, length, refl, sym, ap, subst, ◌∙◌}
use Rattle.std.specs.List.{AllByRecursion}
use Rattle.cola_cell.specs.declared.cell.Run.{Run}
use Rattle.cola_cell.specs.Costs.{Costs}
use Rattle.cola_cell.specs.Held.{Held, LawCell}
use Rattle.cola_look.specs.Outcome.{Answers}
use Rattle.cola_look.specs.Runs.{HasRun, AreRuns}
use Rattle.cola_look.proofs.Looking.{err_is}
use Rattle.cola_cursor.specs.declared.cursor.Cursor.{Cursor}
use Rattle.cola_cursor.specs.declared.line.Line.{Line}
use Rattle.cola_cursor.specs.Standing.{runs_of, StandsAlong}
use Rattle.cola_cursor.specs.Seeking.{places_from, places_of, aheads_of, places_told, cells_of, RunsCause}
use Rattle.cola_cursor.specs.Turning.{turned_line, sought}
use Rattle.cola_cursor.proofs.Places.{begun_stands, within_range, all_by_recursion}
use Rattle.cola_cursor.proofs.Turning.{back_ahead, places_back, back_within, turned_stands, runs_back, places_in, back_refused}
use Rattle.cola_cursor.proofs.Searched.{answers_seen}
use Rattle.cola_cursor.proofs.cursor.turned_at.Goals as goal

pub turned_lines-lines-requires-clause-fit : goal.turned_lines-lines-requires-clause-fit
turned_lines-lines-requires-clause-fit g c =
    subst (AllByRecursion (λ line. line.place ≤ line.run.len)) (sym c.as_slice-2.ensures.value) (places_in (g.W.CellSource.state c.args.work.now).held c.in_ok-found.found.items c.in_ok-found.ensures.fit)

pub returns-in_err-found-clause-turns : goal.returns-in_err-found-clause-turns
returns-in_err-found-clause-turns g c =
    let held : Held = (g.W.CellSource.state c.args.work.now).held in
    let found = c.in_err-found.ensures in
    let fault = c.in_err-found.field-0.0 in
    let is = err_is c.from_residual.result fault c.from_residual.ensures.1 in
    let L : List Run → Type 0 = λ x. c.seek_lines.new.steps + 0 ≤ c.args.steps.now + 8 * length x + cells_of x in
    let X : List Run → Type 0 = λ x. Answers (places_told held (sought c.args.over c.args.hi.now) 0 x) places_of (Err fault) in
    let F : List Run → Type 0 = λ x. Costs (g.W.CellSource.state c.args.work.now).spent (g.W.CellSource.state c.seek_lines.new.work).spent c.args.steps.now c.seek_lines.new.steps (8 * length x) (2 * length x) in
    let C : List Run → Type 0 = λ x. RunsCause held x (g.W.CellSource.state c.args.work.now).spent.faults (g.W.CellSource.state c.seek_lines.new.work).spent.faults fault in
    back_refused c.from_residual.result fault is found.reading (subst C c.as_slice.ensures.value found.cause)
    (within_range held c.args.runs.now.items 0 c.args.steps.now c.seek_lines.new.steps (all_by_recursion (HasRun held) c.args.runs.now.items c.requires.runs)
    c.requires.levels (subst L c.as_slice.ensures.value found.left))
    (subst X c.as_slice.ensures.value found.exact) (subst F c.as_slice.ensures.value found.costs)

pub returns-clause-turns : goal.returns-clause-turns
returns-clause-turns g c =
    let held : Held = (g.W.CellSource.state c.args.work.now).held in
    let found = c.in_ok-found.ensures in
    let same = c.as_slice.ensures.value in
    let runs = c.args.runs.now.items in
    let key = sought c.args.over c.args.hi.now in
    let low = option_copied c.args.lo in
    let old : Cursor = record { lines = c.in_ok-found.found; end = None; falls = false } in
    let new : Cursor = record { lines = c.turned_lines-lines.result; end = c.copied-end.result; falls = true } in
    let turned : new.lines.items ≡ map turned_line old.lines.items = c.turned_lines-lines.ensures ∙ ap (map turned_line) c.as_slice-2.ensures.value in
    let R : List Run → Type 0 = λ x. (lists : List (List LawCell)) → AreRuns held x lists → map (λ (line : Line). line.place) c.in_ok-found.found.items ≡ places_from key 0 lists in
    let X : List Run → Type 0 = λ x. Answers (places_told held key 0 x) places_of (Ok c.in_ok-found.found) in
    let F : List Run → Type 0 = λ x. Costs (g.W.CellSource.state c.args.work.now).spent (g.W.CellSource.state c.seek_lines.new.work).spent c.args.steps.now c.seek_lines.new.steps (8 * length x) (2 * length x) in
    let costs = subst F same found.costs in
    let S : Held → Type 0 = λ h. StandsAlong true h new in
    let places = subst R same found.places in
    record {
      ahead = λ lists r a. back_ahead held low key runs old new (found.begins ∙ same) turned c.copied-end.ensures lists r a (places lists r);
      places = λ lists r. places_back held old.lines.items new.lines.items (places_from key 0 lists) found.fit turned (places lists r);
      exact = answers_seen (places_told held key 0 runs) places_of (λ (cursor : Cursor). aheads_of cursor.lines) c.in_ok-found.found new
          (places_back held old.lines.items new.lines.items (map (λ (line : Line). line.place) old.lines.items) found.fit turned refl) (subst X same found.exact);
      begins = (ap runs_of turned ∙ runs_back old.lines.items ∙ found.begins ∙ same, c.copied-end.ensures, refl);
      stands = subst S (sym found.looks.cells_stay) (turned_stands held old new turned (begun_stands held key c.as_slice.result.now old found.fit found.begins found.places));
      costs = costs;
      left = back_within held runs old.lines.items new.lines.items c.args.steps.now c.seek_lines.new.steps
          (all_by_recursion (HasRun held) runs c.requires.runs) c.requires.levels found.fit (found.begins ∙ same) turned costs.steps_rise;
      reading = found.reading;
      cause = tt;
    }
