use Rattle.std.proofs.Common.{Ok, Err, refl, false, ◌≡◌, ℕ, List, Option, map, sym, subst, ◌+◌, ◌*◌, ◌≤◌, ◌∙◌, length}
use Rattle.cola_cell.specs.declared.cell.Run.{Run}
use Rattle.cola_cell.specs.Costs.{Costs}
use Rattle.cola_cell.specs.Held.{Held, LawCell}
use Rattle.cola_cell.specs.Order.{key_cmp}
use Rattle.cola_look.specs.Outcome.{Answers}
use Rattle.cola_look.specs.Runs.{HasRun, AreRuns}
use Rattle.cola_look.proofs.Looking.{err_is, looked_none, looks_as, looks_refused}
use Rattle.cola_pairs.specs.Live.{live, between}
use Rattle.cola_cursor.specs.declared.cursor.Cursor.{Cursor}
use Rattle.cola_cursor.specs.declared.line.Line.{Line}
use Rattle.cola_cursor.specs.Lines.{all_left}
use Rattle.cola_cursor.specs.Standing.{AreSearched, StandsAlong, AheadAlong}
use Rattle.cola_cursor.specs.Seeking.{places_from, places_of, places_told, cells_of, RunsCause}
use Rattle.cola_cursor.proofs.Places.{begun_stands, begun_ahead, within_range, all_by_recursion, seek_refused}
use Rattle.cola_cursor.proofs.Searched.{answers_seen}
use Rattle.cola_cursor.proofs.cursor.Cursor.seek.Goals as goal

pub returns : goal.returns
returns g c =
    let held : Held = (g.W.CellSource.state c.args.work.now).held in
    let lines = c.in_ok-lines.ensures in
    let same = c.as_slice.ensures.value in
    let new : Cursor = record { lines = c.in_ok-lines.lines; end = c.copied-end.result; falls = false } in
    let P : Option (List ℕ) → Type 0 = λ x. (lists : List (List LawCell)) → AreRuns held c.args.runs.now.items lists → AreSearched c.args.lo.now lists →
    AheadAlong false held new (live key_cmp (between key_cmp c.args.lo.now x) lists) in
    let R : List Run → Type 0 = λ x. (lists : List (List LawCell)) → AreRuns held x lists → map (λ (line : Line). line.place) c.in_ok-lines.lines.items ≡ places_from c.args.lo.now 0 lists in
    let L : List Run → Type 0 = λ x. c.seek_lines.new.steps + all_left c.in_ok-lines.lines.items ≤ c.args.steps.now + 8 * length x + cells_of x in
    let X : List Run → Type 0 = λ x. Answers (places_told held c.args.lo.now 0 x) places_of (Ok c.in_ok-lines.lines) in
    let F : List Run → Type 0 = λ x. Costs (g.W.CellSource.state c.args.work.now).spent (g.W.CellSource.state c.seek_lines.new.work).spent c.args.steps.now c.seek_lines.new.steps (8 * length x) (2 * length x) in
    let S : Held → Type 0 = λ h. StandsAlong false h new in
    let places = subst R same lines.places in
    record {
      looks = looks_as lines.looks;
      seeks = record {
        ahead = subst P c.copied-end.ensures (λ lists r a. begun_ahead held c.args.lo.now c.args.runs.now.items new (lines.begins ∙ same) lists r a (places lists r));
        places = places;
        exact = answers_seen (places_told held c.args.lo.now 0 c.args.runs.now.items) places_of (λ (cursor : Cursor). places_of cursor.lines) c.in_ok-lines.lines new refl (subst X same lines.exact);
        begins = (lines.begins ∙ same, c.copied-end.ensures, refl);
        stands = subst S (sym lines.looks.cells_stay) (begun_stands held c.args.lo.now c.as_slice.result.now new lines.fit lines.begins lines.places);
        costs = subst F same lines.costs;
        left = within_range held c.args.runs.now.items (all_left c.in_ok-lines.lines.items) c.args.steps.now c.seek_lines.new.steps
            (all_by_recursion (HasRun held) c.args.runs.now.items c.requires.runs) c.requires.levels (subst L same lines.left);
        reading = lines.reading;
        cause = tt;
      };
    }

pub returns-in_err-lines : goal.returns-in_err-lines
returns-in_err-lines g c =
    let held : Held = (g.W.CellSource.state c.args.work.now).held in
    let lines = c.in_err-lines.ensures in
    let fault = c.in_err-lines.field-0.0 in
    let is = err_is c.from_residual.result fault c.from_residual.ensures.1 in
    let L : List Run → Type 0 = λ x. c.seek_lines.new.steps + 0 ≤ c.args.steps.now + 8 * length x + cells_of x in
    let X : List Run → Type 0 = λ x. Answers (places_told held c.args.lo.now 0 x) places_of (Err fault) in
    let F : List Run → Type 0 = λ x. Costs (g.W.CellSource.state c.args.work.now).spent (g.W.CellSource.state c.seek_lines.new.work).spent c.args.steps.now c.seek_lines.new.steps (8 * length x) (2 * length x) in
    let C : List Run → Type 0 = λ x. RunsCause held x (g.W.CellSource.state c.args.work.now).spent.faults (g.W.CellSource.state c.seek_lines.new.work).spent.faults fault in
    record {
      looks = looks_refused fault c.from_residual.result looked_none lines.looks is;
      seeks = seek_refused c.from_residual.result fault is lines.reading (subst C c.as_slice.ensures.value lines.cause)
          (within_range held c.args.runs.now.items 0 c.args.steps.now c.seek_lines.new.steps (all_by_recursion (HasRun held) c.args.runs.now.items c.requires.runs)
          c.requires.levels (subst L c.as_slice.ensures.value lines.left))
          (subst X c.as_slice.ensures.value lines.exact) (subst F c.as_slice.ensures.value lines.costs);
    }
