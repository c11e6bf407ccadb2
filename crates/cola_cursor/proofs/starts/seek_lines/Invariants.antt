use Rattle.std.proofs.Common.{false, ◌≡◌, ◌+◌, ◌*◌, ◌≤◌, ◌++◌, List, map, take, drop, length}
use Rattle.std.specs.List.{AllByRecursion}
use Rattle.cola_cell.specs.Costs.{Costs}
use Rattle.cola_cell.specs.Held.{LawCell}
use Rattle.cola_look.specs.Runs.{AreRuns}
use Rattle.cola_look.proofs.Looking.{Looked}
use Rattle.cola_look.proofs.SeekLemmas.{GoesOn}
use Rattle.cola_cursor.specs.Lines.{LineFits, Reading, all_left}
use Rattle.cola_cursor.specs.Standing.{runs_of}
use Rattle.cola_cursor.specs.Seeking.{places_from, places_told, cells_of}
use Rattle.cola_cursor.specs.Turning.{sought}
use Rattle.cola_cursor.proofs.Searched.{with_places}
use Rattle.cola_cursor.proofs.starts.seek_lines.Given as goal

abbrev pub invariant-loop-i : goal.invariant-loop-i
invariant-loop-i g l = record {
  looks : Looked g.W.CellSource l.fn.work l.work;
  reading : Reading (g.W.CellSource.state l.fn.work) (g.W.CellSource.state l.work) l.fn.steps l.steps;
  left : l.steps + all_left l.lines.items + cells_of (drop l.i l.runs) ≤ l.fn.steps + 8 * l.i + cells_of l.runs;
  costs : Costs (g.W.CellSource.state l.fn.work).spent (g.W.CellSource.state l.work).spent l.fn.steps l.steps (8 * l.i) (2 * l.i);
  told : GoesOn (places_told (g.W.CellSource.state l.fn.work).held (sought l.over l.key) 0 l.runs) (with_places (map (λ line. line.place) l.lines.items) (places_told (g.W.CellSource.state l.fn.work).held (sought l.over l.key) l.start (drop l.i l.runs)));
  count : length l.lines.items ≡ l.i;
  begins : runs_of l.lines.items ≡ take l.i l.runs;
  fit : AllByRecursion (LineFits false (g.W.CellSource.state l.fn.work).held) l.lines.items;
  places : (lists : List (List LawCell)) → AreRuns (g.W.CellSource.state l.fn.work).held l.runs lists →
      map (λ line. line.place) l.lines.items ++ places_from (sought l.over l.key) l.start (drop l.i lists) ≡ places_from (sought l.over l.key) 0 lists;
}
