-- A cursor whose runs stay.
use Rattle.std.proofs.Common.{◌≡◌, ℕ, ◌<◌, List, [], ◌∷◌, Option, None, Some, sym, subst, Bool}
use Rattle.std.specs.List.{AllByRecursion}
use Rattle.cola_cell.specs.declared.cell.Cell.{Cell}
use Rattle.cola_cell.specs.Held.{Held, Spot, Told, Tells, LawCell, Stamped, as_cell}
use Rattle.cola_cell.proofs.RunLemmas.{run_stays}
use Rattle.cola_look.specs.Runs.{AreRuns}
use Rattle.cola_cursor.specs.declared.line.Line.{Line}
use Rattle.cola_cursor.specs.declared.cursor.Cursor.{Cursor}
use Rattle.cola_cursor.specs.Lines.{HeadFits, LineFits}
use Rattle.cola_cursor.specs.Standing.{runs_of, StandsAlong, AheadAlong, RunsStay}
use Rattle.cola_cursor.specs.Way.{at}
use Rattle.cola_cursor.proofs.Keys.{at_within}

module _ (falls : Bool) where
  fits_then : (old new : Held) (line : Line) → new.fixed.levels ≡ old.fixed.levels → ((i : ℕ) → i < line.run.len → new.spots line.run.level line.run.slot i ≡ old.spots line.run.level line.run.slot i) → LineFits falls old line → LineFits falls new line
  fits_then old new line e s f = record {
    run = record { level_in = subst (λ n. line.run.level < n) (sym e) f.run.level_in; slot_in = f.run.slot_in; within = f.run.within };
    place_in = f.place_in;
    head = go line.head f.head;
  }
    where
      go : (head : Option Cell) → HeadFits falls old line.run line.place head → HeadFits falls new line.run line.place head
      go None h = h
      go (Some c) h = (h.0, subst (λ (x : Spot). Tells x (Told (as_cell c))) (sym (s (at falls line.run.len line.place) (at_within falls line.run.len line.place h.0))) h.1)

  all_fit : (old new : Held) (lines : List Line) → new.fixed.levels ≡ old.fixed.levels → RunsStay old new lines → AllByRecursion (LineFits falls old) lines → AllByRecursion (LineFits falls new) lines
  all_fit old new [] e s f = tt
  all_fit old new (line ∷ lines) e s f = (fits_then old new line e s.0 f.0, all_fit old new lines e s.1 f.1)

  runs_then : (old new : Held) (lines : List Line) (lists : List (List LawCell)) → RunsStay old new lines → AreRuns old (runs_of lines) lists → AreRuns new (runs_of lines) lists
  runs_then old new [] [] s r = tt
  runs_then old new [] (cells ∷ lists) s r = r
  runs_then old new (line ∷ lines) [] s r = r
  runs_then old new (line ∷ lines) (cells ∷ lists) s r = (run_stays old new line.run cells s.0 r.0, runs_then old new lines lists s.1 r.1)

  turned : (old new : Held) (lines : List Line) → RunsStay old new lines → RunsStay new old lines
  turned old new [] s = tt
  turned old new (line ∷ lines) s = (λ i l. sym (s.0 i l), turned old new lines s.1)

  pub stands_stay : (old new : Held) (cursor : Cursor) → new.fixed.levels ≡ old.fixed.levels → RunsStay old new cursor.lines.items → StandsAlong falls old cursor → StandsAlong falls new cursor
  stands_stay old new cursor e s h = record {
    fit = all_fit old new cursor.lines.items e s h.fit;
    apart = λ lists r a. h.apart lists (runs_then new old cursor.lines.items lists (turned old new cursor.lines.items s) r) a;
  }

  pub ahead_stays : (old new : Held) (cursor : Cursor) (pairs : List (List ℕ × Stamped)) → RunsStay old new cursor.lines.items → AheadAlong falls old cursor pairs → AheadAlong falls new cursor pairs
  ahead_stays old new cursor pairs s a = record { lists = a.lists; told = runs_then old new cursor.lines.items a.lists s a.told; rising = a.rising; apart = a.apart; pairs_are = a.pairs_are }
