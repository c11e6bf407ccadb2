-- What the laws of cursors say.
use Rattle.std.specs.Prelude.{◌≡◌, List, ℕ}
use Rattle.cola_cell.specs.Held.{Held, Stamped}
use Rattle.cola_cursor.specs.declared.cursor.Cursor.{Cursor}
use Rattle.cola_cursor.specs.Standing.{Stands, Ahead, RunsStay}

-- a call that leaves the levels of an object and the cells of a cursor's runs leaves the cursor where it stands
abbrev pub StaysStanding : Type 0
StaysStanding = (old new : Held) (cursor : Cursor) → new.fixed.levels ≡ old.fixed.levels →
    RunsStay old new cursor.lines.items → Stands old cursor → Stands new cursor

-- a call that leaves the cells of a cursor's runs leaves the pairs ahead of it
abbrev pub PairsStayAhead : Type 0
PairsStayAhead = (old new : Held) (cursor : Cursor) (pairs : List (List ℕ × Stamped)) →
    RunsStay old new cursor.lines.items → Ahead old cursor pairs → Ahead new cursor pairs
