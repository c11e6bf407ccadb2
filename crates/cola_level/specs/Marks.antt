-- The marks of a level, and what flips and ends of windows make of a level.
use Rattle.std.specs.Prelude.{◌≤◌, List, [], ◌∷◌}
use Rattle.cola_clock.specs.Marks.{Marks}
use Rattle.cola_merge.specs.Heads.{head_at, fresh}
use Rattle.cola_level.specs.declared.level.Level.{Level}

-- the lengths of a level's runs and the cursors of its merge, as the rules on marks read them
abbrev pub marks_of : Level → Marks
marks_of l = record { visible = l.visible; shadow = l.shadow; own = l.merger.own.at; incoming = l.merger.incoming.at; sampled = l.merger.sample.at }

-- the same of all levels
abbrev pub all_marks_of : List Level → List Marks
all_marks_of [] = []
all_marks_of (l ∷ ls) = marks_of l ∷ all_marks_of ls

-- a level with these marks, none of whose heads was read yet
abbrev pub level_with : Marks → Level
level_with m = record { visible = m.visible; shadow = m.shadow; merger = record { own = head_at m.own; incoming = head_at m.incoming; sample = head_at m.sampled } }

-- each cell of its own run was consumed
abbrev pub IsOwnRunConsumed : Level → Type 0
IsOwnRunConsumed l = l.visible ≤ l.merger.own.at

-- a level that leaves its window: its cursors become 0
abbrev pub out_of_window : Level → Level
out_of_window l = record { visible = l.visible; shadow = l.shadow; merger = fresh }

-- a level that flips: its shadow is visible, its new shadow is empty, and no head is held of the sources that it had
abbrev pub flipped : Level → Level
flipped l = level_with (record { visible = l.shadow; shadow = 0; own = l.merger.own.at; incoming = l.merger.incoming.at; sampled = l.merger.sample.at })
