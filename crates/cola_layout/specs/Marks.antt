-- The marks of a header's levels, as the rules on marks read them. The rules are the clock's: whoever keeps a chain of
-- levels cites the same.
use Rattle.std.specs.Prelude.{ℕ, List, map, slice_index_or}
use Rattle.cola_clock.specs.Marks.{Marks as LevelMarks, AreChainMarks, AreMarksAt}
use Rattle.cola_layout.specs.declared.marks.Marks.{Marks}

-- the numbers of a level's marks
abbrev pub numbers_of : Marks → LevelMarks
numbers_of m = record { visible = m.visible; shadow = m.shadow; own = m.own; incoming = m.incoming; sampled = m.sample }

-- the numbers of the marks of all levels
abbrev pub all_numbers : List Marks → List LevelMarks
all_numbers levels = map numbers_of levels

-- the levels 0 to the bottom have marks that they may have at clock t
abbrev pub AreMarks : ℕ → List Marks → Type 0
AreMarks t levels = AreChainMarks t (all_numbers levels)

-- level j has marks that it may have, beside those of the levels around it
abbrev pub FitsAt : ℕ → List Marks → ℕ → Type 0
FitsAt t levels j = AreMarksAt t (all_numbers levels) j

-- the marks of a level with nothing in it
abbrev pub no_marks : Marks
no_marks = record { visible = 0; shadow = 0; own = 0; incoming = 0; sample = 0 }

-- the marks of level j
abbrev pub marks_of : List Marks → ℕ → Marks
marks_of levels j = slice_index_or levels j no_marks
