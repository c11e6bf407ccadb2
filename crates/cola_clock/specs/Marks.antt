-- The marks of a level, which are the lengths of its runs and the cursors of its merge, as plain numbers; and which marks
-- the levels of a store may have at a clock. Whoever keeps levels, in memory or in a file, cites these rules.
use Rattle.std.specs.Prelude.{◌≡◌, ℕ, zero, suc, ◌+◌, ◌*◌, ◌/◌, ◌^◌, ◌≤◌, min, Bool, true, cond, List, [], ◌∷◌, slice_index_or, drop, ⊤}
use Rattle.cola_clock.specs.Clock.{period, is_odd, works, is_before, is_over, window_step, flips, ends}

-- how many steps of its merge a mutation takes at each level of 1 and more that works
abbrev pub merge_steps : ℕ
merge_steps = 28

-- for how many cells of the run below a level samples one key
abbrev pub sample_distance : ℕ
sample_distance = 8

-- the marks of a level: the lengths of its visible run and its shadow, and how many cells of each source its merge has
-- consumed: of its own visible run, of the visible run above it, and of the sample of the run below it
pub record Marks : Type 0 where
  pub visible : ℕ
  pub shadow : ℕ
  pub own : ℕ
  pub incoming : ℕ
  pub sampled : ℕ

-- the cells of its sources that a level's merge has consumed
abbrev pub consumed : Marks → ℕ
consumed m = m.own + m.incoming + m.sampled

-- cursors at 0
pub record AreCursorsAtRest (m : Marks) : Type 0 where
  pub own_rests : m.own ≡ 0
  pub incoming_rests : m.incoming ≡ 0
  pub sampled_rests : m.sampled ≡ 0

-- an empty shadow and cursors at 0
pub record AreMarksIdle (m : Marks) : Type 0 where
  pub empty : m.shadow ≡ 0
  pub at_rest : AreCursorsAtRest m

-- how many keys a level samples, by the parity of its period: one for each eight cells of the visible run below it in an
-- even period, of the shadow below it in an odd one, and none at the bottom
abbrev pub sample_end : Bool → List Marks → ℕ
sample_end odd [] = 0
sample_end odd (m ∷ below) = cond odd m.shadow m.visible / sample_distance

-- marks of a merge under way, where so many steps are due: each cursor is at most the length of its source, so many source
-- cells are consumed, or all, and the shadow has at least the sampled cells and at most the consumed ones
pub record AreMarksInside (due incoming_end sampled_end : ℕ) (m : Marks) : Type 0 where
  pub own_within : m.own ≤ m.visible
  pub incoming_within : m.incoming ≤ incoming_end
  pub sampled_within : m.sampled ≤ sampled_end
  pub enough : min (m.visible + incoming_end + sampled_end) due ≤ consumed m
  pub sampled_done : m.sampled ≤ m.shadow
  pub done_consumed : m.shadow ≤ consumed m

-- the rules on the marks of level j at clock t, where the visible run above it has `above` cells and the levels below it
-- have the marks `below`, and where the levels that work are `ahead` steps ahead of the clock
pub record AreLevelMarks (ahead t j above : ℕ) (m : Marks) (below : List Marks) : Type 0 where
  -- both runs fit their slots
  pub visible_fits : m.visible ≤ 2 ^ (j + 2)
  pub shadow_fits : m.shadow ≤ 2 ^ (j + 2)
  -- level 0's next run is built whole, so it has no shadow between two mutations
  pub first : j ≡ 0 → AreMarksIdle m
  -- a level whose window is still to come has done nothing
  pub before : is_before t j ≡ true → AreMarksIdle m
  -- a level inside its window keeps pace with the clock
  pub inside : 1 ≤ j → works t j ≡ true →
      AreMarksInside (ahead + merge_steps * window_step t j) above (sample_end (is_odd (period t j)) below) m
  -- a level whose window is over has its shadow finished
  pub after : is_over t j ≡ true → AreCursorsAtRest m

-- the same of level j and of all below it, down to the bottom, which is the last
abbrev pub AreAllMarks : ℕ → ℕ → ℕ → ℕ → List Marks → Type 0
AreAllMarks ahead t j above [] = ⊤
AreAllMarks ahead t j above (m ∷ below) = AreLevelMarks ahead t j above m below × AreAllMarks ahead t (suc j) m.visible below

-- the levels 0 to the bottom have marks that they may have between two mutations at clock t
abbrev pub AreChainMarks : ℕ → List Marks → Type 0
AreChainMarks t levels = AreAllMarks 0 t 0 0 levels

-- the marks of a level with nothing in it
abbrev pub no_marks : Marks
no_marks = record { visible = 0; shadow = 0; own = 0; incoming = 0; sampled = 0 }

-- the marks of level j
abbrev pub marks_at : List Marks → ℕ → Marks
marks_at levels j = slice_index_or levels j no_marks

-- the length of the visible run above the level at place j of these, where over the first of them stands one of `above` cells
abbrev pub above_at : ℕ → List Marks → ℕ → ℕ
above_at above levels zero = above
above_at above levels (suc j) = (marks_at levels j).visible

-- level j of the levels 0 to the bottom has marks that it may have
abbrev pub AreMarksAt : ℕ → List Marks → ℕ → Type 0
AreMarksAt t levels j = AreLevelMarks 0 t j (above_at 0 levels j) (marks_at levels j) (drop (suc j) levels)

-- the marks of level j after the mutation at clock t, when all its steps are done: it flips, or it leaves its window, or
-- it stays
abbrev pub marks_after : ℕ → ℕ → Marks → Marks
marks_after t j m =
    cond (flips t j) (record { visible = m.shadow; shadow = 0; own = m.own; incoming = m.incoming; sampled = m.sampled })
    (cond (ends t j) (record { visible = m.visible; shadow = m.shadow; own = 0; incoming = 0; sampled = 0 }) m)

-- the same of level j and of all below it
abbrev pub all_marks_after : ℕ → ℕ → List Marks → List Marks
all_marks_after t j [] = []
all_marks_after t j (m ∷ below) = marks_after t j m ∷ all_marks_after t (suc j) below
