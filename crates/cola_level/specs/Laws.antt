-- The laws of levels on an object of cells: what their aims read, and what stays while one of them works.
use Rattle.std.specs.Prelude.{◌≡◌, ◌≢◌, ◌⊎◌, ◌+◌, ◌-◌, ◌<◌, ℕ, suc, List, [], ◌∷◌}
use Rattle.cola_clock.specs.Clock.{period, is_odd, visible_slot}
use Rattle.cola_clock.specs.Marks.{Marks, sample_end}
use Rattle.cola_laws.specs.Chain.{part_of, next_runs, first_keys}
use Rattle.cola_cell.specs.declared.cell.Cell.{Cell}
use Rattle.cola_cell.specs.Held.{Held, as_cell}
use Rattle.cola_merge.specs.Feeds as merge
use Rattle.cola_merge.specs.Feeds.{feed_cells, feed_keys}
use Rattle.cola_merge.specs.States.{Grows}
use Rattle.cola_level.specs.Aims.{aim_at, top_at}
use Rattle.cola_level.specs.Standing.{visible_cells, stood, all_stood}
use Rattle.cola_level.specs.Work.{sources}

-- ---- a level of 1 and more

-- its part is by the parity of its period and by whether anything lies below it
abbrev pub PartByPeriod : Type 0
PartByPeriod = (held : Held) (t i own above : ℕ) (below : List Marks) →
    merge.part_of (aim_at t i own above below)
    ≡ part_of (is_odd (period t (suc i))) (all_stood held t (suc (suc i)) below)

-- its own cells are those of its visible run
abbrev pub OwnIsVisible : Type 0
OwnIsVisible = (held : Held) (t i own above : ℕ) (below : List Marks) →
    feed_cells held (aim_at t i own above below).own ≡ visible_cells held t (suc i) own

-- what comes in is the visible run above it
abbrev pub IncomingIsAbove : Type 0
IncomingIsAbove = (held : Held) (t i own above : ℕ) (below : List Marks) →
    feed_cells held (aim_at t i own above below).incoming ≡ visible_cells held t i above

-- its keys are those of the first of its next runs
abbrev pub KeysOfNextRun : Type 0
KeysOfNextRun = (held : Held) (t i own above : ℕ) (below : List Marks) →
    feed_keys held (aim_at t i own above below).sample
    ≡ first_keys (next_runs t (suc i) (all_stood held t (suc (suc i)) below))

-- so many cells are to be consumed
abbrev pub SourcesByMarks : Type 0
SourcesByMarks = (t i own above : ℕ) (below : List Marks) →
    sources (aim_at t i own above below) ≡ own + above + sample_end (is_odd (period t (suc i))) below

-- it is level i + 1 that is built
abbrev pub LevelIsBelow : Type 0
LevelIsBelow = (t i own above : ℕ) (below : List Marks) → (aim_at t i own above below).level ≡ suc i

-- it is built in the slot that is not visible
abbrev pub SlotOfShadow : Type 0
SlotOfShadow = (t i own above : ℕ) (below : List Marks) →
    (aim_at t i own above below).slot ≡ 1 - visible_slot t (suc i)

-- ---- level 0

-- the same of the part of level 0
abbrev pub TopPartByPeriod : Type 0
TopPartByPeriod = (held : Held) (t own : ℕ) (c : Cell) (below : List Marks) →
    merge.part_of (top_at t own c below) ≡ part_of (is_odd (period t 0)) (all_stood held t 1 below)

-- of its own cells
abbrev pub TopOwnIsVisible : Type 0
TopOwnIsVisible = (held : Held) (t own : ℕ) (c : Cell) (below : List Marks) →
    feed_cells held (top_at t own c below).own ≡ visible_cells held t 0 own

-- what comes in is the one new cell
abbrev pub TopIncomingIsOne : Type 0
TopIncomingIsOne = (held : Held) (t own : ℕ) (c : Cell) (below : List Marks) →
    feed_cells held (top_at t own c below).incoming ≡ as_cell c ∷ []

-- the same of its keys
abbrev pub TopKeysOfNextRun : Type 0
TopKeysOfNextRun = (held : Held) (t own : ℕ) (c : Cell) (below : List Marks) →
    feed_keys held (top_at t own c below).sample ≡ first_keys (next_runs t 0 (all_stood held t 1 below))

-- ---- while a level's shadow grows

-- the runs of all levels below it stay
abbrev pub LevelsBelowStay : Type 0
LevelsBelowStay = (old new : Held) (level t j : ℕ) (below : List Marks) → Grows old new level →
    level < j → all_stood new t j below ≡ all_stood old t j below

-- the runs of each other level stay
abbrev pub OtherLevelStays : Type 0
OtherLevelStays = (old new : Held) (level t j : ℕ) (m : Marks) → Grows old new level →
    j ≢ level → stood new t j m ≡ stood old t j m

-- a visible run stays that is of another level, or stands in another slot than the shadow
abbrev pub VisibleRunStays : Type 0
VisibleRunStays = (old new : Held) (level t j len : ℕ) → Grows old new level →
    (j ≢ level) ⊎ (visible_slot t j ≢ (old.shadows level).slot) →
    visible_cells new t j len ≡ visible_cells old t j len
