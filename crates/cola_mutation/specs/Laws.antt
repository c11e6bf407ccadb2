-- The laws of levels on an object, and of the keys of a finite map.
use Rattle.std.specs.Prelude.{◌≡◌, ◌≢◌, ℕ, ◌<◌, ◌≤◌, ◌^◌, true, List, ◌∷◌, length, Option}
use Rattle.cola_outside.specs.Faults.{Rose}
use Rattle.cola_clock.specs.Clock.{is_over}
use Rattle.cola_clock.specs.Marks.{Marks, AreChainMarks}
use Rattle.cola_spec.specs.Map.{Shape, Map, next_stamp, with_value, after_delete}
use Rattle.cola_runs.specs.Search.{AreSampled}
use Rattle.cola_laws.specs.Chain.{visibles, value_at, updated}
use Rattle.cola_laws.specs.Sound.{HasAtMost}
use Rattle.cola_cell.specs.declared.cell.Item.{Item}
use Rattle.cola_cell.specs.declared.cell.Item.TheVariants.{Value, Tombstone}
use Rattle.cola_cell.specs.declared.fault.StepFault.TheVariants.{Device, BadCell, Overfull}
use Rattle.cola_cell.specs.Costs.{HasBad}
use Rattle.cola_cell.specs.Held.{Held, Stamped, IsTelling, as_item}
use Rattle.cola_cell.specs.Order.{key_cmp}
use Rattle.cola_cell.specs.Places.{slot_size}
use Rattle.cola_image.specs.Standing.{found_in, LevelsStandFor}
use Rattle.cola_level.specs.declared.level.Level.{Level}
use Rattle.cola_level.specs.Marks.{all_marks_of}
use Rattle.cola_level.specs.Standing.{all_stood}
use Rattle.cola_level.specs.Work.{sources}
use Rattle.cola_mutation.specs.Levels.{IsChain, levels_with, ArePlaced}
use Rattle.cola_mutation.specs.Work.{WorkState, build_aim}
use Rattle.cola_mutation.specs.Standing.{StandsFor, first_marks, new_cell, HasRefusal, IsFullLevel}

-- ---- how levels begin

-- levels that are read back from marks that they may have, on an object whose shadows are as the marks say, are a chain
abbrev pub NewLevelsAreChain : Type 0
NewLevelsAreChain = (held : Held) (t : ℕ) (marks : List Marks) →
    2 ≤ length marks → length marks ≡ held.fixed.levels → t < 2 ^ length marks →
    AreChainMarks t marks → ArePlaced held t 0 marks → IsChain held t (levels_with marks)

-- ---- when they stand for a map

-- levels stand for a finite map only where their runs do
abbrev pub RunsStandForMaps : Type 0
RunsStandForMaps = (held : Held) (most t : ℕ) (levels : List Level) (m : Map) →
    StandsFor held most t levels (found_in m) → LevelsStandFor most t (all_marks_of levels) held.spots m

-- each shadow of these levels whose window is over is on the device
abbrev pub AreSavedOnceOver : Held → ℕ → List Level → Type 0
AreSavedOnceOver held t levels =
    (l : ℕ) → l < length levels → is_over t l ≡ true → (held.shadows l).saved ≡ true

-- levels stand for a finite map where their runs do, and each shadow whose window is over is on the device
abbrev pub LevelsStandForMaps : Type 0
LevelsStandForMaps = (held : Held) (most t : ℕ) (levels : List Level) (m : Map) →
    IsTelling held → AreSavedOnceOver held t levels →
    LevelsStandFor most t (all_marks_of levels) held.spots m → StandsFor held most t levels (found_in m)

-- the visible runs of levels that stand for a map are in the state that a search by links wants
abbrev pub VisibleRunsAreSampled : Type 0
VisibleRunsAreSampled = (held : Held) (most t : ℕ) (levels : List Level) (m : List ℕ → Option Stamped) →
    StandsFor held most t levels m →
    AreSampled key_cmp (visibles (all_stood held t 0 (all_marks_of levels)))

-- they have for each key what the map has
abbrev pub VisibleRunsAnswer : Type 0
VisibleRunsAnswer = (held : Held) (most t : ℕ) (levels : List Level) (m : List ℕ → Option Stamped) →
    StandsFor held most t levels m →
    (q : List ℕ) → value_at key_cmp (visibles (all_stood held t 0 (all_marks_of levels))) q ≡ m q

-- the map has at most as many keys as the store is for
abbrev pub MapIsFew : Type 0
MapIsFew = (held : Held) (most t : ℕ) (levels : List Level) (m : List ℕ → Option Stamped) →
    StandsFor held most t levels m →
    HasAtMost key_cmp most m

-- ---- what a refusal says

-- the device's count of faults rose
abbrev pub DeviceRose : Type 0
DeviceRose = (t : ℕ) (key : List ℕ) (item : Item) (s u : WorkState) (ls ms : List Level) →
    HasRefusal t key item s u ls ms Device → Rose s.spent.faults u.spent.faults

-- the bytes of the cell of this number spell none
abbrev pub CellIsBad : Type 0
CellIsBad = (t : ℕ) (key : List ℕ) (item : Item) (s u : WorkState) (ls ms : List Level) (number : ℕ) →
    HasRefusal t key item s u ls ms (BadCell number) → HasBad u.held number

-- this level of 1 and more is one of the chain, works at the clock, and its shadow fills its slot
abbrev pub LevelIsFull : Type 0
LevelIsFull = (t : ℕ) (key : List ℕ) (item : Item) (s u : WorkState) (ls ms : List Level) (level : ℕ) →
    HasRefusal t key item s u ls ms (Overfull level) → level ≢ 0 → IsFullLevel t (length ls) u.held level

-- level 0's new run has more source cells than its slot has places
abbrev pub TopIsOverfull : Type 0
TopIsOverfull = (t : ℕ) (key : List ℕ) (item : Item) (s u : WorkState)
    (top built : Level) (below worked : List Level) →
    HasRefusal t key item s u (top ∷ below) (built ∷ worked) (Overfull 0) →
    slot_size 0 < sources (build_aim t (new_cell key item) top (first_marks worked))

-- ---- the keys of a finite map

-- a put that is accepted changes one key of the map
abbrev pub PutUpdatesOneKey : Type 0
PutUpdatesOneKey = (shape : Shape) (m : Map) (key value : List ℕ) → found_in (with_value shape m key value)
    ≡ updated key_cmp key (as_item (Value value (next_stamp shape m))) (found_in m)

-- so does a delete
abbrev pub DeleteUpdatesOneKey : Type 0
DeleteUpdatesOneKey = (m : Map) (key : List ℕ) →
    found_in (after_delete m key) ≡ updated key_cmp key (as_item Tombstone) (found_in m)
