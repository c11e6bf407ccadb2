-- The tests of a file, in the order in which they are made: what each asks, and the first place at which a file fails it.
use Rattle.std.specs.Prelude.{◌≡◌, ℕ, zero, suc, ◌*◌, ◌-◌, ◌^◌, ◌≤◌, ◌<◌, ◌==◌, Bool, true, not, cond, if◌then◌else◌, List, [], ◌∷◌, length, take, drop, slice_index_or, ⊤}
use Rattle.std.specs.List.{AllByRecursion}
use Rattle.cola_clock.specs.Clock.{period, is_odd, works, is_over, visible_slot}
use Rattle.cola_clock.specs.Marks.{Marks, marks_at}
use Rattle.cola_runs.specs.Cells.{IsWellFormed, look_keys, count_items, count_young, IsOldValue, sample}
use Rattle.cola_runs.specs.Seen.{seen}
use Rattle.cola_runs.specs.Weave.{IsCut}
use Rattle.cola_cell.specs.Held.{LawCell, Stamped, Spots, Bad}
use Rattle.cola_cell.specs.Order.{key_cmp}
use Rattle.cola_cell.specs.Places.{number_of}
use Rattle.cola_layout.specs.Cells.{slot_cells, file_spots}
use Rattle.cola_laws.specs.Chain as chain
use Rattle.cola_laws.specs.Plain.{empty_level}
use Rattle.cola_laws.specs.Slots.{levels_of}
use Rattle.cola_laws.specs.Sound.{Carried, Keeps, KeepsAll, IsVisible}
use Rattle.cola_layout.specs.Header.{Fields}
use Rattle.cola_layout.specs.Marks.{all_numbers}
use Rattle.cola_pairs.specs.Live.{live}
use Rattle.cola_cell.specs.ToldCells.{IsTold}

-- a level of a file
abbrev pub FileLevel : Type 0
FileLevel = chain.Level (List ℕ) Stamped

-- what is tested of a file: for how many keys it is, the count, the clock and the last number of its header, the marks of its
-- levels, and what is told of its cells
pub record Tested : Type 0 where
  pub most : ℕ
  pub count : ℕ
  pub clock : ℕ
  pub last : ℕ
  pub marks : List Marks
  pub spots : Spots

-- a file with this header and these bytes, as it is tested
abbrev pub tested_of : Fields → List ℕ → Tested
tested_of header bytes = record {
  most = header.keys;
  count = header.count;
  clock = header.clock;
  last = header.last;
  marks = all_numbers header.levels;
  spots = file_spots header.format bytes;
}

-- its levels
abbrev pub levels_in : Tested → List FileLevel
levels_in file = levels_of (slot_cells file.spots) file.clock 0 file.marks

-- how many cells the run in a slot of a level has
abbrev pub run_len : Tested → ℕ → ℕ → ℕ
run_len file level slot = if slot == visible_slot file.clock level then (marks_at file.marks level).visible else (marks_at file.marks level).shadow

-- a place of one of the runs
pub record IsOfRun (file : Tested) (level slot index : ℕ) : Type 0 where
  pub level_in : level < length file.marks
  pub slot_in : slot < 2
  pub within : index < run_len file level slot

-- test `Cell`: a cell is told of each place of the runs
abbrev pub AreCellsTold : Tested → Type 0
AreCellsTold file = (level slot index : ℕ) → IsOfRun file level slot index → IsTold (file.spots level slot index)

-- the lowest cell of the runs that is bad, by its level and its number
pub record IsLowestBad (file : Tested) (level number : ℕ) : Type 0 where
  pub slot : ℕ
  pub index : ℕ
  pub place : IsOfRun file level slot index
  pub bad : file.spots level slot index ≡ Bad
  pub number_is : number ≡ number_of level slot index
  pub lowest : (l s i : ℕ) → IsOfRun file l s i → number_of l s i < number → IsTold (file.spots l s i)

-- level j of levels, and what lies below it
abbrev pub level_at : List FileLevel → ℕ → FileLevel
level_at levels j = slice_index_or levels j empty_level

abbrev pub below_at : List FileLevel → ℕ → List FileLevel
below_at levels j = drop (suc j) levels

-- test `Order`: the run is well formed
abbrev pub IsInOrder : List LawCell → Type 0
IsInOrder run = IsWellFormed key_cmp run

-- the index of the last cell of the shortest prefix of a run that is not well formed
pub record EndsOrder (run : List LawCell) (index : ℕ) : Type 0 where
  pub within : index < length run
  pub before : IsInOrder (take index run)
  pub broken : IsInOrder (take (suc index) run) → ⊥

-- test `Sample`: the lookahead cells of a run are the sample of the first of the runs below it; at the bottom each cell is an
-- old value
abbrev pub HasSample : List LawCell → List (List LawCell) → Type 0
HasSample run [] = AllByRecursion IsOldValue run
HasSample run (next ∷ runs) = look_keys run ≡ sample next

-- at most so many items, and so many of them young
pub record HasFewItems (items young : ℕ) (run : List LawCell) : Type 0 where
  pub few_items : count_items run ≤ items
  pub few_young : count_young run ≤ young

-- test `Length`: a run of level j in a period of this parity has no more items than it may have; at the bottom no more cells
-- than the store is for keys
abbrev pub HasFew : {X : Type 0} → ℕ → Bool → ℕ → List LawCell → List X → Type 0
HasFew most odd j run [] = length run ≤ most
HasFew most odd j run (x ∷ below) = HasFewItems (cond odd 3 2 * 2 ^ j) (2 ^ j) run

-- a shadow whose window is over: a run as it may be visible in the next period, which carries what the run above has and keeps
-- what it must of the level's own run
pub record IsShadowFinished (most : ℕ) (odd : Bool) (j : ℕ) (above : List LawCell) (level : FileLevel) (below : List FileLevel)
    (next : List (List LawCell)) : Type 0 where
  pub fit : IsVisible key_cmp most (not odd) j level.shadow below (chain.first_keys next)
  pub carried : (q : List ℕ) → Carried (chain.part_of odd below) (seen key_cmp q above) (seen key_cmp q level.visible) (seen key_cmp q level.shadow)
  pub keeps : KeepsAll odd below ((q : List ℕ) → Keeps (seen key_cmp q level.visible) (seen key_cmp q level.shadow))

-- test `Shadow`: inside its window a level's cursors cut its build after its shadow; once its window is over its shadow is
-- finished
pub record HasShadow (most t j : ℕ) (above : List LawCell) (level : FileLevel) (below : List FileLevel) : Type 0 where
  pub inside : works t j ≡ true →
      IsCut key_cmp (chain.part_of (is_odd (period t j)) below) level.visible above (chain.first_keys (chain.next_runs t j below))
      (drop level.own level.visible) (drop level.incoming above) (drop level.sampled (chain.first_keys (chain.next_runs t j below))) level.shadow
  pub over : is_over t j ≡ true → IsShadowFinished most (is_odd (period t j)) j above level below (chain.next_runs t j below)

-- the pairs of all live keys of a list of runs, by rising keys
abbrev pub live_pairs : List (List LawCell) → List (List ℕ × Stamped)
live_pairs = live key_cmp (λ k. true)

-- test `Live`: the runs from level j down, and its shadow once its window is over with its next runs, have no more live keys
-- than the store is for
pub record HasFewLive (most t j : ℕ) (level : FileLevel) (below : List FileLevel) : Type 0 where
  pub visible : length (live_pairs (chain.visibles (level ∷ below))) ≤ most
  pub over : is_over t j ≡ true → length (live_pairs (level.shadow ∷ chain.next_runs t j below)) ≤ most

-- level j passes one of these tests
module _ (file : Tested) where
  abbrev pub OrderAt : ℕ → Type 0
  OrderAt j = IsInOrder (level_at (levels_in file) j).visible

  abbrev pub SampleAt : ℕ → Type 0
  SampleAt j = HasSample (level_at (levels_in file) j).visible (chain.visibles (below_at (levels_in file) j))

  abbrev pub LengthAt : ℕ → Type 0
  LengthAt j = HasFew file.most (is_odd (period file.clock j)) j (level_at (levels_in file) j).visible (below_at (levels_in file) j)

  -- level 0 has no window: its run is built whole by each mutation
  abbrev pub ShadowAt : ℕ → Type 0
  ShadowAt zero = ⊤
  ShadowAt (suc i) = HasShadow file.most file.clock (suc i) (level_at (levels_in file) i).visible (level_at (levels_in file) (suc i))
      (below_at (levels_in file) (suc i))

  abbrev pub LiveAt : ℕ → Type 0
  LiveAt j = HasFewLive file.most file.clock j (level_at (levels_in file) j) (below_at (levels_in file) j)

  -- test `Count`: the header's count is the number of live keys
  abbrev pub IsCounted : Type 0
  IsCounted = file.count ≡ length (live_pairs (chain.visibles (levels_in file)))

  -- test `Stamp`: no live key has a stamp above the last number
  abbrev pub AreStamped : Type 0
  AreStamped = AllByRecursion (λ pair. pair.1.stamp ≤ file.last) (live_pairs (chain.visibles (levels_in file)))

  -- each level passes a test
  abbrev pub EachLevel : (ℕ → Type 0) → Type 0
  EachLevel passes = (j : ℕ) → j < length file.marks → passes j

  -- level j is the first that fails a test
  pub record IsFirst (passes : ℕ → Type 0) (j : ℕ) : Type 0 where
    pub within : j < length file.marks
    pub fails : passes j → ⊥
    pub before : (i : ℕ) → i < j → passes i

  -- level j is the last that fails a test
  pub record IsLast (passes : ℕ → Type 0) (j : ℕ) : Type 0 where
    pub within : j < length file.marks
    pub fails : passes j → ⊥
    pub behind : (i : ℕ) → j < i → i < length file.marks → passes i

  -- the first cell of the slot of the visible run of a level, and of its shadow, by their numbers
  abbrev pub visible_cell : ℕ → ℕ
  visible_cell j = number_of j (visible_slot file.clock j) 0

  abbrev pub shadow_cell : ℕ → ℕ
  shadow_cell j = number_of j (1 - visible_slot file.clock j) 0
