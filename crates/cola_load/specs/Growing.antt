-- How far a new file is filled with the pairs of a walk, and what one more pair and all of them leave.
use Rattle.std.specs.Prelude.{◌≡◌, ◌⊎◌, ℕ, suc, ◌+◌, ◌-◌, ◌≤◌, ◌<◌, Bool, List, [], ◌∷◌, ◌++◌, length, map, Option, Some, None, Result, Ok, Err, IfSome, IfOk}
use Rattle.std.specs.List.{AllByRecursion}
use Rattle.cola_outside.specs.Faults.{Rose}
use Rattle.cola_cell.specs.declared.cell.Run.{Run}
use Rattle.cola_cell.specs.declared.fault.ReadFault.{ReadFault}
use Rattle.cola_cell.specs.declared.fault.ReadFault.TheVariants as read
use Rattle.cola_cell.specs.declared.format.Format.{Format}
use Rattle.cola_cell.specs.Format.{KeyFits, ValueFits}
use Rattle.cola_abstract.specs.Cell as laws
use Rattle.cola_cell.specs.Held.{Held, Spots, LawCell, Stamped, Told, Tells}
use Rattle.cola_cell.specs.Order.{key_cmp}
use Rattle.cola_clock.specs.Clock.{visible_slot}
use Rattle.cola_clock.specs.Marks.{Marks}
use Rattle.cola_cursor.specs.declared.cursor.Cursor.{Cursor}
use Rattle.cola_cursor.specs.Seeking.{HasBadRun}
use Rattle.cola_cursor.specs.Standing.{Ahead, AreSearched, runs_of}
use Rattle.cola_device.specs.declared.counts.Counts.{Counts}
use Rattle.cola_layout.specs.declared.geometry.Geometry.{Geometry}
use Rattle.cola_layout.specs.declared.header.Header.{Header}
use Rattle.cola_layout.specs.Marks.{all_numbers}
use Rattle.cola_look.specs.Runs.{AreRuns}
use Rattle.cola_opening.specs.Counted.{Spends}
use Rattle.cola_pairs.specs.Live.{live, between}
use Rattle.cola_shapes.specs.Shapes.{shape_of}
use Rattle.cola_load.specs.declared.fault.GrowFault.{GrowFault}
use Rattle.cola_load.specs.declared.fault.GrowFault.TheVariants.{Small, NotStore, NotClosed, Fewer, OutOfMemory, BadCell, NotEmpty, Disorder, Device}
use Rattle.cola_load.specs.declared.growing.Filling.{Filling}
use Rattle.cola_load.specs.Filled.{Row, AreRows, IsFilled}
use Rattle.cola_load.specs.Loading.{Loading, HoldsRows, IsHeadless, IsUnfinished, IsAbove, last_key, full_blocks}

-- ---- the runs that are walked

-- the visible runs of the levels from j on, with these marks at clock t
abbrev pub visible_runs : ℕ → ℕ → List Marks → List Run
visible_runs t j [] = []
visible_runs t j (m ∷ ms) = record { level = j; slot = visible_slot t j; len = m.visible } ∷ visible_runs t (suc j) ms

-- those of a header, from level 0 on
abbrev pub runs_in : Header → List Run
runs_in header = visible_runs header.clock 0 (all_numbers header.levels.items)

-- the least key
abbrev pub least : List ℕ
least = 0 ∷ []

-- ---- one more pair

-- a row as a walk gives it
abbrev pub pair_of : Row → List ℕ × Stamped
pair_of row = (row.key, record { value = row.value; stamp = row.stamp })

-- a row stands as a value in a run, where its place is told
pub record IsValueIn (spots : Spots) (run : Run) (row : Row) : Type 0 where
  pub index : ℕ
  pub within : index < run.len
  pub young : Bool
  pub link : ℕ
  pub told : Tells (spots run.level run.slot index)
      (Told (laws.Entry row.key (laws.Value (pair_of row).1) young link))

-- and in one of the runs
abbrev pub IsValueOf : Spots → List Run → Row → Type 0
IsValueOf spots [] row = ⊥
IsValueOf spots (run ∷ runs) row = IsValueIn spots run row ⊎ IsValueOf spots runs row

-- the same of each of these rows
abbrev pub AreValuesOf : Spots → List Run → List Row → Type 0
AreValuesOf spots runs = AllByRecursion (IsValueOf spots runs)

-- the key and the value of a row fit a format
abbrev pub RowFits : Format → Row → Type 0
RowFits format row = KeyFits format row.key × ValueFits format row.value

-- why a row may not be pushed behind so many, of which the last has this key
abbrev pub Breaks : Geometry → ℕ → ℕ → Option (List ℕ) → Row → Type 0
Breaks geometry last rows key row =
    (IsAbove key row.key → ⊥) ⊎ ((rows ≡ geometry.keys) ⊎ ((last < row.stamp) ⊎ (RowFits geometry.format row → ⊥)))

-- a row may be pushed next
pub record Admits (filling : Filling) (row : Row) : Type 0 where
  pub room : filling.rows < filling.geometry.keys
  pub key_fits : KeyFits filling.geometry.format row.key
  pub value_fits : ValueFits filling.geometry.format row.value
  pub stamp_in : row.stamp ≤ filling.last
  pub above : IsAbove filling.key row.key

-- what a loader has is what it was filled with
pub record IsFillingOf (filling : Filling) (loading : Loading) : Type 0 where
  pub geometry_is : loading.geometry ≡ filling.geometry
  pub last_is : loading.last ≡ filling.last
  pub rows_are : loading.rows ≡ filling.rows
  pub key_is : loading.key ≡ filling.key

-- why a cell was not read
abbrev pub unread_as : ReadFault → GrowFault
unread_as (read.BadCell number) = BadCell number
unread_as read.Device = Device

module _ (held : Held) (begun : Cursor) where
  -- of the pairs that were ahead where a walk began, these rows are the first, and the others are ahead now
  abbrev pub Gave : Cursor → List Row → Type 0
  Gave cursor rows =
      (pairs : List (List ℕ × Stamped)) → Ahead held begun pairs →
      (others : List (List ℕ × Stamped)) × ((pairs ≡ map pair_of rows ++ others) × Ahead held cursor others)

  -- these rows are all pairs that were ahead
  abbrev pub GaveAll : List Row → Type 0
  GaveAll rows = (pairs : List (List ℕ × Stamped)) → Ahead held begun pairs → pairs ≡ map pair_of rows

  -- behind these rows comes one more
  abbrev pub GaveThen : List Row → Row → Type 0
  GaveThen rows row =
      (pairs : List (List ℕ × Stamped)) → Ahead held begun pairs →
      (others : List (List ℕ × Stamped)) × (pairs ≡ map pair_of rows ++ pair_of row ∷ others)

  -- these rows were given by a walk and pushed
  pub record IsCopied (cursor : Cursor) (loading : Loading) (told : Option (List ℕ)) (rows : List Row) : Type 0 where
    pub runs_are : runs_of cursor.lines.items ≡ runs_of begun.lines.items
    pub gave : Gave cursor rows
    pub many : loading.rows ≡ length rows
    pub key_is : loading.key ≡ last_key rows
    pub holds : IfSome told (λ bytes. HoldsRows loading bytes rows)
    pub given : AreValuesOf held.spots (runs_of begun.lines.items) rows

  -- the next pair may not be pushed behind these rows
  pub record IsStopped (geometry : Geometry) (last : ℕ) (told : Option (List ℕ)) (rows : List Row) (number : ℕ) : Type 0 where
    pub row : Row
    pub number_is : number ≡ length rows + 1
    pub breaks : Breaks geometry last (length rows) (last_key rows) row
    pub gave : GaveThen rows row
    pub given : AreValuesOf held.spots (runs_of begun.lines.items) (row ∷ rows)
    pub headless : IfSome told IsHeadless

  -- what copying the next pair behind these rows answered
  abbrev pub CopiesNext : Geometry → ℕ → List Row → Cursor → Loading → Option (List ℕ) → Result (Option Filling) GrowFault → Type 0
  CopiesNext geometry last rows cursor loading told (Ok None) = IsCopied cursor loading told rows × GaveAll rows
  CopiesNext geometry last rows cursor loading told (Ok (Some next)) =
      IsFillingOf next loading × ((row : Row) × IsCopied cursor loading told (rows ++ row ∷ []))
  CopiesNext geometry last rows cursor loading told (Err (BadCell number)) =
      HasBadRun held number (runs_of begun.lines.items) × IfSome told IsHeadless
  CopiesNext geometry last rows cursor loading told (Err (Disorder number)) = IsStopped geometry last told rows number
  CopiesNext geometry last rows cursor loading told (Err Device) = IfSome told IsHeadless
  CopiesNext geometry last rows cursor loading told (Err Small) = ⊥
  CopiesNext geometry last rows cursor loading told (Err NotStore) = ⊥
  CopiesNext geometry last rows cursor loading told (Err NotClosed) = ⊥
  CopiesNext geometry last rows cursor loading told (Err (Fewer count)) = ⊥
  CopiesNext geometry last rows cursor loading told (Err OutOfMemory) = ⊥
  CopiesNext geometry last rows cursor loading told (Err NotEmpty) = ⊥

  -- what copying all pairs answered
  abbrev pub CopiesAll : Geometry → ℕ → Cursor → Loading → Option (List ℕ) → Result ℕ GrowFault → Type 0
  CopiesAll geometry last cursor loading told (Ok count) = (rows : List Row) × ((count ≡ length rows) × (IsCopied cursor loading told rows × GaveAll rows))
  CopiesAll geometry last cursor loading told (Err (BadCell number)) = HasBadRun held number (runs_of begun.lines.items) × IfSome told IsHeadless
  CopiesAll geometry last cursor loading told (Err (Disorder number)) = (rows : List Row) × IsStopped geometry last told rows number
  CopiesAll geometry last cursor loading told (Err Device) = IfSome told IsHeadless
  CopiesAll geometry last cursor loading told (Err Small) = ⊥
  CopiesAll geometry last cursor loading told (Err NotStore) = ⊥
  CopiesAll geometry last cursor loading told (Err NotClosed) = ⊥
  CopiesAll geometry last cursor loading told (Err (Fewer count)) = ⊥
  CopiesAll geometry last cursor loading told (Err OutOfMemory) = ⊥
  CopiesAll geometry last cursor loading told (Err NotEmpty) = ⊥

-- the counts of faults of two devices by an answer: one rose where it is the device's fault, else both stay
abbrev pub BothCalm : {T : Type 0} → (before now other_before other_now : ℕ) → Result T GrowFault → Type 0
BothCalm before now other_before other_now (Err Device) = Rose before now ⊎ Rose other_before other_now
BothCalm before now other_before other_now (Ok answer) = (now ≡ before) × (other_now ≡ other_before)
BothCalm before now other_before other_now (Err Small) = (now ≡ before) × (other_now ≡ other_before)
BothCalm before now other_before other_now (Err NotStore) = (now ≡ before) × (other_now ≡ other_before)
BothCalm before now other_before other_now (Err NotClosed) = (now ≡ before) × (other_now ≡ other_before)
BothCalm before now other_before other_now (Err (Fewer count)) = (now ≡ before) × (other_now ≡ other_before)
BothCalm before now other_before other_now (Err OutOfMemory) = (now ≡ before) × (other_now ≡ other_before)
BothCalm before now other_before other_now (Err (BadCell number)) = (now ≡ before) × (other_now ≡ other_before)
BothCalm before now other_before other_now (Err NotEmpty) = (now ≡ before) × (other_now ≡ other_before)
BothCalm before now other_before other_now (Err (Disorder number)) = (now ≡ before) × (other_now ≡ other_before)

-- a file was written for one row more
abbrev pub WritesOne : Filling → Counts → Counts → Type 0
WritesOne filling before now =
    (filling.rows < filling.geometry.keys)
    × Spends before now 0 (full_blocks filling.geometry (filling.rows + 1) - full_blocks filling.geometry filling.rows) 0

-- and by an answer: where no pair came it was not called
abbrev pub WritesNext : Filling → Counts → Counts → Result (Option Filling) GrowFault → Type 0
WritesNext filling before now (Ok None) = now ≡ before
WritesNext filling before now (Ok (Some next)) = WritesOne filling before now
WritesNext filling before now (Err fault) = (now ≡ before) ⊎ WritesOne filling before now

-- a file was written for so many rows, of which an answer gives the number, with so many more writes and others, and not read
pub record WritesRows (geometry : Geometry) (before now : Counts) (more others : ℕ) (result : Result ℕ GrowFault) : Type 0 where
  pub rows : ℕ
  pub few : rows ≤ geometry.keys
  pub rows_are : IfOk result (λ count. count ≡ rows)
  pub spends : Spends before now 0 (full_blocks geometry rows + more) others

-- a file has no header yet, and was called for blocks alone
pub record IsBegun (before now : Counts) (told : Option (List ℕ)) : Type 0 where
  pub headless : IfSome told IsHeadless
  pub no_others : now.others ≤ before.others

-- ---- all pairs of runs

module _ (held : Held) (runs : List Run) where
  -- where the runs are told as a search wants them, this holds of their live pairs from the least key on
  abbrev pub OfPairs : (List (List ℕ × Stamped) → Type 0) → Type 0
  OfPairs P = (lists : List (List LawCell)) → AreRuns held runs lists → AreSearched least lists → P (live key_cmp (between key_cmp least None) lists)

  -- the file is filled with these rows, which are the pairs of the runs
  pub record IsWalked (geometry : Geometry) (last : ℕ) (told : Option (List ℕ)) (rows : List Row) (count : ℕ) : Type 0 where
    pub count_is : count ≡ length rows
    pub are_rows : IfSome told (λ bytes. AreRows (shape_of geometry.format geometry.keys) last rows)
    pub filled : IfSome told (λ bytes. IsFilled geometry last rows bytes)
    pub pairs_are : OfPairs (λ pairs. pairs ≡ map pair_of rows)
    pub given : AreValuesOf held.spots runs rows

  -- the pair behind these rows may not be pushed
  pub record IsBroken (geometry : Geometry) (last : ℕ) (before now : Counts) (told : Option (List ℕ)) (rows : List Row) (number : ℕ) : Type 0 where
    pub row : Row
    pub number_is : number ≡ length rows + 1
    pub breaks : Breaks geometry last (length rows) (last_key rows) row
    pub pairs_are : OfPairs (λ pairs. (others : List (List ℕ × Stamped)) ×
        (pairs ≡ map pair_of rows ++ pair_of row ∷ others))
    pub given : AreValuesOf held.spots runs (row ∷ rows)
    pub begun : IsBegun before now told

  -- all pairs of the runs were pushed, but the file was not finished: its device refused a call
  pub record IsNotFinished (geometry : Geometry) (last faults faults_now : ℕ) (told : Option (List ℕ)) (rows : List Row) : Type 0 where
    pub cause : Rose faults faults_now
    pub left : IfSome told (IsUnfinished geometry last rows)
    pub pairs_are : OfPairs (λ pairs. pairs ≡ map pair_of rows)
    pub given : AreValuesOf held.spots runs rows

  -- what a walk over the runs answered, that filled a file for this geometry and last number; counts are of its device
  abbrev pub Walks : Geometry → ℕ → (before now : Counts) → Option (List ℕ) → Result ℕ GrowFault → Type 0
  Walks geometry last before now told (Ok count) = (rows : List Row) × IsWalked geometry last told rows count
  Walks geometry last before now told (Err (BadCell number)) = HasBadRun held number runs × IsBegun before now told
  Walks geometry last before now told (Err (Disorder number)) = (rows : List Row) × IsBroken geometry last before now told rows number
  Walks geometry last before now told (Err Device) =
      IsBegun before now told ⊎ ((rows : List Row) × IsNotFinished geometry last before.faults now.faults told rows)
  Walks geometry last before now told (Err Small) = ⊥
  Walks geometry last before now told (Err NotStore) = ⊥
  Walks geometry last before now told (Err NotClosed) = ⊥
  Walks geometry last before now told (Err (Fewer count)) = ⊥
  Walks geometry last before now told (Err OutOfMemory) = ⊥
  Walks geometry last before now told (Err NotEmpty) = ⊥
