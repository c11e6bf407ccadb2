-- What a loader has, when it holds rows together with its device, and what its calls answer.
use Rattle.std.specs.Prelude.{◌≡◌, ◌⊎◌, ℕ, zero, suc, ◌+◌, ◌-◌, ◌*◌, ◌/◌, ◌≤◌, ◌<◌, false, List, [], ◌∷◌, ◌++◌, length, take, drop, replicate, Option, Some, None, Result, Ok, Err, IfSome, OnOk, MatchResult, IsTrue, ⊤, if◌then◌else◌, nat_lt, ◌==◌}
use Rattle.std.specs.Ordering.{is_lt}
use Rattle.cola_outside.specs.Faults.{Rose}
use Rattle.cola_outside.specs.Told.{Both}
use Rattle.cola_cell.specs.declared.cell.Cell.{Cell}
use Rattle.cola_cell.specs.declared.cell.Cell.TheVariants.{Item, Look}
use Rattle.cola_cell.specs.declared.cell.Item.TheVariants.{Value}
use Rattle.cola_cell.specs.Decoded.{decoded}
use Rattle.cola_cell.specs.Format.{stamp_limit}
use Rattle.cola_cell.specs.Places.{number_of, slot_size}
use Rattle.cola_device.specs.declared.device.Device as device
use Rattle.cola_device.specs.Bytes.{IsEmpty}
use Rattle.cola_device.specs.Settling.{IsSettled}
use Rattle.cola_front.specs.Front.{FrontCells, cell_at, cell_bytes}
use Rattle.cola_layout.specs.declared.geometry.Geometry.{Geometry}
use Rattle.cola_opening.specs.Counted.{Spends}
use Rattle.cola_run.specs.Cells.{block_cells, block_bytes, device_levels, file_bytes, tail_number, tails_bytes}
use Rattle.cola_run.specs.Saving.{SameFront, SameLevels}
use Rattle.cola_spec.specs.Map.{key_cmp}
use Rattle.cola_shapes.specs.Shapes.{shape_of}
use Rattle.cola_load.specs.declared.fault.LoadFault.{LoadFault}
use Rattle.cola_load.specs.declared.fault.LoadFault.TheVariants.{NotEmpty, OutOfMemory, Device}
use Rattle.cola_load.specs.Filled.{Row, AreRows, run_len, filled_cell, IsFilled}

-- for which store rows are loaded, the last number of its map, how many rows were pushed and the key of the last of them; the
-- cells of the front, and the block that is being filled of each level on the device
pub record Loading : Type 0 where
  pub geometry : Geometry
  pub last : ℕ
  pub rows : ℕ
  pub key : Option (List ℕ)
  pub front : FrontCells
  pub tails : List ℕ

-- what a loader may be, whatever its device tells
pub record IsLoading (loading : Loading) : Type 0 where
  pub few : loading.rows ≤ loading.geometry.keys
  pub last_fits : loading.last ≤ stamp_limit loading.geometry.format
  pub format : loading.front.format ≡ loading.geometry.format
  pub block : loading.front.block ≡ block_cells loading.geometry
  pub tails_many : length loading.tails ≡ tails_bytes loading.geometry

-- the cell at an index of a level whose run has so many cells, where the device has these bytes: in the front, in the block
-- that is being filled, or on the device
abbrev pub standing_cell : Loading → List ℕ → (len level index : ℕ) → Option Cell
standing_cell loading bytes len level index =
    if nat_lt (level + 2) loading.geometry.block_exp then cell_at loading.front (number_of level 0 index)
    else if index / block_cells loading.geometry == len / block_cells loading.geometry
    then decoded loading.geometry.format (cell_bytes loading.geometry.format loading.tails (tail_number loading.geometry level index))
    else decoded loading.geometry.format (cell_bytes loading.geometry.format bytes (number_of level 0 index))

-- how many cells the run so many levels above the bottom has, where the runs of so many levels from the bottom on have those
-- of one row more
abbrev pub len_amid : ℕ → (done height : ℕ) → ℕ
len_amid rows done height = if nat_lt height done then run_len (rows + 1) height else run_len rows height

-- each run has the cells of these rows, as many as its length says
abbrev pub HasCells : Loading → (ℕ → ℕ) → List Row → List ℕ → Type 0
HasCells loading len rows bytes = (height index : ℕ) → height ≤ loading.geometry.bottom → index < len height
    → standing_cell loading bytes (len height) (loading.geometry.bottom - height) index ≡ Some (filled_cell rows height index)

-- the key of the last row
abbrev pub last_key : List Row → Option (List ℕ)
last_key [] = None
last_key (row ∷ []) = Some row.key
last_key (row ∷ next ∷ rows) = last_key (next ∷ rows)

-- the file has no header
abbrev pub IsHeadless : List ℕ → Type 0
IsHeadless bytes = take 512 bytes ≡ replicate 512 0

-- a loader over a device with these bytes holds these rows: their cells are there, and the file has no header
pub record HoldsRows (loading : Loading) (bytes : List ℕ) (rows : List Row) : Type 0 where
  pub are_rows : AreRows (shape_of loading.geometry.format loading.geometry.keys) loading.last rows
  pub many : loading.rows ≡ length rows
  pub key_is : loading.key ≡ last_key rows
  pub size : length bytes ≡ file_bytes loading.geometry
  pub no_header : IsHeadless bytes
  pub cells : HasCells loading (run_len loading.rows) rows bytes

-- a key may be pushed behind this one, if there is one
abbrev pub IsAbove : Option (List ℕ) → List ℕ → Type 0
IsAbove None key = ⊤
IsAbove (Some last) key = IsTrue (is_lt (key_cmp last key))

-- the cell that a row gives the run so many levels above the bottom, at an index of that
abbrev pub row_cell : Row → (height index : ℕ) → Cell
row_cell row zero index = Item row.key (Value row.value row.stamp) false 0
row_cell row (suc height) index = Look row.key (8 * index)

-- how many blocks are full of so many levels from the bottom on
abbrev pub full_below : Geometry → ℕ → ℕ → ℕ
full_below geometry rows zero = 0
full_below geometry rows (suc height) = run_len rows height / block_cells geometry + full_below geometry rows height

-- how many blocks are written once so many rows are pushed: those of the levels on the device that are full
abbrev pub full_blocks : Geometry → ℕ → ℕ
full_blocks geometry rows = full_below geometry rows (device_levels geometry)

-- how many blocks a cell at an index of a level fills
abbrev pub filled_by : Geometry → (level index : ℕ) → ℕ
filled_by geometry level index =
    if nat_lt (level + 2) geometry.block_exp then 0 else (index + 1) / block_cells geometry - index / block_cells geometry

-- all stays but the cells
pub record SameRows (before now : Loading) : Type 0 where
  pub geometry : now.geometry ≡ before.geometry
  pub last : now.last ≡ before.last
  pub rows : now.rows ≡ before.rows
  pub key : now.key ≡ before.key

-- a cell stands behind the run of a level, and all other cells are as before
pub record HasMore (before now : Loading) (level index : ℕ) (cell : Cell) (old new : List ℕ) : Type 0 where
  pub is : standing_cell now new (index + 1) level index ≡ Some cell
  pub same : (i : ℕ) → i < index → standing_cell now new (index + 1) level i
      ≡ standing_cell before old index level i
  pub others : (l i len : ℕ) → l ≤ before.geometry.bottom → ¬ (l ≡ level) → i < slot_size l
      → standing_cell now new len l i ≡ standing_cell before old len l i

-- a cell was put behind the run of a level
abbrev pub Puts : {T E : Type 0} → Result T E → Loading → Loading → (level index : ℕ) → Cell → List ℕ → List ℕ → Type 0
Puts result before now level index cell old new = OnOk result (HasMore before now level index cell old new)

-- the cells of a row were put, where the cells of the rows before it were there
abbrev pub PutsRow : {T E : Type 0} → Result T E → Loading → Loading → Row → List ℕ → List ℕ → Type 0
PutsRow result before now row old new = (rows : List Row) → length rows ≡ before.rows → HasCells before (run_len before.rows) rows old
    → OnOk result (HasCells now (run_len (before.rows + 1)) (rows ++ row ∷ []) new)

-- a write or a layout that may have failed leaves the file as long as it was, and its first two blocks
pub record StaysInFront (geometry : Geometry) (before now : List ℕ) : Type 0 where
  pub size_stays : length now ≡ length before
  pub front_stays : take (2 * block_bytes geometry) now ≡ take (2 * block_bytes geometry) before

-- the cells of the levels from the front on, up to a level, stand on the device, and those from there on as before; so do the
-- first two blocks
pub record HasSaved (loading : Loading) (level : ℕ) (before now : List ℕ) : Type 0 where
  pub stays : StaysInFront loading.geometry before now
  pub saved : (l i : ℕ) → loading.geometry.block_exp ≤ l + 2 → l < level
      → l ≤ loading.geometry.bottom → i < run_len loading.rows (loading.geometry.bottom - l)
      → decoded loading.geometry.format (cell_bytes loading.geometry.format now (number_of l 0 i))
      ≡ standing_cell loading before (run_len loading.rows (loading.geometry.bottom - l)) l i
  pub rest : (l i : ℕ) → loading.geometry.block_exp ≤ l + 2 → level ≤ l
      → l ≤ loading.geometry.bottom → i < slot_size l
      → cell_bytes loading.geometry.format now (number_of l 0 i) ≡ cell_bytes loading.geometry.format before (number_of l 0 i)

module _ {D : Type 0} (d : device.Ghosts D) (geometry : Geometry) (last : ℕ) (before now : D) where
  -- a loader without a row, over a device that was empty and has the file of a store without a header
  pub record HasBegun (loading : Loading) : Type 0 where
    pub was_empty : IsEmpty (d.bytes before)
    pub geometry_is : loading.geometry ≡ geometry
    pub last_is : loading.last ≡ last
    pub no_rows : loading.rows ≡ 0
    pub no_key : loading.key ≡ None
    pub holds : IfSome (d.bytes now) (λ bytes. HoldsRows loading bytes [])
    pub no_fault : (d.counts now).faults ≡ (d.counts before).faults

  -- it stays as it was, and this is why: it was asked for its size alone
  pub record HasRefused (why : List ℕ → Type 0) : Type 0 where
    pub why_is : IfSome (d.bytes before) why
    pub bytes_stay : d.bytes now ≡ d.bytes before
    pub spends : Spends (d.counts before) (d.counts now) 0 0 1
    pub no_fault : (d.counts now).faults ≡ (d.counts before).faults

  -- a layout of an empty device that was refused may leave any bytes, at most so many as the file has
  pub record IsPartlyLaid : Type 0 where
    pub was_empty : IsEmpty (d.bytes before)
    pub at_most : IfSome (d.bytes now) (λ bytes. length bytes ≤ file_bytes geometry)

  -- the device refused to tell its size, and its bytes stay, or it refused to be laid out
  pub record HasFailed : Type 0 where
    pub cause : Rose (d.counts before).faults (d.counts now).faults
    pub left : (d.bytes now ≡ d.bytes before) ⊎ IsPartlyLaid

  -- what the beginning of a load answers
  abbrev pub Begins : Result Loading LoadFault → Type 0
  Begins (Ok loading) = HasBegun loading
  Begins (Err NotEmpty) = HasRefused (λ bytes. 0 < length bytes)
  Begins (Err OutOfMemory) = HasRefused (λ bytes. length bytes ≡ 0)
  Begins (Err Device) = HasFailed

module _ {D : Type 0} (d : device.Ghosts D) (geometry : Geometry) (before now : D) where
  -- the first two blocks waited for the others: the device settled in between, when these two were as before and all behind them
  -- as now
  pub record FrontWaited : Type 0 where
    pub between : D
    pub levels_settled : IsSettled d between
    pub front_waits : Both (d.bytes before) (d.bytes between) (SameFront geometry)
    pub levels_stay : Both (d.bytes between) (d.bytes now) (SameLevels geometry)

  -- they are as before, or they waited
  abbrev pub FrontWaits : {T E : Type 0} → Result T E → Type 0
  FrontWaits result = MatchResult result (λ _. FrontWaited) (λ _. Both (d.bytes before) (d.bytes now) (SameFront geometry) ⊎ FrontWaited)

-- a row was pushed, or may not be: where rows are held before, these and the new one are held after Ok
abbrev pub Pushes : {T E : Type 0} → Result T E → Loading → Loading → Row → List ℕ → List ℕ → Type 0
Pushes result old new row before now = (rows : List Row) → HoldsRows old before rows → OnOk result (HoldsRows new now (rows ++ row ∷ []))

-- behind its first block a file has the bytes of one that is filled with these rows: it lacks nothing but its header
pub record IsFilledBehind (geometry : Geometry) (last : ℕ) (rows : List Row) (bytes : List ℕ) : Type 0 where
  pub whole : List ℕ
  pub filled : IsFilled geometry last rows whole
  pub many : length bytes ≡ length whole
  pub behind : drop (block_bytes geometry) bytes ≡ drop (block_bytes geometry) whole

-- what a file has that was not finished: no header, or all behind the block with the header, which is written last
abbrev pub IsUnfinished : Geometry → ℕ → List Row → List ℕ → Type 0
IsUnfinished geometry last rows bytes = IsHeadless bytes ⊎ IsFilledBehind geometry last rows bytes

-- the file was finished, or was not: where rows are held before, it is filled with them after Ok
abbrev pub Finishes : {T E : Type 0} → Result T E → Loading → List ℕ → List ℕ → Type 0
Finishes result loading before now = (rows : List Row) → HoldsRows loading before rows
    → MatchResult result (λ _. IsFilled loading.geometry loading.last rows now) (λ _. IsUnfinished loading.geometry loading.last rows now)
