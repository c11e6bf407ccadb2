-- What growing a file answers, with the cause of each answer, and what both devices have then.
use Rattle.std.specs.Prelude.{◌≡◌, ◌⊎◌, ℕ, ◌+◌, ◌≤◌, ◌<◌, true, List, [], ◌∷◌, ◌++◌, length, map, Option, None, Result, Ok, Err, IfSome, ⊤, option_map}
use Rattle.cola_cell.specs.Decoded.{decoded}
use Rattle.cola_cell.specs.declared.cell.Run.{Run}
use Rattle.cola_cell.specs.declared.format.Format.{Format}
use Rattle.cola_cell.specs.Held.{LawCell, Spots, Stamped}
use Rattle.cola_cell.specs.Listed.{Stands}
use Rattle.cola_cell.specs.Order.{key_cmp}
use Rattle.cola_cursor.specs.Seeking.{range_ticks}
use Rattle.cola_cursor.specs.Standing.{AreSearched}
use Rattle.cola_device.specs.declared.device.Device as device
use Rattle.cola_device.specs.Bytes.{IsEmpty}
use Rattle.cola_device.specs.Settling.{IsSettled}
use Rattle.cola_layout.specs.Cells.{cell_bytes, file_spots}
use Rattle.cola_image.specs.Standing.{HeaderStandsFor}
use Rattle.cola_layout.specs.declared.geometry.Geometry.{Geometry}
use Rattle.cola_layout.specs.declared.header.Header.{Header}
use Rattle.cola_layout.specs.Fields.{fields_of}
use Rattle.cola_layout.specs.Geometry.{IsBottom, IsBlock}
use Rattle.cola_layout.specs.Header.{Fields}
use Rattle.cola_opening.specs.declared.fault.ClosedFault.{ClosedFault}
use Rattle.cola_opening.specs.declared.fault.ClosedFault.TheVariants as closed
use Rattle.cola_opening.specs.Counted.{Spends}
use Rattle.cola_outside.specs.Faults.{Rose}
use Rattle.cola_opening.specs.Judged.{IsClosedWith, IsSmall, IsNoStore, IsInUse, IsSeen, FailedReading}
use Rattle.cola_pairs.specs.Live.{live, between}
use Rattle.cola_run.specs.Cells.{device_levels}
use Rattle.cola_run.specs.Store.{beside}
use Rattle.cola_spec.specs.Map.{Map, count}
use Rattle.cola_shapes.specs.Shapes.{shape_of}
use Rattle.cola_load.specs.declared.fault.GrowFault.{GrowFault}
use Rattle.cola_load.specs.declared.fault.GrowFault.TheVariants.{Small, NotStore, NotClosed, Fewer, OutOfMemory, BadCell, NotEmpty, Disorder, Device}
use Rattle.cola_load.specs.declared.fault.LoadFault.{LoadFault}
use Rattle.cola_load.specs.declared.fault.LoadFault.TheVariants as load
use Rattle.cola_load.specs.Filled.{Row, AreRows, IsFilled, rows_of, filled_header}
use Rattle.cola_load.specs.Loading.{HasFailed, IsPartlyLaid, IsHeadless, IsUnfinished, last_key}
use Rattle.cola_load.specs.Growing.{AreValuesOf, runs_in, least, pair_of, Breaks, BothCalm, WritesRows}

-- a block suits a store for so many keys
abbrev pub Suits : ℕ → ℕ → Type 0
Suits keys block_exp = (bottom : ℕ) → IsBottom keys bottom → IsBlock block_exp bottom

-- a geometry for so many keys, with such blocks, in a format
pub record IsFor (keys block_exp : ℕ) (format : Format) (geometry : Geometry) : Type 0 where
  pub keys_are : geometry.keys ≡ keys
  pub block_is : geometry.block_exp ≡ block_exp
  pub format_is : geometry.format ≡ format

-- why a header was not found, and why a new file was not begun
abbrev pub refused_as : ClosedFault → GrowFault
refused_as closed.NotStore = NotStore
refused_as closed.Small = Small
refused_as closed.NotClosed = NotClosed
refused_as closed.Device = Device

abbrev pub unbegun_as : LoadFault → GrowFault
unbegun_as load.NotEmpty = NotEmpty
unbegun_as load.OutOfMemory = OutOfMemory
unbegun_as load.Device = Device

-- a closed file whose header has so many keys
abbrev pub HasKeys : ℕ → List ℕ → Type 0
HasKeys count bytes = (header : Fields) × (IsClosedWith header bytes × (header.count ≡ count))

-- a file with this header stands for no map
abbrev pub IsForNone : Header → List ℕ → Type 0
IsForNone header bytes = (m : Map) → ¬ HeaderStandsFor (fields_of header) bytes m

-- these rows stand as values in the visible runs of a file with this header
abbrev pub AreInFile : Header → List Row → List ℕ → Type 0
AreInFile header rows bytes = AreValuesOf (file_spots header.geometry.format bytes) (runs_in header) rows

-- runs are told to be these lists of cells, one by one
abbrev pub AreListed : Spots → List Run → List (List LawCell) → Type 0
AreListed spots [] [] = ⊤
AreListed spots [] (cells ∷ lists) = ⊥
AreListed spots (run ∷ runs) [] = ⊥
AreListed spots (run ∷ runs) (cells ∷ lists) =
    ((run.len ≡ length cells) × Stands (spots run.level run.slot) 0 cells) × AreListed spots runs lists

-- where the visible runs of a file with this header are told, each in order and with the sample of the next, this holds of
-- their live pairs
abbrev pub OfFilePairs : Header → (List (List ℕ × Stamped) → Type 0) → List ℕ → Type 0
OfFilePairs header P bytes = (lists : List (List LawCell)) →
    AreListed (file_spots header.geometry.format bytes) (runs_in header) lists → AreSearched least lists →
    P (live key_cmp (between key_cmp least None) lists)

-- these rows are the live pairs of the visible runs
abbrev pub AreFilePairs : Header → List Row → List ℕ → Type 0
AreFilePairs header rows = OfFilePairs header (λ pairs. pairs ≡ map pair_of rows)

-- these rows are the first of them, and this one is the next
abbrev pub AreFirstPairs : Header → List Row → Row → List ℕ → Type 0
AreFirstPairs header rows row = OfFilePairs header (λ pairs.
    (others : List (List ℕ × Stamped)) × (pairs ≡ map pair_of rows ++ pair_of row ∷ others))

-- the new file was empty, and has no header: beside blocks it was called for its size and its layout alone, and not to settle
pub record IsLeftHeadless {E : Type 0} (e : device.Ghosts E) (to to_now : E) : Type 0 where
  pub was_empty : IsEmpty (e.bytes to)
  pub no_header : IfSome (e.bytes to_now) IsHeadless
  pub few_others : (e.counts to_now).others ≤ (e.counts to).others + 2

-- how many cells of a file with this lowest level are read at most, and how many reads of the device are made for it: those of
-- a load, and one for each tick
abbrev pub grow_ticks : ℕ → ℕ
grow_ticks bottom = range_ticks (bottom + 1)

abbrev pub grow_reads : ℕ → ℕ
grow_reads bottom = (bottom + 3) + grow_ticks bottom

-- The file has a closed header, with no more keys than the new one is for; its bytes are these, where they are told

module _ {E : Type 0} (e : device.Ghosts E) (header : Header) (geometry : Geometry) (told : Option (List ℕ)) (to to_now : E) where
  -- the new file is filled with these rows, so many: those of the map, where the old file stands for one
  pub record IsGrown (rows : List Row) (count : ℕ) : Type 0 where
    pub count_is : count ≡ length rows
    pub was_empty : IsEmpty (e.bytes to)
    pub are_rows : IfSome (e.bytes to_now) (λ bytes.
        AreRows (shape_of geometry.format geometry.keys) header.last rows)
    pub filled : IfSome (e.bytes to_now) (λ bytes. IsFilled geometry header.last rows bytes)
    pub map_is : IfSome told (λ bytes.
        (m : Map) → HeaderStandsFor (fields_of header) bytes m → rows ≡ rows_of m)
    pub given : IfSome told (AreInFile header rows)
    pub pairs_are : IfSome told (AreFilePairs header rows)
    pub settled : IsSettled e to_now

  -- a cell of the file is none, and the new file was not called, or was empty and has no header
  pub record HasBad (number : ℕ) : Type 0 where
    pub bad : IfSome told (λ bytes.
        decoded header.geometry.format (cell_bytes header.geometry.format bytes number) ≡ None)
    pub no_map : IfSome told (IsForNone header)
    pub left : (to_now ≡ to) ⊎ IsLeftHeadless e to to_now

  -- the pair with this number may not come behind the rows before it, and the new file was empty and has no header
  pub record IsDisordered (number : ℕ) : Type 0 where
    pub rows : List Row
    pub row : Row
    pub number_is : number ≡ length rows + 1
    pub breaks : Breaks geometry header.last (length rows) (last_key rows) row
    pub given : IfSome told (AreInFile header (row ∷ rows))
    pub pairs_are : IfSome told (AreFirstPairs header rows row)
    pub no_map : IfSome told (IsForNone header)
    pub left : IsLeftHeadless e to to_now

  -- the new file had a byte, and stays: it was asked for its size alone
  pub record IsOccupied : Type 0 where
    pub was : IfSome (e.bytes to) (λ bytes. 0 < length bytes)
    pub bytes_stay : e.bytes to_now ≡ e.bytes to
    pub spends : Spends (e.counts to) (e.counts to_now) 0 0 1

  -- there was no memory: the new file stays, and was not called, or was empty and asked for its size alone
  pub record HasNoMemory : Type 0 where
    pub bytes_stay : e.bytes to_now ≡ e.bytes to
    pub left : (to_now ≡ to) ⊎ IsEmpty (e.bytes to)
    pub spends : Spends (e.counts to) (e.counts to_now) 0 0 1

  -- the new file has all rows, those of the map where the old file stands for one, but it was not finished: its device refused a
  -- call then
  pub record IsNotFinished (rows : List Row) : Type 0 where
    pub cause : Rose (e.counts to).faults (e.counts to_now).faults
    pub was_empty : IsEmpty (e.bytes to)
    pub left : IfSome (e.bytes to_now) (IsUnfinished geometry header.last rows)
    pub map_is : IfSome told (λ bytes.
        (m : Map) → HeaderStandsFor (fields_of header) bytes m → rows ≡ rows_of m)
    pub given : IfSome told (AreInFile header rows)
    pub pairs_are : IfSome told (AreFilePairs header rows)

  -- the new file was not begun, and nothing was written to it
  pub record IsNotBegun : Type 0 where
    pub failed : HasFailed e geometry header.last to to_now
    pub spends : Spends (e.counts to) (e.counts to_now) 0 0 2

  -- one of the devices refused a call: the new file was not called, was not begun, was empty and has no header, or was not
  -- finished
  pub data HasStopped : Type 0 where
    Uncalled : to_now ≡ to → HasStopped
    NotBegun : IsNotBegun → HasStopped
    Headless : IsLeftHeadless e to to_now → HasStopped
    NotFinished : (rows : List Row) → IsNotFinished rows → HasStopped

  -- what copying the map answered
  abbrev pub Copies : Result ℕ GrowFault → Type 0
  Copies (Ok count) = (rows : List Row) × IsGrown rows count
  Copies (Err OutOfMemory) = HasNoMemory
  Copies (Err (BadCell number)) = HasBad number
  Copies (Err NotEmpty) = IsOccupied
  Copies (Err (Disorder number)) = IsDisordered number
  Copies (Err Device) = HasStopped
  Copies (Err Small) = ⊥
  Copies (Err NotStore) = ⊥
  Copies (Err NotClosed) = ⊥
  Copies (Err (Fewer count)) = ⊥

module _ {D E : Type 0} (d : device.Ghosts D) (e : device.Ghosts E) (from from_now : D) (to to_now : E) (ticks ticks_now : ℕ) where
  -- this was seen of the file, no cell was read, and the new file was not called
  pub record IsRefused (why : List ℕ → Type 0) : Type 0 where
    pub seen : IsSeen d from why 1 1 from_now
    pub untouched : to_now ≡ to
    pub no_ticks : ticks_now ≡ ticks

  -- the device failed before the header was read
  pub record FailedAtHeader : Type 0 where
    pub failed : FailedReading d from from_now
    pub untouched : to_now ≡ to
    pub no_ticks : ticks_now ≡ ticks

  -- the cells of a file with this lowest level were read by so many ticks and reads at most, with its header or without it, and
  -- the file was not written; the new one was written for so many rows, of which an answer gives the number, and not read
  pub record IsSpent (head bottom : ℕ) (geometry : Geometry) (result : Result ℕ GrowFault) : Type 0 where
    pub steps_stay : ticks ≤ ticks_now
    pub few_ticks : ticks_now ≤ ticks + grow_ticks bottom
    pub spends : Spends (d.counts from) (d.counts from_now) (head + grow_reads bottom) 0 head
    pub other_spends : WritesRows geometry (e.counts to) (e.counts to_now)
        (device_levels geometry + 2) 4 result

  -- the file is a closed one with this header, of no more keys than the new one is for, and this is what copying its map answered
  pub record HasCopied (keys block_exp : ℕ) (result : Result ℕ GrowFault) : Type 0 where
    pub header : Header
    pub geometry : Geometry
    pub was : IfSome (d.bytes from) (IsClosedWith (fields_of header))
    pub closed : header.closed ≡ true
    pub few : header.count ≤ keys
    pub is_for : IsFor keys block_exp header.geometry.format geometry
    pub copies : Copies e header geometry (d.bytes from) to to_now result
    pub faults : BothCalm (d.counts from).faults (d.counts from_now).faults
        (e.counts to).faults (e.counts to_now).faults result
    -- of the old file the size, the first two blocks and what lies behind its cells stay
    pub beside_stays : option_map (beside header.geometry) (d.bytes from_now)
        ≡ option_map (beside header.geometry) (d.bytes from)
    pub spent : IsSpent 1 header.geometry.bottom geometry result

  -- what growing answers
  abbrev pub Grows : ℕ → ℕ → Result ℕ GrowFault → Type 0
  Grows keys block_exp (Ok count) = HasCopied keys block_exp (Ok count)
  Grows keys block_exp (Err Small) = IsRefused IsSmall
  Grows keys block_exp (Err NotStore) = IsRefused IsNoStore
  Grows keys block_exp (Err NotClosed) = IsRefused IsInUse
  Grows keys block_exp (Err (Fewer count)) = IsRefused (HasKeys count) × (keys < count)
  Grows keys block_exp (Err OutOfMemory) = HasCopied keys block_exp (Err OutOfMemory)
  Grows keys block_exp (Err (BadCell number)) = HasCopied keys block_exp (Err (BadCell number))
  Grows keys block_exp (Err NotEmpty) = HasCopied keys block_exp (Err NotEmpty)
  Grows keys block_exp (Err (Disorder number)) = HasCopied keys block_exp (Err (Disorder number))
  Grows keys block_exp (Err Device) = FailedAtHeader ⊎ HasCopied keys block_exp (Err Device)

module _ {E : Type 0} (e : device.Ghosts E) (to to_now : E) where
  -- the new file's own device refused to be laid out: it may have any bytes, at most as many as were asked for, and nothing was
  -- written to it
  pub record IsNotLaidOut (geometry : Geometry) (last : ℕ) : Type 0 where
    pub partly : IsPartlyLaid e geometry last to to_now
    pub spends : Spends (e.counts to) (e.counts to_now) 0 0 2

  -- it refused a call behind the last of these rows: the new file has no header, or all behind the block with the header
  pub record IsNotWhole (geometry : Geometry) (last : ℕ) (rows : List Row) : Type 0 where
    pub was_empty : IsEmpty (e.bytes to)
    pub left : IfSome (e.bytes to_now) (IsUnfinished geometry last rows)

  -- where a fault of the new file's own device may leave a header: in the layout, and behind the last row
  pub record MayHaveHeader (keys block_exp : ℕ) (fault : GrowFault) : Type 0 where
    pub fault_is : fault ≡ Device
    pub cause : Rose (e.counts to).faults (e.counts to_now).faults
    pub format : Format
    pub geometry : Geometry
    pub is_for : IsFor keys block_exp format geometry
    pub last : ℕ
    pub left : IsNotLaidOut geometry last ⊎ ((rows : List Row) × IsNotWhole geometry last rows)

-- an answer that is this count, or that there was no memory
abbrev pub IsCountOrFull : ℕ → Result ℕ GrowFault → Type 0
IsCountOrFull expected (Ok count) = count ≡ expected
IsCountOrFull expected (Err OutOfMemory) = Unit {0}
IsCountOrFull expected (Err Small) = ⊥
IsCountOrFull expected (Err NotStore) = ⊥
IsCountOrFull expected (Err NotClosed) = ⊥
IsCountOrFull expected (Err (Fewer count)) = ⊥
IsCountOrFull expected (Err (BadCell number)) = ⊥
IsCountOrFull expected (Err NotEmpty) = ⊥
IsCountOrFull expected (Err (Disorder number)) = ⊥
IsCountOrFull expected (Err Device) = ⊥

-- a file of a store for so many keys, with such blocks, in a format, that is filled with a map
pub record IsFileOf (keys block_exp : ℕ) (format : Format) (m : Map) (bytes : List ℕ) : Type 0 where
  pub geometry : Geometry
  pub is_for : IsFor keys block_exp format geometry
  pub stands : HeaderStandsFor (filled_header geometry m.last (count m)) bytes m
