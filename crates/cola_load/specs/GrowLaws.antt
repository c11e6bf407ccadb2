-- What growing a file answers, said once more in plain terms: what each answer says of both devices.
use Rattle.std.specs.Prelude.{◌≡◌, ◌⊎◌, ℕ, ◌+◌, ◌*◌, ◌^◌, ◌≤◌, ◌<◌, true, List, ◌∷◌, length, take, drop, replicate, Result, Ok, Err, None, IfSome, IfOk}
use Rattle.cola_outside.specs.Faults.{Rose}
use Rattle.cola_outside.specs.Told.{Both}
use Rattle.cola_cell.specs.Decoded.{decoded}
use Rattle.cola_shapes.specs.Shapes.{shape_of}
use Rattle.cola_device.specs.declared.device.Device as device
use Rattle.cola_device.specs.Settling.{IsSettled}
use Rattle.cola_layout.specs.Cells.{cell_bytes}
use Rattle.cola_image.specs.Standing.{HeaderStandsFor}
use Rattle.cola_layout.specs.declared.geometry.Geometry.{Geometry}
use Rattle.cola_layout.specs.declared.header.Header.{Header}
use Rattle.cola_layout.specs.Fields.{fields_of}
use Rattle.cola_layout.specs.Header.{Fields}
use Rattle.cola_opening.specs.Counted.{Spends}
use Rattle.cola_opening.specs.Judged.{IsClosedWith, IsSmall, IsNoStore, IsInUse, IsSeen, FailedReading}
use Rattle.cola_run.specs.Cells.{block_bytes, device_levels, file_bytes}
use Rattle.cola_spec.specs.Map.{Map}
use Rattle.cola_load.specs.declared.fault.GrowFault.{GrowFault}
use Rattle.cola_load.specs.declared.fault.GrowFault.TheVariants.{Small, NotStore, NotClosed, Fewer, OutOfMemory, BadCell, NotEmpty, Disorder, Device}
use Rattle.cola_load.specs.Filled.{Row, AreRows, IsFilled, rows_of}
use Rattle.cola_load.specs.Grow.{AreInFile, AreFilePairs, AreFirstPairs}
use Rattle.cola_load.specs.Growing.{Breaks}
use Rattle.cola_load.specs.Loading.{IsFilledBehind, full_blocks, last_key}

module _ {D E : Type 0} (d : device.Ghosts D) (e : device.Ghosts E) (from from_now : D) (to to_now : E) (ticks ticks_now keys block_exp : ℕ) where
  -- the new file was empty, and its first 512 bytes are zero, where it tells them; beside blocks it was called twice at most
  abbrev pub WasEmpty : Type 0
  WasEmpty = IfSome (e.bytes to) (λ bytes. length bytes ≡ 0)

  abbrev pub IsEmptied : Type 0
  IsEmptied = WasEmpty × (IfSome (e.bytes to_now) (λ bytes. take 512 bytes ≡ replicate 512 0)
      × ((e.counts to_now).others ≤ (e.counts to).others + 2))

  -- it stays, and was called once at most, and neither read nor written
  abbrev pub Stays : Type 0
  Stays = (e.bytes to_now ≡ e.bytes to) × Spends (e.counts to) (e.counts to_now) 0 0 1

  -- neither device met a fault; one of them did
  abbrev pub Calm : Type 0
  Calm = ((d.counts from_now).faults ≡ (d.counts from).faults) × ((e.counts to_now).faults ≡ (e.counts to).faults)

  abbrev pub Fault : Type 0
  Fault = Rose (d.counts from).faults (d.counts from_now).faults ⊎ Rose (e.counts to).faults (e.counts to_now).faults

  -- no cell was read, and the new file was not called
  abbrev pub Untouched : Type 0
  Untouched = (to_now ≡ to) × (ticks_now ≡ ticks)

  -- the old file has this header and was closed, with no more keys than the new one is for, which is in the same format
  abbrev pub IsFound : Header → Geometry → Type 0
  IsFound header geometry = IfSome (d.bytes from) (IsClosedWith (fields_of header)) × ((header.closed ≡ true) × ((header.count ≤ keys)
      × ((geometry.keys ≡ keys) × ((geometry.block_exp ≡ block_exp) × (geometry.format ≡ header.geometry.format)))))

  -- of the old file the size, the first two blocks and the bytes behind its cells stay
  abbrev pub StaysBeside : Header → Type 0
  StaysBeside header = Both (d.bytes from) (d.bytes from_now) (λ old now. (length now ≡ length old)
      × ((take (2 * block_bytes header.geometry) now ≡ take (2 * block_bytes header.geometry) old)
      × (drop (file_bytes header.geometry) now ≡ drop (file_bytes header.geometry) old)))

  -- the most ticks: those of a range over all
  abbrev pub most_ticks : Header → ℕ
  most_ticks header = 9 * (header.geometry.bottom + 1) + 2 ^ (header.geometry.bottom + 1 + 2)

  -- beside, the ticks, the reads and the other calls; and the writes and other calls of the new file, for so many rows
  abbrev pub IsCopiedWithin : Header → Geometry → ℕ → Type 0
  IsCopiedWithin header geometry rows = StaysBeside header × ((ticks ≤ ticks_now) × ((ticks_now ≤ ticks + most_ticks header)
      × (Spends (d.counts from) (d.counts from_now) (1 + ((header.geometry.bottom + 3) + most_ticks header)) 0 1
      × ((rows ≤ keys) × Spends (e.counts to) (e.counts to_now) 0 (full_blocks geometry rows + (device_levels geometry + 2)) 4))))

  -- the old file stands for no map
  abbrev pub HasNoMap : Header → Type 0
  HasNoMap header = IfSome (d.bytes from) (λ bytes. (m : Map) → ¬ HeaderStandsFor (fields_of header) bytes m)

  -- these rows are the pairs of the old file, those of its map where it stands for one
  abbrev pub AreOfFile : Header → List Row → Type 0
  AreOfFile header rows = IfSome (d.bytes from) (λ bytes. (m : Map) → HeaderStandsFor (fields_of header) bytes m → rows ≡ rows_of m)
      × (IfSome (d.bytes from) (AreInFile header rows) × IfSome (d.bytes from) (AreFilePairs header rows))

  -- the new file was empty, has these rows, and settled
  abbrev pub HasRows : Header → Geometry → List Row → Type 0
  HasRows header geometry rows = WasEmpty × (AreOfFile header rows × (IfSome (e.bytes to_now)
      (λ bytes. AreRows (shape_of geometry.format geometry.keys) header.last rows × IsFilled geometry header.last rows bytes) × IsSettled e to_now))

  -- the bytes of the cell with this number spell none
  abbrev pub IsBadCell : Header → ℕ → Type 0
  IsBadCell header number =
      IfSome (d.bytes from) (λ bytes. decoded header.geometry.format (cell_bytes header.geometry.format bytes number) ≡ None)

  -- the pair with this number may not come behind the rows before it
  abbrev pub BreaksOrder : Header → Geometry → ℕ → Type 0
  BreaksOrder header geometry number = (rows : List Row) × ((row : Row) × ((number ≡ length rows + 1)
      × (Breaks geometry header.last (length rows) (last_key rows) row × (IfSome (d.bytes from) (AreInFile header (row ∷ rows))
      × (IfSome (d.bytes from) (AreFirstPairs header rows row) × HasNoMap header)))))

  -- the new file's device refused to be laid out: it has at most the bytes that were asked for, and nothing was written to it
  abbrev pub IsNotLaidOut : Geometry → Type 0
  IsNotLaidOut geometry = IfSome (e.bytes to_now) (λ bytes. length bytes ≤ file_bytes geometry)
      × Spends (e.counts to) (e.counts to_now) 0 0 2

  -- it refused a call behind the last row: the new file has no header, or all behind its first block
  abbrev pub IsNotFinished : Header → Geometry → Type 0
  IsNotFinished header geometry = (rows : List Row) × (AreOfFile header rows × IfSome (e.bytes to_now)
      (λ bytes. (take 512 bytes ≡ replicate 512 0) ⊎ IsFilledBehind geometry header.last rows bytes))

  -- what copying says by its answer
  abbrev pub CopySays : Header → Geometry → Result ℕ GrowFault → Type 0
  CopySays header geometry (Ok count) = Calm × ((rows : List Row) × ((count ≡ length rows) × HasRows header geometry rows))
  CopySays header geometry (Err OutOfMemory) = Calm × (Stays × ((to_now ≡ to) ⊎ WasEmpty))
  CopySays header geometry (Err NotEmpty) = Calm × (Stays × IfSome (e.bytes to) (λ bytes. 0 < length bytes))
  CopySays header geometry (Err (BadCell number)) = Calm × (((to_now ≡ to) ⊎ IsEmptied) × (IsBadCell header number × HasNoMap header))
  CopySays header geometry (Err (Disorder number)) = Calm × (IsEmptied × BreaksOrder header geometry number)
  CopySays header geometry (Err Device) = Fault × ((e.bytes to_now ≡ e.bytes to) ⊎ (IsEmptied
      ⊎ (Rose (e.counts to).faults (e.counts to_now).faults × (WasEmpty × (IsNotLaidOut geometry ⊎ IsNotFinished header geometry)))))
  CopySays header geometry (Err Small) = ⊥
  CopySays header geometry (Err NotStore) = ⊥
  CopySays header geometry (Err NotClosed) = ⊥
  CopySays header geometry (Err (Fewer count)) = ⊥

  -- the old file was found and copied, or was not, with this answer; an answer with a count wrote for so many rows
  abbrev pub Copied : Result ℕ GrowFault → Type 0
  Copied result = (header : Header) × ((geometry : Geometry) × ((rows : ℕ) × (IsFound header geometry
      × (IsCopiedWithin header geometry rows × (IfOk result (λ count. count ≡ rows) × CopySays header geometry result)))))

  -- it was refused for this reason
  abbrev pub IsRefused : (List ℕ → Type 0) → Type 0
  IsRefused why = IsSeen d from why 1 1 from_now × Untouched

  -- a closed file has so many keys
  abbrev pub HasMany : ℕ → List ℕ → Type 0
  HasMany count bytes = (header : Fields) × (IsClosedWith header bytes × (header.count ≡ count))

  -- what growing says by its answer
  abbrev pub GrowSays : Result ℕ GrowFault → Type 0
  GrowSays (Ok count) = Copied (Ok count)
  GrowSays (Err Small) = IsRefused IsSmall
  GrowSays (Err NotStore) = IsRefused IsNoStore
  GrowSays (Err NotClosed) = IsRefused IsInUse
  GrowSays (Err (Fewer count)) = (keys < count) × IsRefused (HasMany count)
  GrowSays (Err OutOfMemory) = Copied (Err OutOfMemory)
  GrowSays (Err (BadCell number)) = Copied (Err (BadCell number))
  GrowSays (Err NotEmpty) = Copied (Err NotEmpty)
  GrowSays (Err (Disorder number)) = Copied (Err (Disorder number))
  GrowSays (Err Device) = (FailedReading d from from_now × Untouched) ⊎ Copied (Err Device)
