-- How a load ends: its line, its status, what it read, and what it leaves.
use Rattle.std.specs.Prelude.{◌≡◌, ℕ, ◌+◌, ◌*◌, ◌/◌, ◌≤◌, false, List, [], ◌∷◌, ◌++◌, map, length, codes, decimal, Option, Some, None, Err, IfSome, IsSomeAnd}
use Rattle.cola_outside.specs.Faults.{Rose}
use Rattle.cola_cell.specs.declared.format.Format.{Format}
use Rattle.cola_device.specs.declared.device.Device as device
use Rattle.cola_device.specs.Bytes.{IsEmpty}
use Rattle.cola_device.specs.Settling.{IsSettled}
use Rattle.cola_io.specs.declared.source.Source as source
use Rattle.cola_io.specs.declared.sink.Sink as sink
use Rattle.cola_io.specs.Reads.{Read, was_refused}
use Rattle.cola_image.specs.Standing.{HeaderStandsFor}
use Rattle.cola_layout.specs.declared.geometry.Geometry.{Geometry}
use Rattle.cola_load.specs.declared.answer.Word.{Word}
use Rattle.cola_load.specs.declared.answer.Word.TheVariants.{Bad, Order, Full}
use Rattle.cola_load.specs.declared.fault.LoadFault.{LoadFault}
use Rattle.cola_load.specs.declared.fault.LoadFault.TheVariants.{NotEmpty, OutOfMemory, Device}
use Rattle.cola_load.specs.Filled.{Row, AreRows, IsFilled, filled_header, map_of}
use Rattle.cola_load.specs.Grow.{IsFor}
use Rattle.cola_load.specs.Loading.{Begins, IsHeadless, IsUnfinished, full_blocks}
use Rattle.cola_load.specs.Rows.{word_of, rows_of}
use Rattle.cola_opening.specs.Counted.{Spends}
use Rattle.cola_report.specs.Line.{LineEnds}
use Rattle.cola_run.specs.Cells.{block_cells}
use Rattle.cola_session.specs.Ends.{ReadToEnd, SourceFailed, Spent, NothingFails}
use Rattle.cola_session.specs.Reading.{ReadFor, AreFirstLines}
use Rattle.cola_spec.specs.Lines.{Line}
use Rattle.cola_spec.specs.Map.{Shape}
use Rattle.cola_spec.specs.Reply.{line}
use Rattle.cola_shapes.specs.Shapes.{shape_of}

-- the line of so many rows that were loaded
abbrev pub loaded_line : ℕ → List ℕ
loaded_line rows = line (codes "loaded " ++ decimal rows)

-- the line of a word
abbrev pub word_line : Word → List ℕ
word_line (Bad number) = line (codes "bad " ++ decimal number)
word_line (Order number) = line (codes "order " ++ decimal number)
word_line (Full number) = line (codes "full " ++ decimal number)

-- the status of a load that did not begin
abbrev pub load_status : LoadFault → ℕ
load_status NotEmpty = 8
load_status OutOfMemory = 1
load_status Device = 5

-- rows as they are loaded: with stamp 0
abbrev pub unstamped : List (List ℕ × List ℕ) → List Row
unstamped rows = map (λ row. record { key = row.0; value = row.1; stamp = 0 }) rows

-- the rows of lines as they are loaded
abbrev pub loaded_rows : Shape → List Line → List Row
loaded_rows shape lines = unstamped (rows_of shape lines)

-- a file is filled with rows that its store may be filled with
pub record IsFilledWith (geometry : Geometry) (last : ℕ) (rows : List Row) (bytes : List ℕ) : Type 0 where
  pub are_rows : AreRows (shape_of geometry.format geometry.keys) last rows
  pub filled : IsFilled geometry last rows bytes

-- no line has a word
abbrev pub HaveNoWord : Shape → List Line → Type 0
HaveNoWord shape lines = word_of shape lines ≡ None

-- where bytes are told, the first 512 are zero: the file has no header
abbrev pub HasNoHeader : Option (List ℕ) → Type 0
HasNoHeader told = IfSome told IsHeadless

-- the most writes of a file with so many rows
abbrev pub most_writes : Geometry → ℕ → ℕ
most_writes geometry rows = 8 * rows / (7 * block_cells geometry) + (geometry.bottom + 1) + 3

module _ {S K D : Type 0} (g : source.Ghosts S) (h : sink.Ghosts K) (d : device.Ghosts D) (shape : Shape) (source source' : S) (sink sink' : K) (device device' : D) where
  -- a line had a word, which no line before it had; its line was written, and the source was not read again
  pub record StoppedAtLine (status : ℕ) : Type 0 where
    pub reads : List Read
    pub before : List Line
    pub last : Line
    pub first : AreFirstLines (before ++ last ∷ []) reads
    pub read : ReadFor g (before ++ last ∷ []) source reads source'
    pub unrefused : was_refused reads ≡ false
    pub no_word : HaveNoWord shape before
    pub word : Word
    pub word_is : word_of shape (before ++ last ∷ []) ≡ Some word
    pub wrote : LineEnds h (word_line word) 14 sink sink' status
    pub source_faults : g.faults source' ≡ g.faults source
    pub no_fault : (d.counts device').faults ≡ (d.counts device).faults
    pub no_header : HasNoHeader (d.bytes device')

  -- the device refused to write a block of rows, and the source was not read again
  pub record FailedAtLine : Type 0 where
    pub reads : List Read
    pub lines : List Line
    pub first : AreFirstLines lines reads
    pub read : ReadFor g lines source reads source'
    pub unrefused : was_refused reads ≡ false
    pub no_word : HaveNoWord shape lines
    pub source_faults : g.faults source' ≡ g.faults source
    pub sink_stays : sink' ≡ sink
    pub cause : Rose (d.counts device).faults (d.counts device').faults
    pub no_header : HasNoHeader (d.bytes device')

  -- the source gave no more: nothing was written to the sink, the device refused no call, and its file has no header
  pub record SourceStopped : Type 0 where
    pub sink_stays : sink' ≡ sink
    pub no_fault : (d.counts device').faults ≡ (d.counts device).faults
    pub no_header : HasNoHeader (d.bytes device')

  -- how the lines end before the end of the source, by the status
  pub data StopsBefore (status : ℕ) : Type 0 where
    Status3 : status ≡ 3 → SourceFailed g h source source' sink sink' (HaveNoWord shape) → SourceStopped → StopsBefore status
    Status5 : status ≡ 5 → FailedAtLine → StopsBefore status
    Status9 : status ≡ 9 → Spent g h source source' sink sink' (HaveNoWord shape) → SourceStopped → StopsBefore status
    AtWord : StoppedAtLine status → StopsBefore status

module _ {S K D : Type 0} (g : source.Ghosts S) (h : sink.Ghosts K) (d : device.Ghosts D) (geometry : Geometry) (source source' : S) (sink sink' : K) (device device' : D) where
  -- the source was read to its end, none of its lines has a word, and these are their rows
  abbrev pub ReadRows : List Row → Type 0
  ReadRows rows = ReadToEnd g h source source' sink sink (λ lines. HaveNoWord (shape_of geometry.format geometry.keys) lines
      × (rows ≡ loaded_rows (shape_of geometry.format geometry.keys) lines))

  -- all lines were read, none has a word, the file is filled with their rows, and their number was written
  pub record WasLoaded (status : ℕ) : Type 0 where
    pub was_empty : IsEmpty (d.bytes device)
    pub rows : List Row
    pub read : ReadRows rows
    pub filled : IfSome (d.bytes device') (IsFilledWith geometry 0 rows)
    pub settled : IsSettled d device'
    pub few_writes : (d.counts device').writes ≤ (d.counts device).writes + most_writes geometry (length rows)
    pub no_fault : (d.counts device').faults ≡ (d.counts device).faults
    pub wrote : LineEnds h (loaded_line (length rows)) 0 sink sink' status

  -- all lines were read, none has a word, and their rows were pushed, but the device refused a call behind the last of them: the
  -- file has no header, or all behind the block with the header
  pub record FailedAtEnd : Type 0 where
    pub was_empty : IsEmpty (d.bytes device)
    pub rows : List Row
    pub read : ReadRows rows
    pub left : IfSome (d.bytes device') (IsUnfinished geometry 0 rows)
    pub sink_stays : sink' ≡ sink
    pub cause : Rose (d.counts device).faults (d.counts device').faults

  -- it did not begin, for this reason, and nothing was read or written: the device was asked for its size and to be laid out
  pub record HasNotBegun (fault : LoadFault) : Type 0 where
    pub why : Begins d geometry 0 device device' (Err fault)
    pub spends : Spends (d.counts device) (d.counts device') 0 0 2
    pub source_stays : source' ≡ source
    pub sink_stays : sink' ≡ sink

  -- it began over an empty device, which met no fault until it was the one in between, and stopped at its lines: beside blocks
  -- of rows the device was called for its size and its layout alone, and not to settle
  pub record HasStopped (status : ℕ) : Type 0 where
    pub was_empty : IsEmpty (d.bytes device)
    pub between : D
    pub begun : (d.counts between).faults ≡ (d.counts device).faults
    pub stops : StopsBefore g h d (shape_of geometry.format geometry.keys) source source' sink sink' between device' status
    pub spends : Spends (d.counts device) (d.counts device') 0 (full_blocks geometry geometry.keys) 2

  -- how a load ends, by the status
  pub data LoadEndsBy (status : ℕ) : Type 0 where
    NotBegun : (fault : LoadFault) → status ≡ load_status fault → HasNotBegun fault → LoadEndsBy status
    Stopped : HasStopped status → LoadEndsBy status
    AtEnd : status ≡ 5 → FailedAtEnd → LoadEndsBy status
    Loaded : WasLoaded status → LoadEndsBy status

-- the same in a store for so many keys, with such blocks, in a format; however it ends, the device is not read, is written at most
-- as for a file with a row for each key, and is called beside at most four times
pub record LoadEnds {S K D : Type 0} (g : source.Ghosts S) (h : sink.Ghosts K) (d : device.Ghosts D) (keys block_exp : ℕ) (format : Format) (source source' : S) (sink sink' : K) (device device' : D) (status : ℕ) : Type 0 where
  pub geometry : Geometry
  pub is : IsFor keys block_exp format geometry
  pub ends : LoadEndsBy g h d geometry source source' sink sink' device device' status
  pub spends : Spends (d.counts device) (d.counts device') 0 (most_writes geometry geometry.keys) 4

-- a file is that of a store for so many keys, with such blocks, in a format, and stands for the map of the rows of these lines, of which none has a word
pub record StandsForLines (keys block_exp : ℕ) (format : Format) (bytes : List ℕ) (lines : List Line) : Type 0 where
  pub no_word : HaveNoWord (shape_of format keys) lines
  pub geometry : Geometry
  pub is : IsFor keys block_exp format geometry
  pub stands : HeaderStandsFor (filled_header geometry 0 (length (rows_of (shape_of format keys) lines))) bytes (map_of 0 (loaded_rows (shape_of format keys) lines))

-- a load that nothing keeps from its end: the device was empty, no line that was read has a word, fewer bytes were read than may be, and nothing failed
pub record CanBeLoaded {S K D : Type 0} (g : source.Ghosts S) (h : sink.Ghosts K) (d : device.Ghosts D) (shape : Shape) (source source' : S) (sink sink' : K) (device device' : D) : Type 0 where
  pub was_empty : IsSomeAnd (d.bytes device) (λ bytes. length bytes ≡ 0)
  pub no_word : (lines : List Line) (reads : List Read) → ReadFor g lines source reads source' → AreFirstLines lines reads → HaveNoWord shape lines
  pub nothing_fails : NothingFails g h source source' sink sink'
  pub device_answers : Rose (d.counts device).faults (d.counts device').faults → ⊥
