-- How a load ends, said once more in plain terms: by the status, with the text of each line.
use Rattle.std.specs.Prelude.{◌≡◌, ◌⊎◌, ℕ, ◌+◌, ◌*◌, ◌/◌, ◌≤◌, ◌<◌, false, List, [], ◌∷◌, ◌++◌, length, take, replicate, codes, decimal, Some, None, IfSome}
use Rattle.cola_outside.specs.Faults.{Rose}
use Rattle.cola_shapes.specs.Shapes.{shape_of}
use Rattle.cola_device.specs.declared.device.Device as device
use Rattle.cola_device.specs.Settling.{IsSettled}
use Rattle.cola_io.specs.Reads.{Read, was_refused}
use Rattle.cola_io.specs.declared.sink.Sink as sink
use Rattle.cola_io.specs.declared.source.Source as source
use Rattle.cola_layout.specs.declared.geometry.Geometry.{Geometry}
use Rattle.cola_load.specs.declared.answer.Word.{Word}
use Rattle.cola_load.specs.declared.answer.Word.TheVariants.{Bad, Order, Full}
use Rattle.cola_load.specs.Filled.{Row, AreRows, IsFilled}
use Rattle.cola_load.specs.Loading.{IsFilledBehind}
use Rattle.cola_load.specs.Rows.{word_of, rows_of}
use Rattle.cola_opening.specs.Counted.{Spends}
use Rattle.cola_report.specs.Laws.{WroteWhole, WroteSome}
use Rattle.cola_run.specs.Cells.{block_cells, file_bytes}
use Rattle.cola_session.specs.Ends.{ReadToEnd, SourceFailed, Spent}
use Rattle.cola_session.specs.Reading.{ReadFor, AreFirstLines}
use Rattle.cola_spec.specs.Lines.{Line}
use Rattle.cola_spec.specs.Reply.{line}
use Rattle.cola_filling.specs.Loads.{unstamped}

module _ {D : Type 0} (d : device.Ghosts D) (device device' : D) where
  -- the device was empty, where it tells its bytes; it met no fault; it met one; its first 512 bytes are zero, and beside
  -- blocks it was called twice at most
  abbrev pub WasEmpty : Type 0
  WasEmpty = IfSome (d.bytes device) (λ bytes. length bytes ≡ 0)

  abbrev pub MetNoFault : Type 0
  MetNoFault = (d.counts device').faults ≡ (d.counts device).faults

  abbrev pub MetFault : Type 0
  MetFault = Rose (d.counts device).faults (d.counts device').faults

  abbrev pub IsNoStore : Type 0
  IsNoStore = IfSome (d.bytes device') (λ bytes. take 512 bytes ≡ replicate 512 0)
      × ((d.counts device').others ≤ (d.counts device).others + 2)

module _ {S K D : Type 0} (g : source.Ghosts S) (h : sink.Ghosts K) (d : device.Ghosts D) (geometry : Geometry) (source source' : S) (sink sink' : K) (device device' : D) where
  -- no line has a word; the source was read to its end, no line has a word, and these are the rows
  abbrev pub NoWord : List Line → Type 0
  NoWord lines = word_of (shape_of geometry.format geometry.keys) lines ≡ None

  abbrev pub ReadAll : List Row → Type 0
  ReadAll rows = ReadToEnd g h source source' sink sink
      (λ lines. NoWord lines × (rows ≡ unstamped (rows_of (shape_of geometry.format geometry.keys) lines)))

  -- the device was empty, has the file of these rows, settled, was written at most so often, and met no fault
  abbrev pub HasRows : List Row → Type 0
  HasRows rows = WasEmpty d device device'
      × (IfSome (d.bytes device') (λ bytes. AreRows (shape_of geometry.format geometry.keys) 0 rows × IsFilled geometry 0 rows bytes)
      × (IsSettled d device'
      × (((d.counts device').writes ≤ (d.counts device).writes + (8 * length rows / (7 * block_cells geometry) + (geometry.bottom + 1) + 3))
      × MetNoFault d device device')))

  -- this is the word of the first of these lines that has one
  abbrev pub HasWord : List Line → Word → Type 0
  HasWord lines word = word_of (shape_of geometry.format geometry.keys) lines ≡ Some word

  -- the last of these lines has the first word, with this number, and this was written of it
  abbrev pub WroteWord : (List ℕ → Type 0) → List Line → ℕ → Type 0
  WroteWord Wrote lines number =
      (HasWord lines (Bad number) × Wrote (line (codes "bad " ++ decimal number)))
      ⊎ ((HasWord lines (Order number) × Wrote (line (codes "order " ++ decimal number)))
      ⊎ (HasWord lines (Full number) × Wrote (line (codes "full " ++ decimal number))))

  -- a line has a word, which no line before it has; nothing was read behind it
  abbrev pub StopsAtWord : (List ℕ → Type 0) → Type 0
  StopsAtWord Wrote = (reads : List Read) × ((before : List Line) × ((last : Line) × ((number : ℕ)
      × (AreFirstLines (before ++ last ∷ []) reads × (ReadFor g (before ++ last ∷ []) source reads source' × ((was_refused reads ≡ false)
      × ((g.faults source' ≡ g.faults source) × (NoWord before × WroteWord Wrote (before ++ last ∷ []) number))))))))

  -- the device refused a block of rows, and nothing was read behind their lines, of which none has a word
  abbrev pub StopsAtBlock : Type 0
  StopsAtBlock = (reads : List Read) × ((lines : List Line)
      × (AreFirstLines lines reads × (ReadFor g lines source reads source' × ((was_refused reads ≡ false)
      × ((g.faults source' ≡ g.faults source) × NoWord lines)))))

  -- nothing was read of the source or written to the sink; the device was called so often at most, and neither read nor written
  abbrev pub DidNotBegin : ℕ → Type 0
  DidNotBegin calls = (source' ≡ source) × ((sink' ≡ sink) × Spends (d.counts device) (d.counts device') 0 0 calls)

  -- the size was not told, and the bytes stay; or the layout was refused, which left some of its bytes
  abbrev pub IsNotLaidOut : Type 0
  IsNotLaidOut = (d.bytes device' ≡ d.bytes device)
      ⊎ (WasEmpty d device device' × IfSome (d.bytes device') (λ bytes. length bytes ≤ file_bytes geometry))

  -- by the status
  pub data LoadAnswers (status : ℕ) : Type 0 where
    Loaded : status ≡ 0 → (rows : List Row) → ReadAll rows → HasRows rows
        → WroteWhole h sink sink' (line (codes "loaded " ++ decimal (length rows))) → LoadAnswers status
    NoMemory : status ≡ 1 → DidNotBegin 1 → WasEmpty d device device' → d.bytes device' ≡ d.bytes device
        → MetNoFault d device device' → LoadAnswers status
    SourceStops : status ≡ 3 → SourceFailed g h source source' sink sink' NoWord → sink' ≡ sink
        → WasEmpty d device device' → MetNoFault d device device' → IsNoStore d device device' → LoadAnswers status
    SinkStops : status ≡ 4 → (rows : List Row) → ReadAll rows → HasRows rows
        → WroteSome h sink sink' (line (codes "loaded " ++ decimal (length rows))) → LoadAnswers status
    SinkStopsAtWord : status ≡ 4 → StopsAtWord (WroteSome h sink sink')
        → WasEmpty d device device' → MetNoFault d device device' → IsNoStore d device device' → LoadAnswers status
    NotLaidOut : status ≡ 5 → DidNotBegin 2 → MetFault d device device' → IsNotLaidOut → LoadAnswers status
    DeviceStops : status ≡ 5 → StopsAtBlock → sink' ≡ sink
        → WasEmpty d device device' → MetFault d device device' → IsNoStore d device device' → LoadAnswers status
    NotFinished : status ≡ 5 → (rows : List Row) → ReadAll rows → sink' ≡ sink → WasEmpty d device device' → MetFault d device device'
        → IfSome (d.bytes device') (λ bytes. (take 512 bytes ≡ replicate 512 0) ⊎ IsFilledBehind geometry 0 rows bytes) → LoadAnswers status
    NotEmpty : status ≡ 8 → DidNotBegin 1 → IfSome (d.bytes device) (λ bytes. 0 < length bytes) → d.bytes device' ≡ d.bytes device
        → MetNoFault d device device' → LoadAnswers status
    InputSpent : status ≡ 9 → Spent g h source source' sink sink' NoWord → sink' ≡ sink
        → WasEmpty d device device' → MetNoFault d device device' → IsNoStore d device device' → LoadAnswers status
    AtWord : status ≡ 14 → StopsAtWord (WroteWhole h sink sink')
        → WasEmpty d device device' → MetNoFault d device device' → IsNoStore d device device' → LoadAnswers status
