-- How a session over the file of a device ends: what it read, carried out and wrote, and what it leaves of the file, by its status.
use Rattle.std.specs.Prelude.{ℕ, zero, suc, ◌≡◌, ◌+◌, ◌≤◌, ◌⊎◌, Bool, true, false, List, [], ◌∷◌, ◌++◌, length, map, All, Option, Some, None, Err, option_map, IfSome, IsSomeAnd, ⊤}
use Rattle.std.specs.List.{flat_map}
use Rattle.cola_outside.specs.Faults.{Rose}
use Rattle.cola_outside.specs.Told.{Both}
use Rattle.cola_cell.specs.declared.format.Format.{Format}
use Rattle.cola_device.specs.declared.device.Device as device
use Rattle.cola_device.specs.Settling.{IsSettled}
use Rattle.cola_io.specs.Streams.{Appended}
use Rattle.cola_io.specs.declared.source.Source as source
use Rattle.cola_io.specs.declared.sink.Sink as sink
use Rattle.cola_layout.specs.Header.{Fields}
use Rattle.cola_spec.specs.Map.{Map, empty_map}
use Rattle.cola_spec.specs.Lines.{Line}
use Rattle.cola_spec.specs.Command.{Command, Close, line_requests}
use Rattle.cola_spec.specs.Reply.{Reply}
use Rattle.cola_spec.specs.Machine as machine
use Rattle.cola_spec.specs.Machine.{State, Turn, PlainStep, FaultedStep, kind_of, Step, History, turns_text, ticks_of}
use Rattle.cola_spec.specs.Bounds.{request_bound}
use Rattle.cola_table.specs.Replies.{turn_of}
use Rattle.cola_shapes.specs.Shapes.{shape_of}
use Rattle.cola_image.specs.Standing.{HeaderStandsFor}
use Rattle.cola_store.specs.declared.fault.OpenFault.{OpenFault}
use Rattle.cola_workload.specs.Refused.{refusal_status}
use Rattle.cola_command.specs.declared.place.Place.TheVariants as place
use Rattle.cola_command.specs.declared.file.Session.{Session}
use Rattle.cola_store.specs.Store.{Stored}
use Rattle.cola_store.specs.Sessions.{OpensStore, IsStoreOpened}
use Rattle.cola_store.specs.Table.{store_table}
use Rattle.cola_command.specs.File.{Sizes, shape, sizes_in, KeepsBehind, StandsBut, IsOfSizes}
use Rattle.cola_command.specs.RunTransfers.{FewTransfers, FewCachedReads}
use Rattle.cola_session.specs.Home.{FaultsOver, cut_after, point, LinesLead, FrontLeads}
use Rattle.cola_command.specs.Turns.{file_home, WasLed}
use Rattle.cola_session.specs.Reading.{input_limit}
use Rattle.cola_session.specs.Ends.{Untouched, Ending, Well, Ill, Anyhow, SessionEnds, WroteFront}

-- The file

-- a file with a header of these sizes stands for a map
pub record StandsAs (sizes : Sizes) (m : Map) (bytes : List ℕ) : Type 0 where
  pub header : Fields
  pub stands : HeaderStandsFor header bytes m
  pub sizes_are : sizes_in header ≡ sizes

-- what is known of a file: its sizes, and the map that it stands for
pub record Known : Type 0 where
  pub sizes : Sizes
  pub map : Map

-- nothing is known of a file, or it is told, and what is known of it is so
abbrev pub IsKnown : Option Known → Option (List ℕ) → Type 0
IsKnown known told = IfSome known (λ known. IsSomeAnd told (StandsAs known.sizes known.map))

-- the sizes that are known of it, and the state at which a session over it begins
abbrev pub sizes_known : Option Known → Option Sizes
sizes_known known = option_map (λ (known : Known). known.sizes) known

abbrev pub state_known : Option Known → State
state_known None = machine.Open empty_map
state_known (Some known) = machine.Open known.map

-- what a session leaves of a file, by its last state: closed, the file stands for the map but for its state byte, which is the state's. Of one whose close met a fault nothing is said
abbrev pub IsLeft : Sizes → State → Option (List ℕ) → Type 0
IsLeft sizes (machine.Open m) told = ⊥
IsLeft sizes (machine.Closing m) told = ⊤
IsLeft sizes (machine.Closed m byte) told = IsSomeAnd told (StandsBut sizes m byte)

-- closed, with the state byte 0: the file stands for the map
abbrev pub IsLeftWhole : Sizes → State → Option (List ℕ) → Type 0
IsLeftWhole sizes (machine.Open m) told = ⊥
IsLeftWhole sizes (machine.Closing m) told = ⊥
IsLeftWhole sizes (machine.Closed m zero) told = IsSomeAnd told (StandsAs sizes m)
IsLeftWhole sizes (machine.Closed m (suc byte)) told = ⊥

-- The lines

-- what turns were asked
abbrev pub asked : List Turn → List (Option Command)
asked turns = map (λ (turn : Turn). turn.request) turns

-- lines ask these requests, each by one of the two formats: one request a line, and none an empty line
abbrev pub AreAsked : List Line → List (Option Command) → Type 0
AreAsked [] requests = requests ≡ []
AreAsked (line ∷ lines) requests = (format : Format) × ((rest : List (Option Command)) × ((requests ≡ line_requests (shape_of format 0) line ++ rest) × AreAsked lines rest))

-- the close at the end, whose reply is not written
abbrev pub last_close : Reply → Turn
last_close answer = turn_of Close answer 0

-- The end

-- the store is closed at the end, and its last opening met no fault; or one of these is not so
abbrev pub EndsBy : Ending → List Turn → Reply → Type 0
EndsBy Well turns answer = (kind_of answer ≡ PlainStep) × (cut_after turns false ≡ false)
EndsBy Ill turns answer = (kind_of answer ≡ FaultedStep) ⊎ (cut_after turns false ≡ true)
EndsBy Anyhow turns answer = ⊤

-- and what is left of the file then
abbrev pub LeftBy : Ending → Sizes → State → Option (List ℕ) → Type 0
LeftBy Well = IsLeftWhole
LeftBy Ill = IsLeft
LeftBy Anyhow = IsLeft

-- What was carried out

module _ {D : Type 0} (d : device.Ghosts D) (cache : ℕ) (device device' : D) (steps steps' : ℕ) where
  -- of a file of these sizes: the turns are those of the lines in its format, each is within the bound of its request, and the bytes stay in number, and behind the cells
  pub record StaysWithin (sizes : Sizes) (lines : List Line) (turns : List Turn) : Type 0 where
    pub asks : asked turns ≡ flat_map (line_requests (shape sizes)) lines
    pub within : All (λ (turn : Turn). turn.ticks ≤ request_bound (sizes.bottom + 1) turn.request) turns
    pub behind : Both (d.bytes device) (d.bytes device') (KeepsBehind sizes)

  module _ (ending : Ending) where
    -- the turns are those of the lines in the file's format, and a history of the session machine from the map that the file stood for; the close at the end is one more step, after which the file is left so; and where no fault was counted, the reads and writes are few
    pub record RunsToEnd (known : Known) (lines : List Line) (turns : List Turn) (answer : Reply) : Type 0 where
      pub asks : asked turns ≡ flat_map (line_requests (shape known.sizes)) lines
      pub last : State
      pub run : History (shape known.sizes) (machine.Open known.map) turns last
      pub end : State
      pub close : Step (shape known.sizes) last (last_close answer) end
      pub left : LeftBy ending known.sizes end (d.bytes device')
      pub few : (Rose (d.counts device).faults (d.counts device').faults → ⊥) → length turns ≤ input_limit → FewTransfers known.sizes cache turns (d.counts device) (d.counts device')

    -- the file was opened, lines were carried out by turns, and the session was closed with this answer: the cell accesses are those of the turns; the device's count of faults rises in each faulted one and in no other, the close at the end among them; what the device keeps stays; where the session ends well, the device settled with the bytes that it has; and of a file of known sizes, where no fault was counted and the cache has room for it, the reads are few
    pub record CarriedOut (known : Option Known) (lines : List Line) (turns : List Turn) (answer : Reply) : Type 0 where
      pub store : Stored D
      pub opened : IsStoreOpened d device cache store
      pub asks : AreAsked lines (asked turns)
      pub counted : steps' ≡ steps + ticks_of turns
      pub faults : FaultsOver (turns ++ last_close answer ∷ []) (d.counts device).faults (d.counts device').faults
      pub kept : d.kept device' ≡ d.kept device
      pub settled : EndsBy Well turns answer → IsSettled d device'
      pub sized : (sizes : Sizes) → IsOfSizes d sizes (place.Closed device) → StaysWithin sizes lines turns
      pub cached : (sizes : Sizes) → IsOfSizes d sizes (place.Closed device) → (Rose (d.counts device).faults (d.counts device').faults → ⊥) → FewCachedReads sizes cache turns (d.counts device) (d.counts device')
      pub runs : IfSome known (λ known. RunsToEnd known lines turns answer)

-- all replies were written to the lines before the last one, of which the turns are the earlier ones, and some front of those to the last
pub record WroteLines (cost : Bool) (before : List Line) (turns : List Turn) (written written' : Option (List ℕ)) : Type 0 where
  pub earlier : List Turn
  pub late : List Turn
  pub are : turns ≡ earlier ++ late
  pub asks : AreAsked before (asked earlier)
  pub front : WroteFront (turns_text cost turns) (length (turns_text cost earlier)) written written'

-- The session

module _ {K D : Type 0} (h : sink.Ghosts K) (d : device.Ghosts D) (cache : ℕ) (cost : Bool) (sink sink' : K) (device device' : D) (steps steps' : ℕ) where
  -- the sessions between which lines led
  abbrev pub LinesLed : Option Known → List Line → List Turn → (first last : Session D d) → Type 0
  LinesLed known lines turns first last =
      (state : State) × LinesLead (store_table d) (file_home d) h (sizes_known known) lines turns (point first sink steps (state_known known)) (point last sink' steps' state)

  -- and one more, in whose reply the sink failed
  abbrev pub FrontLed : Option Known → List Line → Line → List Turn → (first last : Session D d) → Type 0
  FrontLed known before line turns first last =
      (state : State) × FrontLeads (store_table d) (file_home d) h (sizes_known known) before line turns (point first sink steps (state_known known)) (point last sink' steps' state)

  -- lines were carried out by turns, in sessions that led from one to the next, and the texts of their replies were written
  pub record WroteAll (ending : Ending) (known : Option Known) (lines : List Line) : Type 0 where
    pub turns : List Turn
    pub answer : Reply
    pub carried : CarriedOut d cache device device' steps steps' ending known lines turns answer
    pub led : WasLed d device device' cache cost (LinesLed known lines turns) answer
    pub wrote : Appended (turns_text cost turns) (h.written sink) (h.written sink')
    pub ends : EndsBy ending turns answer

  -- lines were carried out by turns, and the texts of their replies were written up to some front of the last
  pub record WroteSome (known : Option Known) (before : List Line) (last : Line) : Type 0 where
    pub turns : List Turn
    pub answer : Reply
    pub carried : CarriedOut d cache device device' steps steps' Anyhow known (before ++ last ∷ []) turns answer
    pub led : WasLed d device device' cache cost (FrontLed known before last turns) answer
    pub wrote : WroteLines cost before turns (h.written sink) (h.written sink')

  -- whatever is known of the file
  abbrev pub CarriesAll : Ending → List Line → Type 0
  CarriesAll ending lines = (known : Option Known) → IsKnown known (d.bytes device) → WroteAll ending known lines

  abbrev pub CarriesFront : List Line → Line → Type 0
  CarriesFront before last = (known : Option Known) → IsKnown known (d.bytes device) → WroteSome known before last

module _ {S K D : Type 0} (g : source.Ghosts S) (h : sink.Ghosts K) (d : device.Ghosts D) (cache : ℕ) (cost : Bool) (source source' : S) (sink sink' : K) (device device' : D) (steps steps' : ℕ) where
  -- the file was not opened, for this reason, which gives the status: the source, the sink and the count of cell accesses are those before
  pub record NotOpened (status : ℕ) : Type 0 where
    pub why : OpenFault
    pub status_is : status ≡ refusal_status why
    pub refused : OpensStore d device cache (Err (device', why))
    pub kept : d.kept device' ≡ d.kept device
    pub untouched : Untouched source source' sink sink' steps steps'

  -- how a session over the file of a device ends, by its status: 1, 5, 6, 7 or 10 where the file was not opened, and else as every session does
  abbrev pub FileEnds : ℕ → Type 0
  FileEnds status = SessionEnds g h source source' sink sink' NotOpened (CarriesAll h d cache cost sink sink' device device' steps steps') (CarriesFront h d cache cost sink sink' device device' steps steps') status
