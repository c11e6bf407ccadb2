-- A session over a home, where it has its table: what a line does, on every home, and lines one after another.
use Rattle.std.specs.Prelude.{◌≡◌, ℕ, ◌+◌, ◌≤◌, Bool, true, false, List, [], ◌∷◌, ◌++◌, map, All, Option, Some, None, Result, Ok, Err, IfSome}
use Rattle.cola_cell.specs.declared.format.Format.{Format}
use Rattle.cola_io.specs.declared.source.Source as source
use Rattle.cola_io.specs.declared.sink.Sink as sink
use Rattle.cola_io.specs.declared.sink.SinkFault.{SinkFault}
use Rattle.cola_spec.specs.Map.{Shape}
use Rattle.cola_spec.specs.Lines.{Line}
use Rattle.cola_spec.specs.Command.{Command, line_requests}
use Rattle.cola_spec.specs.Reply as reply
use Rattle.cola_spec.specs.Reply.{Reply}
use Rattle.cola_spec.specs.Machine.{State, Turn, Step, History, kind_of, by_command, turn_text, turns_text, ticks_of}
use Rattle.cola_spec.specs.Bounds.{request_bound}
use Rattle.cola_table.specs.declared.table.Table as table
use Rattle.cola_shapes.specs.Shapes.{shape_of}
use Rattle.cola_line.specs.Given.{Given}
use Rattle.cola_line.specs.Replied.{Wrote, KindFaults}
use Rattle.cola_session.specs.Ends.{SessionEnds, UnlessIll}

-- Homes

-- what is open, how it is closed and how it is opened, as the lines see it
pub record Home (H T : Type 0) : Type 1 where
  -- what may be known of a home that stands for a map, the maps that it may stand for then, and when it is at a state of the session machine
  pub Known : Type 0
  pub shape : Known → Shape
  pub at : Known → H → State → Type 0
  -- its table while it is open, and the same home with that table in its place
  pub table : H → Option T
  pub with_table : H → T → H → Type 0
  -- the format of lines, whether numbers of ticks are printed, the count of faults, and whether the last opening met one
  pub format : H → Format
  pub cost : H → Bool
  pub faults : H → ℕ
  pub cut_off : H → Bool
  -- what every line keeps
  pub keeps : H → H → Type 0
  -- why `close` and `open` are answered so, and the home that is left
  pub closes : H → Reply → H → Type 0
  pub opens : H → Reply → H → Type 0
  -- the bounds on what its open table read and wrote
  pub few : H → Type 0

-- a home, a sink, a count of cell accesses and a state of the session machine, between two lines
pub record Point (H K : Type 0) : Type 0 where
  pub home : H
  pub sink : K
  pub steps : ℕ
  pub state : State

abbrev pub point : {H K : Type 0} → H → K → ℕ → State → Point H K
point home sink steps state = record { home = home; sink = sink; steps = steps; state = state }

-- the levels of a table, and none where there is no table
abbrev pub depth_in : {T W : Type 0} → table.Ghosts T W → Option T → ℕ
depth_in t None = 0
depth_in t (Some table) = (t.terms table).depth

-- where something is known of a home, it is at the state
abbrev pub IsAtSome : {H T K : Type 0} (h : Home H T) → Option h.Known → Point H K → Type 0
IsAtSome h known now = IfSome known (λ known. h.at known now.home now.state)

-- Turns

-- whether the last opening met a fault: after an answer to `open`
abbrev pub cut_by : Reply → Bool → Bool
cut_by (reply.Failed reply.Fault) before = true
cut_by (reply.Opened keys) before = false
cut_by _ before = before

-- after a turn: only `open` changes it
abbrev pub cut_by_request : Option Command → Reply → Bool → Bool
cut_by_request None answer before = before
cut_by_request (Some command) answer before = by_command command before (cut_by answer before) before

-- after turns
abbrev pub cut_after : List Turn → Bool → Bool
cut_after [] before = before
cut_after (turn ∷ turns) before = cut_after turns (cut_by_request turn.request turn.answer before)

-- the count of faults over turns: it rises in each faulted step, and in no other
abbrev pub FaultsOver : List Turn → ℕ → ℕ → Type 0
FaultsOver [] before now = now ≡ before
FaultsOver (turn ∷ turns) before now = (between : ℕ) × (KindFaults (kind_of turn.answer) before between × FaultsOver turns between now)

module _ {H T W K A E : Type 0} (t : table.Ghosts T W) (h : Home H T) (k : sink.Ghosts K) where
  -- a command that neither closes nor opens is answered by the table while it is open, and shut out else
  abbrev pub Asked : Option T → Command → Result A E → H → K → Turn → H → K → Type 0
  Asked None command result old sink turn new sink' = (turn.answer ≡ reply.Shut) × (new ≡ old)
  Asked (Some table) command result old sink turn new sink' = (after : T) × (Given t k command result table sink turn after sink' × h.with_table old after new)

  -- the cause of a turn
  abbrev pub Cause : Option Command → Result A E → H → K → Turn → H → K → Type 0
  Cause None result old sink turn new sink' = (turn.answer ≡ reply.Bad) × (new ≡ old)
  Cause (Some command) result old sink turn new sink' =
      by_command command (h.closes old turn.answer new) (h.opens old turn.answer new) (Asked (h.table old) command result old sink turn new sink')

  -- a line has one turn, or none, which changes nothing
  abbrev pub CausedBy : Result A E → H → K → List Turn → H → K → Type 0
  CausedBy result old sink [] new sink' = new ≡ old
  CausedBy result old sink (turn ∷ []) new sink' = Cause turn.request result old sink turn new sink'
  CausedBy result old sink (turn ∷ next ∷ turns) new sink' = ⊥

-- a turn is a step of the session machine from a state to one at which the home is then
pub record StepsTo {H T : Type 0} (h : Home H T) (known : h.Known) (state : State) (turn : Turn) (new : H) : Type 0 where
  pub next : State
  pub step : Step (h.shape known) state turn next
  pub at : h.at known new next

-- a turn: this was asked, the text of its reply was written, and its cell accesses are those that were made; the cause of the reply, what stays, and, where the home was at the state, the step of the machine
pub record Turned {H T W K A E : Type 0} (t : table.Ghosts T W) (h : Home H T) (k : sink.Ghosts K) (state : State) (asked : Option Command) (result : Result A E) (old new : H) (sink sink' : K) (steps steps' : ℕ) (turn : Turn) : Type 0 where
  pub asks : turn.request ≡ asked
  pub wrote : Wrote (turn_text (h.cost old) turn) result (k.written sink) (k.written sink')
  pub counted : steps' ≡ steps + turn.ticks
  pub within : turn.ticks ≤ request_bound (depth_in t (h.table old)) asked
  pub faults : KindFaults (kind_of turn.answer) (h.faults old) (h.faults new)
  pub cause : Cause t h k asked result old sink turn new sink'
  pub keeps : h.keeps old new
  pub cut_off : h.cut_off new ≡ cut_by_request asked turn.answer (h.cut_off old)
  pub leads : (known : h.Known) → h.at known old state → StepsTo h known state turn new

-- Lines

module _ {H T W K : Type 0} (t : table.Ghosts T W) (h : Home H T) (k : sink.Ghosts K) (known : Option h.Known) where
  -- a line led from one point to the next: it was asked, by the format of the home, each reply has its cause, and its text was written, or some front of it where the sink failed; the cell accesses and the faults are those of its turns; and where the home was at the state, the turns are a history of the session machine to the next
  pub record LineLeads (line : Line) (result : Result (Unit {0}) SinkFault) (turns : List Turn) (old new : Point H K) : Type 0 where
    pub stands : IsAtSome h known old
    pub asks : (keys : ℕ) → map (λ (turn : Turn). turn.request) turns ≡ line_requests (shape_of (h.format old.home) keys) line
    pub wrote : Wrote (turns_text (h.cost old.home) turns) result (k.written old.sink) (k.written new.sink)
    pub counted : new.steps ≡ old.steps + ticks_of turns
    pub within : All (λ (turn : Turn). turn.ticks ≤ request_bound (depth_in t (h.table old.home)) turn.request) turns
    pub faults : FaultsOver turns (h.faults old.home) (h.faults new.home)
    pub cause : CausedBy t h k result old.home old.sink turns new.home new.sink
    pub keeps : h.keeps old.home new.home
    pub cut_off : h.cut_off new.home ≡ cut_after turns (h.cut_off old.home)
    pub few : h.few old.home
    pub runs : IfSome known (λ known. History (h.shape known) old.state turns new.state)
    pub stays : IsAtSome h known new

  -- lines led from one point to another, one after the other, and each reply was written
  abbrev pub LinesLead : List Line → List Turn → Point H K → Point H K → Type 0
  LinesLead [] turns old new = (turns ≡ []) × (new ≡ old)
  LinesLead (line ∷ lines) turns old new =
      (mid : Point H K) × ((now : List Turn) × ((rest : List Turn) × ((turns ≡ now ++ rest) × (LineLeads line (Ok tt) now old mid × LinesLead lines rest mid new))))

  -- lines did, and then one more, in whose reply the sink failed
  pub record FrontLeads (before : List Line) (last : Line) (turns : List Turn) (old new : Point H K) : Type 0 where
    pub earlier : List Turn
    pub late : List Turn
    pub are : turns ≡ earlier ++ late
    pub mid : Point H K
    pub led : LinesLead before earlier old mid
    pub fault : SinkFault
    pub in_last : LineLeads last (Err fault) late mid new

module _ {H T W K : Type 0} (t : table.Ghosts T W) (h : Home H T) (k : sink.Ghosts K) where
  -- a line leads from a point to this home, this sink and this count, whatever is known of the home
  abbrev pub Leads : Line → Result (Unit {0}) SinkFault → (old new : H) → (sink sink' : K) → (steps steps' : ℕ) → Type 0
  Leads line result old new sink sink' steps steps' =
      (known : Option h.Known) (state : State) → IsAtSome h known (point old sink steps state) →
      (next : State) × ((turns : List Turn) × LineLeads t h k known line result turns (point old sink steps state) (point new sink' steps' next))

  -- lines did
  abbrev pub AllLead : (first now : H) → (sink sink' : K) → (steps steps' : ℕ) → List Line → Type 0
  AllLead first now sink sink' steps steps' lines =
      (known : Option h.Known) (state : State) → IsAtSome h known (point first sink steps state) →
      (last : State) × ((turns : List Turn) × LinesLead t h k known lines turns (point first sink steps state) (point now sink' steps' last))

  -- and one more, in whose reply the sink failed
  abbrev pub FrontLead : (first now : H) → (sink sink' : K) → (steps steps' : ℕ) → List Line → Line → Type 0
  FrontLead first now sink sink' steps steps' before line =
      (known : Option h.Known) (state : State) → IsAtSome h known (point first sink steps state) →
      (last : State) × ((turns : List Turn) × FrontLeads t h k known before line turns (point first sink steps state) (point now sink' steps' last))

  -- how the lines of a source end in a session, by the status: none ends ill, since the home is not left yet
  abbrev pub LinesEnd : {S : Type 0} → source.Ghosts S → (first now : H) → (source source' : S) → (sink sink' : K) → (steps steps' : ℕ) → ℕ → Type 0
  LinesEnd g first now source source' sink sink' steps steps' status =
      SessionEnds g k source source' sink sink' (λ status. ⊥) (λ ending lines. UnlessIll ending (AllLead first now sink sink' steps steps' lines)) (FrontLead first now sink sink' steps steps') status
