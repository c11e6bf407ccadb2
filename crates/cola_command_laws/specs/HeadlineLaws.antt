-- Words of the laws of sessions over a file.
use Rattle.std.specs.Prelude.{ℕ, ◌≡◌, ◌≤◌, ◌⊎◌, Bool, ◌&&◌, if◌then◌else◌, List, [], ◌∷◌, sum_by, All, Some, IsSomeAnd}
use Rattle.std.specs.List.{flat_map}
use Rattle.cola_outside.specs.Faults.{Rose}
use Rattle.cola_device.specs.declared.device.Device as device
use Rattle.cola_io.specs.Streams.{Appended}
use Rattle.cola_io.specs.declared.source.Source as source
use Rattle.cola_io.specs.declared.sink.Sink as sink
use Rattle.cola_spec.specs.Map.{Shape, Map}
use Rattle.cola_spec.specs.Lines.{Line}
use Rattle.cola_spec.specs.Command.{Close, Reopen, line_requests}
use Rattle.cola_spec.specs.Reply.{Refused, Memory}
use Rattle.cola_spec.specs.Machine.{State, Open, Closed, Turn, FaultedStep, kind_of, plain_reply, plain_after, turns_text}
use Rattle.cola_spec.specs.Bounds.{request_bound}
use Rattle.cola_spec.specs.Told.{is_costed, printed_cost}
use Rattle.cola_image.specs.Standing.{FileStandsFor}
use Rattle.cola_command.specs.File.{Sizes, shape}
use Rattle.cola_session.specs.Ends.{ReadToEnd, NothingFails}
use Rattle.cola_command.specs.RunTransfers.{FewTransfers}
use Rattle.cola_command.specs.Headline.{StandsAs, IsLeftWhole, NotOpened, asked}

-- the file stands for a map, fewer bytes were read than may be taken, and no count of faults rose
pub record NoneFails {S K D : Type 0} (g : source.Ghosts S) (h : sink.Ghosts K) (d : device.Ghosts D) (m : Map) (source source' : S) (sink sink' : K) (device device' : D) : Type 0 where
  pub stands : IsSomeAnd (d.bytes device) (λ bytes. FileStandsFor bytes m)
  pub nothing : NothingFails g h source source' sink sink'
  pub device_answers : Rose (d.counts device).faults (d.counts device').faults → ⊥

-- turns from a state to a last one: each is the one plain step, or an opening of a closed store that found no memory, which changes nothing
abbrev pub PlainHistory : Shape → State → List Turn → State → Type 0
PlainHistory shape state [] last = last ≡ state
PlainHistory shape state (turn ∷ turns) last =
    ((turn.answer ≡ plain_reply shape state turn.request) × PlainHistory shape (plain_after shape state turn.request) turns last)
    ⊎ ((turn.request ≡ Some Reopen) × ((turn.answer ≡ Refused Memory) × (((m : Map) × (state ≡ Closed m 0)) × PlainHistory shape state turns last)))

module _ {K D : Type 0} (h : sink.Ghosts K) (d : device.Ghosts D) (cost : Bool) (m : Map) (sink sink' : K) (device device' : D) where
  -- the lines were answered as by the map that the file stood for, but that an opening may have found no memory; these replies were written; and the file stands for the last map
  pub record AnsweredPlainly (lines : List Line) : Type 0 where
    pub sizes : Sizes
    pub stood : IsSomeAnd (d.bytes device) (StandsAs sizes m)
    pub turns : List Turn
    pub asks : asked turns ≡ flat_map (line_requests (shape sizes)) lines
    pub last : State
    pub run : PlainHistory (shape sizes) (Open m) turns last
    pub wrote : Appended (turns_text cost turns) (h.written sink) (h.written sink')
    pub end : State
    pub close : end ≡ plain_after (shape sizes) last (Some Close)
    pub stands : IsLeftWhole sizes end (d.bytes device')

  -- the lines were answered by turns, of which the reads and writes are few
  pub record TransferredFew (cache : ℕ) (lines : List Line) : Type 0 where
    pub sizes : Sizes
    pub stood : IsSomeAnd (d.bytes device) (StandsAs sizes m)
    pub turns : List Turn
    pub asks : asked turns ≡ flat_map (line_requests (shape sizes)) lines
    pub wrote : Appended (turns_text cost turns) (h.written sink) (h.written sink')
    pub few : FewTransfers sizes cache turns (d.counts device) (d.counts device')

module _ {S K D : Type 0} (g : source.Ghosts S) (h : sink.Ghosts K) (d : device.Ghosts D) (cache : ℕ) (cost : Bool) (m : Map) (source source' : S) (sink sink' : K) (device device' : D) (steps steps' : ℕ) where
  -- how a session ends where nothing fails: all lines are answered plainly, or there was no memory for its store
  pub data Completes (status : ℕ) : Type 0 where
    Answered : status ≡ 0 → ReadToEnd g h source source' sink sink' (AnsweredPlainly h d cost m sink sink' device device') → Completes status
    OutOfMemory : status ≡ 1 → NotOpened g h d cache cost source source' sink sink' device device' steps steps' status → Completes status

-- no turn is faulted
abbrev pub NoneFaulted : List Turn → Type 0
NoneFaulted turns = All (λ (turn : Turn). kind_of turn.answer ≡ FaultedStep → ⊥) turns

-- each turn is within the bound of its request, in a store of so many levels
abbrev pub AreWithin : ℕ → List Turn → Type 0
AreWithin levels turns = All (λ (turn : Turn). turn.ticks ≤ request_bound levels turn.request) turns

-- the sum of the printed numbers
abbrev pub printed_sum : Bool → List Turn → ℕ
printed_sum cost turns = sum_by (printed_cost cost) turns

-- the bounds of the turns that print no number, summed
abbrev pub unprinted_bound : Bool → ℕ → List Turn → ℕ
unprinted_bound cost levels turns = sum_by (λ (turn : Turn). if cost && is_costed turn.answer then 0 else request_bound levels turn.request) turns
