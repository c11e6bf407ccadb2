-- A session over a table in memory: its home, what it replies, and how it ends.
use Rattle.std.specs.Prelude.{ℕ, ◌≡◌, ◌+◌, ◌≤◌, Bool, true, false, List, [], ◌∷◌, ◌++◌, length, sum_by, Option, Some, None}
use Rattle.std.specs.List.{flat_map}
use Rattle.cola_cell.specs.declared.format.Format.TheVariants.{One}
use Rattle.cola_io.specs.Streams.{Appended}
use Rattle.cola_io.specs.declared.source.Source as source
use Rattle.cola_io.specs.declared.sink.Sink as sink
use Rattle.cola_spec.specs.Map.{Map, empty_map, count}
use Rattle.cola_spec.specs.Lines.{Line}
use Rattle.cola_spec.specs.Command.{Command, line_requests}
use Rattle.cola_spec.specs.Reply.{Reply, Already, Opened}
use Rattle.cola_spec.specs.Reply as reply
use Rattle.cola_spec.specs.Bounds.{request_bound}
use Rattle.cola_spec.specs.Machine.{State, Open, Closed, plain_turns, turns_text}
use Rattle.cola_table.specs.Flat.{Flat}
use Rattle.cola_shapes.specs.Shapes.{shape_of}
use Rattle.cola_session.specs.declared.memory.MemorySession.{MemorySession}
use Rattle.cola_session.specs.Home.{Home}
use Rattle.cola_session.specs.Ends.{SessionEnds, UnlessIll, Untouched, WroteFront}

-- The home

-- the state of a session over a table in memory, which closing and opening keep
abbrev pub state_of : Bool → Map → State
state_of true m = Open m
state_of false m = Closed m 0

-- the table while the session is open
abbrev pub table_in : Bool → Flat → Option Flat
table_in true table = Some table
table_in false table = None

-- what the answers to `close` and `open` are, by whether the session is open
abbrev pub close_answer : Bool → Reply
close_answer true = reply.Closed
close_answer false = Already

abbrev pub open_answer : Bool → Map → Reply
open_answer true m = Already
open_answer false m = Opened (count m)

-- it is closed and opened without fail, and no call makes a fault; for so many keys it is at the state of its map
abbrev pub memory_home : Home MemorySession Flat
memory_home = record {
  Known = ℕ;
  shape = shape_of One;
  at = λ keys session state. (session.table.limit ≡ keys) × (state ≡ state_of session.is_open session.table.map);
  table = λ session. table_in session.is_open session.table;
  with_table = λ old table new. new ≡ record { table = table; is_open = old.is_open };
  format = λ session. One;
  cost = λ session. false;
  faults = λ session. 0;
  cut_off = λ session. false;
  keeps = λ old new. new.table.limit ≡ old.table.limit;
  closes = λ old answer new. (answer ≡ close_answer old.is_open) × (new ≡ record { table = old.table; is_open = false });
  opens = λ old answer new. (answer ≡ open_answer old.is_open old.table.map) × (new ≡ record { table = old.table; is_open = true });
  few = λ session. Unit {0};
}

-- Replies

-- what lines ask
abbrev pub asked : ℕ → List Line → List (Option Command)
asked keys lines = flat_map (line_requests (shape_of One keys)) lines

-- the texts of the replies to lines, one after another: a session begins open, with the empty map
abbrev pub replies : ℕ → List Line → List ℕ
replies keys lines = turns_text false (plain_turns (shape_of One keys) (Open empty_map) (asked keys lines))

-- the most cell accesses of what lines ask: a table in memory has no levels
abbrev pub lines_bound : ℕ → List Line → ℕ
lines_bound keys lines = sum_by (request_bound 0) (asked keys lines)

-- so many cell accesses at most were made
pub record StepsWithin (bound steps steps' : ℕ) : Type 0 where
  pub kept : steps ≤ steps'
  pub within : steps' ≤ steps + bound

-- The end

module _ {K : Type 0} (h : sink.Ghosts K) (keys : ℕ) (sink sink' : K) (steps steps' : ℕ) where
  -- all lines were answered, within the bounds of what they ask
  pub record Replied (lines : List Line) : Type 0 where
    pub wrote : Appended (replies keys lines) (h.written sink) (h.written sink')
    pub cells : StepsWithin (lines_bound keys lines) steps steps'

  -- all lines were, up to some front of the reply to the last
  pub record RepliedFront (before : List Line) (last : Line) : Type 0 where
    pub wrote : WroteFront (replies keys (before ++ last ∷ [])) (length (replies keys before)) (h.written sink) (h.written sink')
    pub cells : StepsWithin (lines_bound keys (before ++ last ∷ [])) steps steps'

-- how a session over a table for so many keys ends, by its status: 1 where there was no memory for the table; it never ends ill
abbrev pub MemoryEnds : {S K : Type 0} → source.Ghosts S → sink.Ghosts K → ℕ → (source source' : S) → (sink sink' : K) → (steps steps' : ℕ) → ℕ → Type 0
MemoryEnds g h keys source source' sink sink' steps steps' status =
    SessionEnds g h source source' sink sink' (λ n. (n ≡ 1) × Untouched source source' sink sink' steps steps') (λ ending lines. UnlessIll ending (Replied h keys sink sink' steps steps' lines)) (RepliedFront h keys sink sink' steps steps') status
