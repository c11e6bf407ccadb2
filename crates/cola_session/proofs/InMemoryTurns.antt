-- A turn of a session over a table in memory.
use Rattle.std.proofs.Common.{◌≡◌, ℕ, ◌+◌, ◌≤◌, Bool, true, false, Some, Result, refl, sym, ap, ◌∙◌, subst, arith}
use Rattle.cola_cell.specs.declared.format.Format.TheVariants.{One}
use Rattle.cola_io.specs.declared.sink.Sink as sink
use Rattle.cola_line.specs.declared.command.Command as code
use Rattle.cola_line.specs.Given.{Given}
use Rattle.cola_line.specs.Replied.{Wrote, KindFaults, StepsFrom}
use Rattle.cola_line.specs.Spoken.{spoken, IsOfTable}
use Rattle.cola_spec.specs.Bounds.{command_bound, request_bound}
use Rattle.cola_spec.specs.Command.{Command, Close, Reopen}
use Rattle.cola_spec.specs.Map.{Map, Shape, count}
use Rattle.cola_spec.specs.Reply as reply
use Rattle.cola_spec.specs.Reply.{Reply, reply_text}
use Rattle.cola_spec.specs.Machine.{State, Open, Turn, Kind, PlainStep, StepOf, Step, kind_of, plain_reply, plain_after, turn_text}
use Rattle.cola_table.specs.declared.table.Table as table
use Rattle.cola_table.specs.Flat.{Flat}
use Rattle.cola_table.specs.Replies.{turn_of}
use Rattle.cola_shapes.specs.Shapes.{shape_of}
use Rattle.cola_session.specs.declared.memory.MemorySession.{MemorySession}
use Rattle.cola_session.specs.Home.{Asked, Cause, Turned, cut_by_request, depth_in}
use Rattle.cola_session.specs.Memory.{memory_home, state_of, table_in, close_answer, open_answer}
use Rattle.cola_session.proofs.OfTable.{map_of, by-table, cut-table, shut-closed}

-- an answer that is plain
plain-step : (maps : Shape) (state next : State) (turn : Turn) → kind_of turn.answer ≡ PlainStep → (turn.answer ≡ plain_reply maps state turn.request) × (next ≡ plain_after maps state turn.request) → Step maps state turn next
plain-step maps state next turn kind plain = subst (λ (k : Kind). StepOf maps state turn next k) (sym kind) plain

module _ {W K A E : Type 0} (t : table.Ghosts Flat W) (k : sink.Ghosts K) (state : State) (result : Result A E) where
  -- a turn of the session alone, over its state
  session-turned : (held : Flat) (command : Command) (is_open then : Bool) (sink sink' : K) (steps : ℕ) (answer : Reply) → Wrote (reply_text false 0 answer) result (k.written sink) (k.written sink') → kind_of answer ≡ PlainStep → false ≡ cut_by_request (Some command) answer false
      → Cause t memory_home k (Some command) result (record { table = held; is_open = is_open }) sink (turn_of command answer 0) (record { table = held; is_open = then }) sink'
      → ((keys : ℕ) → (answer ≡ plain_reply (shape_of One keys) (state_of is_open held.map) (Some command)) × (state_of then held.map ≡ plain_after (shape_of One keys) (state_of is_open held.map) (Some command)))
      → Turned t memory_home k state (Some command) result (record { table = held; is_open = is_open }) (record { table = held; is_open = then }) sink sink' steps steps (turn_of command answer 0)
  session-turned held command is_open then sink sink' steps answer wrote kind cut cause plain = record {
    asks = refl;
    wrote = wrote;
    counted = omega arith;
    within = omega arith;
    faults = subst (λ (x : Kind). KindFaults x 0 0) (sym kind) refl;
    cause = cause;
    keeps = refl;
    cut_off = cut;
    leads = λ keys at. record {
      next = state_of then held.map;
      step = subst (λ (s : State). Step (shape_of One keys) s (turn_of command answer 0) (state_of then held.map)) (sym at.1) (plain-step (shape_of One keys) (state_of is_open held.map) (state_of then held.map) (turn_of command answer 0) kind (plain keys));
      at = (at.0, refl);
    };
  }

  pub close-turned : (held : Flat) (is_open : Bool) (sink sink' : K) (steps : ℕ) (says : Reply) → says ≡ close_answer is_open → Wrote (reply_text false 0 says) result (k.written sink) (k.written sink')
      → Turned t memory_home k state (Some Close) result (record { table = held; is_open = is_open }) (record { table = held; is_open = false }) sink sink' steps steps (turn_of Close (close_answer is_open) 0)
  close-turned held true sink sink' steps says is wrote =
      session-turned held Close true false sink sink' steps reply.Closed (subst (λ (r : Reply). Wrote (reply_text false 0 r) result (k.written sink) (k.written sink')) is wrote) refl refl (refl, refl) (λ keys. (refl, refl))
  close-turned held false sink sink' steps says is wrote =
      session-turned held Close false false sink sink' steps reply.Already (subst (λ (r : Reply). Wrote (reply_text false 0 r) result (k.written sink) (k.written sink')) is wrote) refl refl (refl, refl) (λ keys. (refl, refl))

  pub open-turned : (held : Flat) (is_open : Bool) (sink sink' : K) (steps : ℕ) (says : Reply) → says ≡ open_answer is_open held.map → Wrote (reply_text false 0 says) result (k.written sink) (k.written sink')
      → Turned t memory_home k state (Some Reopen) result (record { table = held; is_open = is_open }) (record { table = held; is_open = true }) sink sink' steps steps (turn_of Reopen (open_answer is_open held.map) 0)
  open-turned held true sink sink' steps says is wrote =
      session-turned held Reopen true true sink sink' steps reply.Already (subst (λ (r : Reply). Wrote (reply_text false 0 r) result (k.written sink) (k.written sink')) is wrote) refl refl (refl, refl) (λ keys. (refl, refl))
  open-turned held false sink sink' steps says is wrote =
      session-turned held Reopen false true sink sink' steps (reply.Opened (count held.map)) (subst (λ (r : Reply). Wrote (reply_text false 0 r) result (k.written sink) (k.written sink')) is wrote) refl refl (refl, refl) (λ keys. (refl, refl))

  module _ (command : code.Command) (of_table : IsOfTable command) (old : MemorySession) (sink sink' : K) (steps : ℕ) where
    -- a command of a table is shut out while the session is closed
    pub shut-turned : old.is_open ≡ false → Wrote (reply_text false 0 reply.Shut) result (k.written sink) (k.written sink') → Turned t memory_home k state (Some (spoken command)) result old old sink sink' steps steps (turn_of (spoken command) reply.Shut 0)
    shut-turned is wrote =
        subst (λ (s : MemorySession). Turned t memory_home k state (Some (spoken command)) result s s sink sink' steps steps (turn_of (spoken command) reply.Shut 0)) (ap (λ (b : Bool). record { table = old.table; is_open = b }) (sym is))
        (session-turned old.table (spoken command) false false sink sink' steps reply.Shut wrote refl (cut-table command of_table reply.Shut false) (by-table _ _ command of_table (refl, refl)) (λ keys. shut-closed command of_table (shape_of One keys) old.table.map 0))

    -- and answered by the table while it is open
    pub ask-turned : (steps' : ℕ) (after : Flat) → old.is_open ≡ true → (turn : Turn) → turn.request ≡ Some (spoken command) → Wrote (turn_text false turn) result (k.written sink) (k.written sink') → steps' ≡ steps + turn.ticks → steps' ≤ steps + command_bound (t.terms old.table).depth (spoken command)
        → KindFaults (kind_of turn.answer) 0 0 → Given t k (spoken command) result old.table sink turn after sink' → after.limit ≡ old.table.limit → (map_of state ≡ old.table.map → StepsFrom (shape_of One old.table.limit) (map_of state) (λ (m : Map). m ≡ after.map) turn)
        → Turned t memory_home k state (Some (spoken command)) result old (record { table = after; is_open = old.is_open }) sink sink' steps steps' turn
    ask-turned steps' after is turn asks wrote counted within faults given limit step = record {
      asks = asks;
      wrote = wrote;
      counted = counted;
      within = subst (λ (b : Bool). turn.ticks ≤ request_bound (depth_in t (table_in b old.table)) (Some (spoken command))) (sym is) (omega (arith, counted, within));
      faults = faults;
      cause = by-table _ _ command of_table (subst (λ (b : Bool). Asked t memory_home k (table_in b old.table) (spoken command) result old sink turn (record { table = after; is_open = old.is_open }) sink') (sym is) (after, (given, refl)));
      keeps = limit;
      cut_off = cut-table command of_table turn.answer false;
      leads = λ keys at.
          let here : state ≡ Open old.table.map = at.1 ∙ ap (λ (b : Bool). state_of b old.table.map) is in
          let s = step (ap map_of here) in
          record {
            next = Open s.next;
            step = subst (λ (x : State). Step (shape_of One keys) x turn (Open s.next)) (ap Open (ap map_of here) ∙ sym here) (subst (λ (n : ℕ). Step (shape_of One n) (Open (map_of state)) turn (Open s.next)) at.0 s.step);
            at = (limit ∙ at.0, ap Open s.holds ∙ sym (ap (λ (b : Bool). state_of b after.map) is));
          };
    }
