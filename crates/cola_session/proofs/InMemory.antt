-- A session over a table in memory: no fault can come, so each turn is the plain one.
use Rattle.std.specs.Prelude.{take, sum_by, IsSomeAnd}
use Rattle.std.proofs.Common.{◌≡◌, ℕ, ◌+◌, ◌<◌, ◌≤◌, Bool, true, false, List, [], ◌∷◌, ◌++◌, length, Option, Some, None, Result, Ok, Err, refl, sym, ap, ◌∙◌, subst, append-nil, length-append, arith}
use Rattle.std.proofs.lemmas.Grind.{flat_map-append}
use Rattle.std.proofs.lemmas.List.Sums.{sum_by-append}
use Rattle.cola_cell.specs.declared.format.Format.TheVariants.{One}
use Rattle.cola_io.specs.Streams.{Taken, Appended}
use Rattle.cola_io.specs.declared.sink.Sink as sink
use Rattle.cola_io.specs.declared.sink.SinkFault.{SinkFault}
use Rattle.cola_io.proofs.StreamLemmas.{Appended-none, Appended-then}
use Rattle.cola_spec.specs.Map.{Shape, Map, empty_map}
use Rattle.cola_spec.specs.Map as map
use Rattle.cola_spec.specs.Lines.{Line}
use Rattle.cola_spec.specs.Command.{Command, line_requests}
use Rattle.cola_spec.specs.Reply as reply
use Rattle.cola_spec.specs.Reply.{Reply, reply_text}
use Rattle.cola_spec.specs.Machine.{State, Open, Turn, Kind, PlainStep, FaultedStep, ShortStep, StepOf, kind_of, plain_reply, plain_after, plain_turn, plain_turns, plain_last, turn_text, turns_text, ticks_of}
use Rattle.cola_spec.specs.Bounds.{request_bound}
use Rattle.cola_table.specs.declared.table.Table as table
use Rattle.cola_table.specs.Flat.{Flat}
use Rattle.cola_shapes.specs.Shapes.{shape_of}
use Rattle.cola_line.specs.Replied.{KindFaults}
use Rattle.cola_line.proofs.Listing.{take_beyond}
use Rattle.cola_session.specs.declared.memory.MemorySession.{MemorySession}
use Rattle.cola_session.specs.Home.{Point, point, depth_in, Cause, LineLeads, LinesLead, AllLead, FrontLead}
use Rattle.cola_session.specs.Memory.{memory_home, table_in, open_answer, asked, replies, lines_bound, StepsWithin, Replied, RepliedFront}
use Rattle.cola_session.specs.Reading.{input_limit}
use Rattle.cola_session.proofs.CutOff.{only-reopened}
use Rattle.cola_session.proofs.Leading.{led-by}

-- Turns

-- with no cost asked for, the ticks do not show
costless : (answer : Reply) (ticks : ℕ) → reply_text false ticks answer ≡ reply_text false 0 answer
costless (reply.Put map.New) ticks = refl
costless (reply.Put (map.Old value)) ticks = refl
costless (reply.Put map.Full) ticks = refl
costless (reply.Put map.Worn) ticks = refl
costless (reply.Put (map.Other stamp)) ticks = refl
costless (reply.Deleted value) ticks = refl
costless (reply.Got value) ticks = refl
costless (reply.Stamped stamp) ticks = refl
costless (reply.Rows rows) ticks = refl
costless (reply.Cut rows failure) ticks = refl
costless (reply.Counted keys) ticks = refl
costless (reply.Failed failure) ticks = refl
costless reply.Closed ticks = refl
costless (reply.Opened keys) ticks = refl
costless (reply.Refused refusal) ticks = refl
costless reply.Already ticks = refl
costless reply.Shut ticks = refl
costless reply.Bad ticks = refl

plain_turns-append : (shape : Shape) (state : State) (a b : List (Option Command)) → plain_turns shape state (a ++ b) ≡ plain_turns shape state a ++ plain_turns shape (plain_last shape state a) b
plain_turns-append shape state [] b = refl
plain_turns-append shape state (request ∷ a) b = ap (λ t. plain_turn shape state request ∷ t) (plain_turns-append shape (plain_after shape state request) a b)

plain_last-append : (shape : Shape) (state : State) (a b : List (Option Command)) → plain_last shape state (a ++ b) ≡ plain_last shape (plain_last shape state a) b
plain_last-append shape state [] b = refl
plain_last-append shape state (request ∷ a) b = plain_last-append shape (plain_after shape state request) a b

-- an answer to `open` is never short of memory
opened-plain : (is_open : Bool) (m : Map) → kind_of (open_answer is_open m) ≡ PlainStep
opened-plain true m = refl
opened-plain false m = refl

module _ {W K : Type 0} (t : table.Ghosts Flat W) (flat : (table : Flat) → (t.terms table).depth ≡ 0) (k : sink.Ghosts K) (keys : ℕ) where
  abbrev maps : Shape
  maps = shape_of One keys

  -- a step whose count of faults stays 0 is plain
  plain-step : (result : Result (Unit {0}) SinkFault) (old new : MemorySession) (sink sink' : K) (state next : State) (turn : Turn) (kind : Kind) → kind_of turn.answer ≡ kind → StepOf maps state turn next kind → KindFaults kind 0 0
      → Cause t memory_home k turn.request result old sink turn new sink' → (turn.answer ≡ plain_reply maps state turn.request) × (next ≡ plain_after maps state turn.request)
  plain-step result old new sink sink' state next turn PlainStep is step faults cause = step
  plain-step result old new sink sink' state next turn FaultedStep is step faults cause = absurd (omega arith)
  plain-step result old new sink sink' state next turn ShortStep is step faults cause =
      let opened = subst (λ (r : Option Command). Cause t memory_home k r result old sink turn new sink') (only-reopened state turn.request next step).0 cause in
      absurd (never (sym (ap kind_of opened.0 ∙ opened-plain old.is_open old.table.map) ∙ is))
    where
      never : PlainStep ≡ ShortStep → ⊥
      never same = cc

  flat-bound : (is_open : Bool) (held : Flat) (request : Option Command) (n : ℕ) → n ≤ request_bound (depth_in t (table_in is_open held)) request → n ≤ request_bound 0 request
  flat-bound true held request n within = subst (λ (depth : ℕ). n ≤ request_bound depth request) (flat held) within
  flat-bound false held request n within = within

  -- turns are the plain ones to requests
  record ArePlain (requests : List (Option Command)) (turns : List Turn) (state next : State) : Type 0 where
    text_is : turns_text false turns ≡ turns_text false (plain_turns maps state requests)
    after : next ≡ plain_last maps state requests
    within : ticks_of turns ≤ sum_by (request_bound 0) requests

  line-plain : (line : Line) (result : Result (Unit {0}) SinkFault) (turns : List Turn) (old new : Point MemorySession K) → LineLeads t memory_home k (Some keys) line result turns old new → ArePlain (line_requests maps line) turns old.state new.state
  line-plain line result [] old new c = subst (λ (rs : List (Option Command)). ArePlain rs [] old.state new.state) (c.asks keys) (record { text_is = refl; after = c.runs; within = omega arith })
  line-plain line result (turn ∷ []) old new c =
      let faults : KindFaults (kind_of turn.answer) 0 0 = subst (λ (n : ℕ). KindFaults (kind_of turn.answer) 0 n) (sym c.faults.1.1) c.faults.1.0 in
      let plain = plain-step result old.home new.home old.sink new.sink old.state c.runs.0 turn (kind_of turn.answer) refl c.runs.1 faults c.cause in
      let bound = flat-bound old.home.is_open old.home.table turn.request turn.ticks (c.within 0 turn (omega arith)) in
      subst (λ (rs : List (Option Command)). ArePlain rs (turn ∷ []) old.state new.state) (c.asks keys)
      (record {
        text_is = ap (λ (text : List ℕ). text ++ []) (costless turn.answer turn.ticks ∙ ap (reply_text false 0) plain.0);
        after = c.runs.2 ∙ plain.1;
        within = omega (arith, bound);
      })
  line-plain line result (turn ∷ next ∷ turns) old new c = absurd c.cause

  -- Lines

  asked-then : (lines : List Line) (line : Line) → asked keys (lines ++ line ∷ []) ≡ asked keys lines ++ line_requests maps line
  asked-then lines line = flat_map-append (line_requests maps) lines (line ∷ []) ∙ ap (λ (rs : List (Option Command)). asked keys lines ++ rs) (append-nil (line_requests maps line))

  replies-then : (lines : List Line) (line : Line) → replies keys (lines ++ line ∷ []) ≡ replies keys lines ++ turns_text false (plain_turns maps (plain_last maps (Open empty_map) (asked keys lines)) (line_requests maps line))
  replies-then lines line =
      ap (λ (rs : List (Option Command)). turns_text false (plain_turns maps (Open empty_map) rs)) (asked-then lines line)
      ∙ ap (turns_text false) (plain_turns-append maps (Open empty_map) (asked keys lines) (line_requests maps line))
      ∙ flat_map-append (turn_text false) (plain_turns maps (Open empty_map) (asked keys lines)) (plain_turns maps (plain_last maps (Open empty_map) (asked keys lines)) (line_requests maps line))

  bound-then : (lines : List Line) (line : Line) → lines_bound keys (lines ++ line ∷ []) ≡ lines_bound keys lines + sum_by (request_bound 0) (line_requests maps line)
  bound-then lines line = ap (sum_by (request_bound 0)) (asked-then lines line) ∙ sum_by-append (request_bound 0) (asked keys lines) (line_requests maps line)

  module _ (sink : K) (steps : ℕ) where
    -- lines were answered so far
    record SoFar (lines : List Line) (turns : List Turn) (now : Point MemorySession K) : Type 0 where
      replied : Replied k keys sink now.sink steps now.steps lines
      state_is : now.state ≡ plain_last maps (Open empty_map) (asked keys lines)

    module _ (lines : List Line) (turns late : List Turn) (line : Line) (result : Result (Unit {0}) SinkFault) (mid now : Point MemorySession K) (before : SoFar lines turns mid) (c : LineLeads t memory_home k (Some keys) line result late mid now) where
      plain : ArePlain (line_requests maps line) late mid.state now.state
      plain = line-plain line result late mid now c

      text : replies keys (lines ++ line ∷ []) ≡ replies keys lines ++ turns_text false late
      text = replies-then lines line
          ∙ ap (λ (s : State). replies keys lines ++ turns_text false (plain_turns maps s (line_requests maps line))) (sym before.state_is) ∙ ap (λ (xs : List ℕ). replies keys lines ++ xs) (sym plain.text_is)

      cells : StepsWithin (lines_bound keys (lines ++ line ∷ [])) steps now.steps
      cells =
          let b = before.replied.cells in
          let counted = c.counted in
          let few = plain.within in
          let whole = bound-then lines line in
          record { kept = omega (arith, b.kept, counted); within = omega (arith, b.within, counted, few, whole) }

    one-more : (lines : List Line) (turns late : List Turn) (line : Line) (mid now : Point MemorySession K) → SoFar lines turns mid → LineLeads t memory_home k (Some keys) line (Ok tt) late mid now → SoFar (lines ++ line ∷ []) (turns ++ late) now
    one-more lines turns late line mid now before c =
        let p = plain lines turns late line (Ok tt) mid now before c in
        record {
          replied = record {
            wrote = subst (λ (xs : List ℕ). Appended xs (k.written sink) (k.written now.sink)) (sym (text lines turns late line (Ok tt) mid now before c))
                (Appended-then (replies keys lines) (turns_text false late) (k.written sink) (k.written mid.sink) (k.written now.sink) before.replied.wrote c.wrote);
            cells = cells lines turns late line (Ok tt) mid now before c;
          };
          state_is = p.after ∙ ap (λ (s : State). plain_last maps s (line_requests maps line)) before.state_is
              ∙ sym (ap (plain_last maps (Open empty_map)) (asked-then lines line) ∙ plain_last-append maps (Open empty_map) (asked keys lines) (line_requests maps line));
        }

    module _ (first : MemorySession) where
      abbrev start : Point MemorySession K
      start = point first sink steps (Open empty_map)

      so-far : (lines : List Line) (turns : List Turn) (now : Point MemorySession K) → LinesLead t memory_home k (Some keys) lines turns start now → SoFar lines turns now
      so-far = led-by t memory_home k (Some keys) SoFar one-more [] [] start (record { replied = record { wrote = Appended-none (k.written sink); cells = record { kept = omega arith; within = omega arith } }; state_is = refl })

      module _ (at : memory_home.at keys first (Open empty_map)) (now : MemorySession) (sink' : K) (steps' : ℕ) where
        pub replied : (lines : List Line) → AllLead t memory_home k first now sink sink' steps steps' lines → Replied k keys sink sink' steps steps' lines
        replied lines all = let led = all (Some keys) (Open empty_map) at in (so-far lines led.1.0 (point now sink' steps' led.0) led.1.1).replied

        pub replied-front : (before : List Line) (last : Line) → FrontLead t memory_home k first now sink sink' steps steps' before last → RepliedFront k keys sink sink' steps steps' before last
        replied-front before last all =
            let led = all (Some keys) (Open empty_map) at in
            let f = led.1.1 in
            let old = so-far before f.earlier f.mid f.led in
            let to : Point MemorySession K = point now sink' steps' led.0 in
            let n = f.in_last.wrote.0 in
            record {
              wrote = record {
                size = length (replies keys before) + n;
                least_is = omega arith;
                wrote = subst (λ (xs : List ℕ). Appended xs (k.written sink) (k.written sink'))
                    (sym (ap (take (length (replies keys before) + n)) (text before f.earlier f.late last (Err f.fault) f.mid to old f.in_last) ∙ take_beyond (replies keys before) (turns_text false f.late) n))
                    (Appended-then (replies keys before) (take n (turns_text false f.late)) (k.written sink) (k.written f.mid.sink) (k.written sink') old.replied.wrote f.in_last.wrote.1);
              };
              cells = cells before f.earlier f.late last (Err f.fault) f.mid to old f.in_last;
            }

-- Reads

pub taken_of : (taken : List ℕ) (left left' : Option (List ℕ)) → IsSomeAnd left (λ bytes. length bytes < input_limit) → Taken taken left left' → length taken < input_limit
taken_of taken None left' few moved = absurd few
taken_of taken (Some bytes) None few moved = absurd moved
taken_of taken (Some bytes) (Some rest) few moved =
    let whole : length bytes ≡ length (taken ++ rest) = ap length moved in
    omega (arith, length-append taken rest, few)
