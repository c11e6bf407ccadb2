-- A source that is read line by line: what was taken and told so far, and how that ends.
use Rattle.std.proofs.Common.{◌≡◌, inl, inr, ℕ, ◌+◌, ◌<◌, ◌||◌, Bool, true, false, List, [], ◌∷◌, ◌++◌, length, Option, refl, sym, ap, ◌∙◌, subst, length-append, append-nil, arith}
use Rattle.std.specs.Option.{is_some}
use Rattle.std.proofs.lemmas.Bool.{false≢true}
use Rattle.cola_io.specs.Streams.{Taken}
use Rattle.cola_io.specs.Counted.{after_fault}
use Rattle.cola_io.specs.Reading.{Reading, fresh}
use Rattle.cola_io.specs.Reads.{Read, bytes_read, WasRead, GaveSome, was_refused, met_end}
use Rattle.cola_io.specs.NextLine.{NextLine, FirstLine}
use Rattle.cola_io.specs.Calling.{Calls, is_fault, faults_after}
use Rattle.cola_io.specs.declared.source.Source as source
use Rattle.cola_io.specs.declared.sink.Sink as sink
use Rattle.cola_io.specs.declared.next.Next.{Next}
use Rattle.cola_io.specs.declared.next.Next.TheVariants as next
use Rattle.cola_io.specs.Law.{HasRead, Tells, line_told, all_ended_lines}
use Rattle.cola_io.proofs.StreamLemmas.{Taken-none, Taken-then}
use Rattle.cola_io.proofs.LineLaws.{HasRead-fresh, HasRead-then, told-last}
use Rattle.cola_io.proofs.ReadLemmas.{bytes_read-append, WasRead-append}
use Rattle.cola_spec.specs.Lines.{Line}
use Rattle.cola_session.specs.Reading.{input_limit, HoldsLine, ReadFor, AreFirstLines}
use Rattle.cola_session.specs.Ends.{ReadToEnd, SourceFailed, SinkFailed, Spent}
use Rattle.cola_session.proofs.Joined.{settled_at_end, met_end_joined, was_refused_joined, at_end_joined, gave_some_joined, due_joined, due_answered}

-- so far: these reads were made, and these lines told
pub record ReadSoFar {S : Type 0} (g : source.Ghosts S) (source source' : S) (reader : Reading) (reads : List Read) (told : List Line) : Type 0 where
  pub read_for : ReadFor g told source reads source'
  pub ended : reader.ended ≡ met_end reads
  pub unrefused : was_refused reads ≡ false
  pub gave_some : reader.ended ≡ false → GaveSome reads
  pub has_read : HasRead input_limit (bytes_read reads) told reader
  pub source_faults : g.faults source' ≡ g.faults source

pub read_none : {S : Type 0} (g : source.Ghosts S) (source : S) → ReadSoFar g source source (fresh input_limit) [] []
read_none g source = record {
  read_for = record { was_read = refl; due = tt; took = Taken-none (g.left source); at_end = λ e. cc };
  ended = refl;
  unrefused = refl;
  gave_some = λ _. tt;
  has_read = HasRead-fresh input_limit;
  source_faults = refl;
}

left_false : (a b : Bool) → (a || b) ≡ false → a ≡ false
left_false true b e = e
left_false false b e = refl

right_false : (a b : Bool) → (a || b) ≡ false → b ≡ false
right_false true b e = absurd (false≢true (sym e))
right_false false b e = e

-- One more call of the reader
module _ {S : Type 0} (g : source.Ghosts S) (source source' source'' : S) (old new : Reading) (reads : List Read) (told : List Line) (answer : Next) (so_far : ReadSoFar g source source' old reads told) (call : Calls g old source' answer new source'') where
  none_at_end : old.ended ≡ true → call.reads ≡ []
  none_at_end ended = call.asks.none (settled_at_end old ended)

  bytes : bytes_read (call.reads ++ reads) ≡ bytes_read reads ++ bytes_read call.reads
  bytes = bytes_read-append call.reads reads

  -- what was read for the lines told
  pub read_on : ReadFor g told source (call.reads ++ reads) source''
  read_on = record {
    was_read = WasRead-append g call.reads reads source source' source'' so_far.read_for.was_read call.was_read;
    due = due_joined told old call.reads reads so_far.has_read none_at_end so_far.gave_some call.asks.due so_far.read_for.due;
    took = subst (λ t. Taken t (g.left source) (g.left source'')) (sym bytes) (Taken-then (bytes_read reads) (bytes_read call.reads) (g.left source) (g.left source') (g.left source'') so_far.read_for.took call.took);
    at_end = at_end_joined (g.left source') (g.left source'') call.reads reads (λ none. ap g.left (stays call.reads none call.was_read)) so_far.read_for.at_end call.at_end;
  }
    where
      stays : (later : List Read) → later ≡ [] → WasRead g source' later source'' → source'' ≡ source'
      stays later none was = subst (λ l. WasRead g source' l source'') none was

  pub ended_on : new.ended ≡ met_end (call.reads ++ reads)
  ended_on = met_end_joined old.ended new.ended call.reads reads call.asks.ended so_far.ended none_at_end

  pub refused_on : was_refused (call.reads ++ reads) ≡ is_fault answer
  refused_on = was_refused_joined (is_fault answer) call.reads reads call.asks.refused so_far.unrefused

  pub has_read_on : HasRead input_limit (bytes_read (call.reads ++ reads)) (told ++ line_told answer new.line) new
  has_read_on = subst (λ t. HasRead input_limit t (told ++ line_told answer new.line) new) (sym bytes) (HasRead-then input_limit (bytes_read reads) (bytes_read call.reads) told answer old new so_far.has_read call.line)

  pub tells : Tells input_limit told (bytes_read (call.reads ++ reads)) answer
  tells = subst (λ t. Tells input_limit told t answer) (sym bytes) (told-last input_limit (bytes_read reads) (bytes_read call.reads) told answer old new so_far.has_read call.line)

  gave_some_on : is_fault answer ≡ false → new.ended ≡ false → GaveSome (call.reads ++ reads)
  gave_some_on no_fault going =
      let before : old.ended ≡ false = left_false old.ended (met_end call.reads) (sym call.asks.ended ∙ going) in
      gave_some_joined _ old.allowed call.reads reads call.asks.due (call.asks.refused ∙ no_fault) (right_false old.ended (met_end call.reads) (sym call.asks.ended ∙ going)) (so_far.gave_some before)

  -- one more line
  pub read_line : (line : Line) → line ∷ [] ≡ line_told answer new.line → is_fault answer ≡ false → g.faults source'' ≡ g.faults source' → ReadSoFar g source source'' new (call.reads ++ reads) (told ++ line ∷ [])
  read_line line is no_fault source_stays = record {
    read_for = record { was_read = read_on.was_read; due = due_answered told (line ∷ []) (call.reads ++ reads) read_on.due; took = read_on.took; at_end = read_on.at_end };
    ended = ended_on;
    unrefused = refused_on ∙ no_fault;
    gave_some = gave_some_on no_fault;
    has_read = subst (λ t. HasRead input_limit (bytes_read (call.reads ++ reads)) (told ++ t) new) (sym is) has_read_on;
    source_faults = source_stays ∙ so_far.source_faults;
  }

  -- the lines told so far, and this one, are first lines of the bytes taken
  first_lines : (line : Line) → line ∷ [] ≡ line_told answer new.line → AreFirstLines (told ++ line ∷ []) (call.reads ++ reads)
  first_lines line is = by_end new.ended refl
    where
      taken : List ℕ
      taken = bytes_read (call.reads ++ reads)

      now : HasRead input_limit taken (told ++ line ∷ []) new
      now = subst (λ t. HasRead input_limit taken (told ++ t) new) (sym is) has_read_on

      by_end : (ended : Bool) → new.ended ≡ ended → AreFirstLines (told ++ line ∷ []) (call.reads ++ reads)
      by_end true e = inr (sym ended_on ∙ e, now.all_told e)
      by_end false e = inl (all_ended_lines (new.pending ++ []), sym (now.going_ended e []) ∙ ap all_ended_lines (append-nil taken))

  -- the sink failed within the reply
  pub ends_by_sink : {K : Type 0} (h : sink.Ghosts K) (sink sink' : K) (C : List Line → Line → Type 0) (line : Line) → line ∷ [] ≡ line_told answer new.line → is_fault answer ≡ false → C told line
      → g.faults source'' ≡ g.faults source' → h.faults sink' ≡ after_fault (h.faults sink) → SinkFailed g h source source'' sink sink' C
  ends_by_sink h sink sink' C line is no_fault carried source_stays sink_rose = record {
    reads = call.reads ++ reads;
    before = told;
    last = line;
    first = first_lines line is;
    read = read_on;
    unrefused = refused_on ∙ no_fault;
    at_most = omega (arith, has_read_on.counted);
    carried = carried;
    source_faults = source_stays ∙ so_far.source_faults;
    sink_faults = sink_rose;
  }

-- How it ends
module _ {S K : Type 0} (g : source.Ghosts S) (h : sink.Ghosts K) (source source' source'' : S) (sink sink' : K) (old new : Reading) (reads : List Read) (told : List Line) (C : List Line → Type 0)
    (so_far : ReadSoFar g source source' old reads told) (carried : C told) (sink_stays : h.faults sink' ≡ h.faults sink) where
  -- the end of the source
  pub ends_whole : (call : Calls g old source' next.End new source'') → g.faults source'' ≡ g.faults source' → ReadToEnd g h source source'' sink sink' C
  ends_whole call stays = record {
    reads = call.reads ++ reads;
    lines = told;
    all = (tells g source source' source'' old new reads told next.End so_far call).0;
    read = read_on g source source' source'' old new reads told next.End so_far call;
    met_the_end = sym (ended_on g source source' source'' old new reads told next.End so_far call) ∙ call.line.answered.at_end;
    fewer = (tells g source source' source'' old new reads told next.End so_far call).1;
    carried = carried;
    source_faults = stays ∙ so_far.source_faults;
    sink_faults = sink_stays;
  }

  -- a fault of the source
  pub ends_by_source : (call : Calls g old source' next.Fault new source'') → g.faults source'' ≡ after_fault (g.faults source') → SourceFailed g h source source'' sink sink' C
  ends_by_source call rose = record {
    reads = call.reads ++ reads;
    lines = told;
    ended = tells g source source' source'' old new reads told next.Fault so_far call;
    read = read_on g source source' source'' old new reads told next.Fault so_far call;
    refused = refused_on g source source' source'' old new reads told next.Fault so_far call;
    fewer = omega (arith, (has_read_on g source source' source'' old new reads told next.Fault so_far call).counted, call.line.answered.1);
    carried = carried;
    source_faults = rose ∙ ap after_fault so_far.source_faults;
    sink_faults = sink_stays;
  }

  -- all bytes that may be taken were taken
  pub ends_spent : (call : Calls g old source' next.Budget new source'') → g.faults source'' ≡ g.faults source' → Spent g h source source'' sink sink' C
  ends_spent call stays =
      let last = tells g source source' source'' old new reads told next.Budget so_far call in
      record {
        reads = call.reads ++ reads;
        lines = told;
        ended = last.0;
        read = read_on g source source' source'' old new reads told next.Budget so_far call;
        unrefused = refused_on g source source' source'' old new reads told next.Budget so_far call;
        all = last.1;
        carried = carried;
        source_faults = stays ∙ so_far.source_faults;
        sink_faults = sink_stays;
      }

-- The reader

-- a line that was answered is held
pub holds_line : (old new : Reading) (took : List ℕ) (answer : Next) → NextLine old took answer new → (answer ≡ next.End → ⊥) → (answer ≡ next.Fault → ⊥) → (answer ≡ next.Budget → ⊥) → HoldsLine answer new.line
holds_line old new took next.Line step a b c = ap is_some step.answered.3
holds_line old new took next.TooLong step a b c = tt
holds_line old new took next.End step a b c = a refl
holds_line old new took next.Fault step a b c = b refl
holds_line old new took next.Budget step a b c = c refl

-- and is no fault
pub line_no_fault : (answer : Next) (held : Option (List ℕ)) → HoldsLine answer held → is_fault answer ≡ false
line_no_fault next.Line held holds = refl
line_no_fault next.TooLong held holds = refl
line_no_fault next.End held holds = absurd holds
line_no_fault next.Fault held holds = absurd holds
line_no_fault next.Budget held holds = absurd holds

-- so the count of faults stays
pub line_faults : (answer : Next) (held : Option (List ℕ)) (before now : ℕ) → HoldsLine answer held → now ≡ faults_after answer before → now ≡ before
line_faults next.Line held before now holds same = same
line_faults next.TooLong held before now holds same = same
line_faults next.End held before now holds same = absurd holds
line_faults next.Fault held before now holds same = absurd holds
line_faults next.Budget held before now holds same = absurd holds

some_length : (xs : List ℕ) → (xs ≡ [] → ⊥) → 0 < length xs
some_length [] some = absurd (some refl)
some_length (x ∷ xs) some = omega arith

fewer : (old new : Reading) (took raw : List ℕ) → new.allowed + length took ≡ old.allowed → FirstLine (old.pending ++ took) raw new → new.allowed + length new.pending < old.allowed + length old.pending
fewer old new took raw counted (inl fed) =
    let whole : length (old.pending ++ took) ≡ length (raw ++ 10 ∷ new.pending) = ap length fed.whole in
    omega (arith, length-append old.pending took, length-append raw (10 ∷ new.pending))
fewer old new took raw counted (inr last) =
    let whole : length (old.pending ++ took) ≡ length raw = ap length last.whole in
    let none : length new.pending ≡ 0 = ap length last.nothing_left in
    omega (arith, length-append old.pending took, some_length raw last.some)

-- the bytes still to be used, or taken, grow fewer with each line
pub fewer_left : (old new : Reading) (took : List ℕ) (answer : Next) → NextLine old took answer new → HoldsLine answer new.line → new.allowed + length new.pending < old.allowed + length old.pending
fewer_left old new took next.Line step holds = fewer old new took step.answered.0 step.counted step.answered.1
fewer_left old new took next.TooLong step holds = fewer old new took step.answered.0 step.counted step.answered.1
fewer_left old new took next.End step holds = absurd holds
fewer_left old new took next.Fault step holds = absurd holds
fewer_left old new took next.Budget step holds = absurd holds
