-- The reads of a session, and those of one more call of its reader.
use Rattle.std.proofs.Common.{◌≡◌, ℕ, ◌<◌, ◌||◌, Bool, true, false, nat_eq, List, [], ◌∷◌, ◌++◌, length, map, Option, Some, None, is_none, unwrap_or, refl, sym, ap, ◌∙◌, subst, length-append, append-nil, arith}
use Rattle.std.specs.List.{list_any}
use Rattle.std.specs.Io.KnownBytes.{IsAtEnd}
use Rattle.std.proofs.lemmas.Bool.{false≢true}
use Rattle.cola_io.specs.Reading.{Reading}
use Rattle.cola_io.specs.Buffered.{HasNoFeed}
use Rattle.cola_io.specs.Reads.{Read, bytes_read, GaveSome, AreDue, was_refused, met_end, is_end}
use Rattle.cola_io.specs.NextLine.{is_settled}
use Rattle.cola_io.specs.Law.{HasRead, all_ended_lines}
use Rattle.cola_io.proofs.LineLaws.{ended_lines-last}
use Rattle.cola_io.proofs.ReadLemmas.{AreDue-append, AreDue-wanted, GaveSome-append}
use Rattle.cola_spec.specs.Lines.{Line, line_of, is_line_feed}
use Rattle.cola_session.specs.Reading.{AllAnswered, input_limit}

or_true : (b : Bool) → (b || true) ≡ true
or_true true = refl
or_true false = refl

or_false : (b : Bool) → (b || false) ≡ b
or_false true = refl
or_false false = refl

-- a reader whose source is at its end needs no further byte
pub settled_at_end : (r : Reading) → r.ended ≡ true → is_settled r ≡ true
settled_at_end r ended = ap (λ b. (list_any is_line_feed r.pending || b) || nat_eq r.allowed 0) ended ∙ ap (λ b. b || nat_eq r.allowed 0) (or_true (list_any is_line_feed r.pending))

-- the last read met the end exactly where the reader knows it
pub met_end_joined : (old new : Bool) (later earlier : List Read) → new ≡ (old || met_end later) → old ≡ met_end earlier → (old ≡ true → later ≡ []) → new ≡ met_end (later ++ earlier)
met_end_joined old new [] earlier is before none = is ∙ or_false old ∙ before
met_end_joined true new (read ∷ later) earlier is before none = absurd (never (none refl))
  where
    never : {read : Read} {later : List Read} → read ∷ later ≡ [] → ⊥
    never e = cc
met_end_joined false new (read ∷ later) earlier is before none = is

-- the last read was refused exactly where the answer was a fault
pub was_refused_joined : (fault : Bool) (later earlier : List Read) → was_refused later ≡ fault → was_refused earlier ≡ false → was_refused (later ++ earlier) ≡ fault
was_refused_joined fault [] earlier is before = before ∙ is
was_refused_joined fault (read ∷ later) earlier is before = is

-- at the end of the source
pub at_end_joined : (left left' : Option (List ℕ)) (later earlier : List Read) → (later ≡ [] → left' ≡ left) → (met_end earlier ≡ true → IsAtEnd left) → (met_end later ≡ true → IsAtEnd left') → met_end (later ++ earlier) ≡ true → IsAtEnd left'
at_end_joined left left' [] earlier stays before now end = subst IsAtEnd (sym (stays refl)) (before end)
at_end_joined left left' (read ∷ later) earlier stays before now end = now end

some_given : (gave : Option (List ℕ)) → is_none gave ≡ false → is_end gave ≡ false → 0 < length (unwrap_or gave [])
some_given None refused end = absurd (false≢true (sym refused))
some_given (Some []) refused end = absurd (false≢true (sym end))
some_given (Some (byte ∷ bytes)) refused end = omega arith

-- where no read was refused or met the end, each of them gave some bytes
pub gave_some_joined : (Wanted : List ℕ → Type 0) (allowed : ℕ) (later earlier : List Read) → AreDue Wanted allowed later → was_refused later ≡ false → met_end later ≡ false → GaveSome earlier → GaveSome (later ++ earlier)
gave_some_joined Wanted allowed [] earlier due refused end before = before
gave_some_joined Wanted allowed (read ∷ later) earlier due refused end before = (some_given read.gave refused end, GaveSome-append later earlier due.0.gave_some before)

-- where a reader has no whole line left, every line that has ended was told
all_told : (limit : ℕ) (taken bytes : List ℕ) (told : List Line) (now : Reading) → HasRead limit taken told now → now.ended ≡ false → HasNoFeed (now.pending ++ bytes) → AllAnswered told (taken ++ bytes)
all_told limit taken bytes told now read going no_feed =
    let none : all_ended_lines (now.pending ++ bytes) ≡ [] = ap (map line_of) (ended_lines-last (now.pending ++ bytes) no_feed) in
    let same : all_ended_lines (taken ++ bytes) ≡ told = read.going_ended going bytes ∙ ap (λ t. told ++ t) none ∙ append-nil told in
    omega (arith, ap length same)

-- the reads of a call come where every line that has ended is answered
pub due_joined : (told : List Line) (now : Reading) (later earlier : List Read) → HasRead input_limit (bytes_read earlier) told now → (now.ended ≡ true → later ≡ []) → (now.ended ≡ false → GaveSome earlier)
    → AreDue (λ bytes. HasNoFeed (now.pending ++ bytes)) now.allowed later → AreDue (AllAnswered told) input_limit earlier → AreDue (AllAnswered told) input_limit (later ++ earlier)
due_joined told now later earlier read none some due before = by_end now.ended refl
  where
    by_end : (ended : Bool) → now.ended ≡ ended → AreDue (AllAnswered told) input_limit (later ++ earlier)
    by_end true e = subst (λ l. AreDue (AllAnswered told) input_limit (l ++ earlier)) (sym (none e)) before
    by_end false e =
        AreDue-append (λ bytes. HasNoFeed (now.pending ++ bytes)) (AllAnswered told) input_limit now.allowed later earlier (some e) read.counted
        (λ bytes no_feed. all_told input_limit (bytes_read earlier) bytes told now read e no_feed) due before

-- with more lines answered they are due as well
pub due_answered : (told more : List Line) (reads : List Read) → AreDue (AllAnswered told) input_limit reads → AreDue (AllAnswered (told ++ more)) input_limit reads
due_answered told more reads due = AreDue-wanted (AllAnswered told) (AllAnswered (told ++ more)) input_limit reads (λ bytes all. omega (arith, all, length-append told more)) due
