-- What a call of `next_line` keeps while it goes on, and what it answers in the end.
use Rattle.std.proofs.Common.{◌≡◌, ◌⊎◌, ℕ, ◌+◌, ◌-◌, ◌<◌, ◌≤◌, ◌||◌, Bool, true, false, nat_eq, List, [], ◌∷◌, ◌++◌, length, Option, None, refl, inl, inr, ap, sym, ◌∙◌, subst, arith, length-append, append_assoc, append-nil}
use Rattle.std.specs.List.{list_any}
use Rattle.std.proofs.lemmas.Bool.{ne_eqb, eqb-true, false≢true}
use Rattle.std.proofs.lemmas.Bool.Decides.{leb_tells}
use Rattle.std.proofs.lemmas.List.{take_at, drop_at}
use Rattle.std.proofs.lemmas.List.Elements.{All-append, All-take, All-drop, All-head, All-tail}
use Rattle.std.proofs.lemmas.List.Folds.{list_any_none}
use Rattle.cola_spec.specs.Lines.{line_limit, is_line_feed}
use Rattle.cola_io.specs.Reading.{Reading}
use Rattle.cola_io.specs.Buffered.{Buffered, HasNoFeed, kept_part}
use Rattle.cola_io.specs.Finished.{Finished, LastFinished, CutOff}
use Rattle.cola_io.specs.NextLine.{NextLine, Answers, FirstLine, Waits, is_settled}
use Rattle.cola_io.specs.declared.next.Next.{Next}
use Rattle.cola_io.specs.declared.next.Next.TheVariants.{Line, TooLong, End, Fault, Budget}
use Rattle.cola_io.proofs.BufferLemmas.{kept_part-short, kept_part-long, length-long_part, no_feed_long, Finished-long, Finished-kept}

-- the call goes on: the bytes so far are `front`, of which `begun` is kept, and the rest
pub record Going (old : Reading) (took begun rest : List ℕ) (ended : Bool) (allowed : ℕ) : Type 0 where
  pub front : List ℕ
  pub whole : old.pending ++ took ≡ front ++ rest
  pub stands : (begun ≡ front) ⊎ ((line_limit < length front) × (line_limit < length begun))
  pub no_feed : HasNoFeed front
  pub begun_no_feed : HasNoFeed begun
  pub counted : allowed + length took ≡ old.allowed
  pub stays_ended : old.ended ≡ true → ended ≡ true
  pub at_end : ended ≡ true → (0 < allowed) × (rest ≡ [])
  pub settled : is_settled old ≡ true → took ≡ []

-- all bytes so far are the beginning of one line, and are kept as that
pub record Gathered (old : Reading) (took begun : List ℕ) (ended : Bool) (allowed : ℕ) : Type 0 where
  pub no_feed : HasNoFeed (old.pending ++ took)
  pub kept : begun ≡ kept_part (old.pending ++ took)
  pub begun_no_feed : HasNoFeed begun
  pub counted : allowed + length took ≡ old.allowed
  pub stays_ended : old.ended ≡ true → ended ≡ true
  pub at_end : ended ≡ true → 0 < allowed
  pub settled : is_settled old ≡ true → took ≡ []

-- the front of bytes without a line feed has none
pub no_feed_left : (xs ys : List ℕ) → HasNoFeed (xs ++ ys) → HasNoFeed xs
no_feed_left xs ys h = subst HasNoFeed (take_at xs ys (length xs) refl) (All-take (λ byte. is_line_feed byte ≡ false) (length xs) (xs ++ ys) h)

-- nor has what is behind it
pub no_feed_right : (xs ys : List ℕ) → HasNoFeed (xs ++ ys) → HasNoFeed ys
no_feed_right xs ys h = subst HasNoFeed (drop_at xs ys (length xs) refl) (All-drop (λ byte. is_line_feed byte ≡ false) (length xs) (xs ++ ys) h)

-- bytes without a line feed lie before the first one
pub before_feed : (xs ys raw behind : List ℕ) → HasNoFeed xs → xs ++ ys ≡ raw ++ 10 ∷ behind → (more : List ℕ) × (raw ≡ xs ++ more) × (ys ≡ more ++ 10 ∷ behind)
before_feed [] ys raw behind h e = (raw, refl, e)
before_feed (x ∷ xs) ys [] behind h e =
    let first : x ≡ 10 = cc in
    absurd (false≢true (sym (All-head (λ byte. is_line_feed byte ≡ false) x xs h) ∙ ap is_line_feed first))
before_feed (x ∷ xs) ys (r ∷ raw) behind h e =
    let first : x ≡ r = cc in
    let rest : xs ++ ys ≡ raw ++ 10 ∷ behind = cc in
    let deeper = before_feed xs ys raw behind (All-tail (λ byte. is_line_feed byte ≡ false) x xs h) rest in
    (deeper.0, (λ i. sym first i ∷ deeper.1 i), deeper.2)

-- a line's answer in the words of the contract
pub answers_of_line : (bytes raw : List ℕ) (answer : Next) (now : Reading) → FirstLine bytes raw now → Finished raw answer now.line → Answers bytes answer now
answers_of_line bytes raw Line now first done = (raw, first, done.0, done.1)
answers_of_line bytes raw TooLong now first done = (raw, first, done.0, done.1)
answers_of_line bytes raw End now first done = absurd done
answers_of_line bytes raw Fault now first done = absurd done
answers_of_line bytes raw Budget now first done = absurd done

-- a call begins
pub going_first : (old : Reading) (before after : Buffered) (ended : Bool) (allowed : ℕ)
    → ◌≡◌ {A = Reading} (record { pending = before.begun ++ before.rest; line = before.line; ended = ended; allowed = allowed }) old → HasNoFeed before.begun
    → (ended ≡ true → (0 < allowed) × (before.rest ≡ [])) → after ≡ record before { line = None } → Going old [] after.begun after.rest ended allowed
going_first old before after ended allowed view no_feed at_end forgot =
    let same : (b : Buffered) → b ≡ record before { line = None } → HasNoFeed b.begun × (b.begun ++ b.rest ≡ before.begun ++ before.rest) × (b.rest ≡ before.rest) =
    λ b e. (subst HasNoFeed (sym (ap (λ x. x.begun) e)) no_feed, ap (λ x. x.begun ++ x.rest) e, ap (λ x. x.rest) e) in
    let facts = same after forgot in
    record {
      front = after.begun;
      whole = append-nil old.pending ∙ sym (ap (λ r. r.pending) view) ∙ sym facts.1;
      stands = inl refl;
      no_feed = facts.0;
      begun_no_feed = facts.0;
      counted = omega (arith, ap (λ r. r.allowed) view);
      stays_ended = λ e. ap (λ r. r.ended) view ∙ e;
      at_end = λ e. ((at_end e).0, facts.2 ∙ (at_end e).1);
      settled = λ _. refl;
    }

-- what stands for the front, with more behind it, is answered as the front with that is
finished_front : (front begun more : List ℕ) (answer : Next) (line : Option (List ℕ)) → (begun ≡ front) ⊎ ((line_limit < length front) × (line_limit < length begun))
    → Finished (begun ++ more) answer line → Finished (front ++ more) answer line
finished_front front begun more answer line (inl same) h = subst (λ t. Finished (t ++ more) answer line) same h
finished_front front begun more answer line (inr long) h =
    Finished-long (begun ++ more) (front ++ more) answer line (omega (arith, long.1, length-append begun more)) (omega (arith, long.0, length-append front more)) h

-- the end was not seen where a line feed is left
pub found_going : (old : Reading) (took : List ℕ) (ended : Bool) (allowed : ℕ) (before after : Buffered) (answer : Next) → Going old took before.begun before.rest ended allowed → CutOff before answer after → ended ≡ false
found_going old took ended allowed before after answer g cut =
    let split = before_feed before.begun before.rest cut.raw after.rest g.begun_no_feed cut.whole in
    not_ended ended (λ e. nothing_behind split.0 after.rest (sym split.2 ∙ (g.at_end e).1))
  where
    not_ended : (b : Bool) → (b ≡ true → ⊥) → b ≡ false
    not_ended true h = absurd (h refl)
    not_ended false h = refl

    nothing_behind : (more behind : List ℕ) → more ++ 10 ∷ behind ≡ [] → ⊥
    nothing_behind [] behind e = cc
    nothing_behind (x ∷ more) behind e = cc

-- a line that a line feed ends was found
pub going_found : (old : Reading) (took : List ℕ) (ended : Bool) (allowed : ℕ) (before after : Buffered) (answer : Next) → Going old took before.begun before.rest ended allowed → CutOff before answer after
    → NextLine old took answer (record { pending = after.begun ++ after.rest; line = after.line; ended = ended; allowed = allowed })
going_found old took ended allowed before after answer g cut =
    let split = before_feed before.begun before.rest cut.raw after.rest g.begun_no_feed cut.whole in
    let more = split.0 in
    let pending : after.begun ++ after.rest ≡ after.rest = ap (λ t. t ++ after.rest) cut.nothing_begun in
    let going : ended ≡ false = found_going old took ended allowed before after answer g cut in
    let whole : old.pending ++ took ≡ (g.front ++ more) ++ 10 ∷ (after.begun ++ after.rest) =
    g.whole ∙ ap (λ t. g.front ++ t) split.2 ∙ sym (append_assoc g.front more (10 ∷ after.rest)) ∙ ap (λ t. (g.front ++ more) ++ 10 ∷ t) (sym pending) in
    let no_feed : HasNoFeed (g.front ++ more) = All-append (λ byte. is_line_feed byte ≡ false) g.front more g.no_feed (no_feed_right before.begun more (subst HasNoFeed split.1 cut.no_feed)) in
    record {
      counted = g.counted;
      settled = g.settled;
      stays_ended = g.stays_ended;
      ended_within = λ e. (g.at_end e).0;
      answered =
          answers_of_line (old.pending ++ took) (g.front ++ more) answer _ (inl (record { no_feed = no_feed; whole = whole; going = going }))
          (finished_front g.front before.begun more answer after.line g.stands (subst (λ t. Finished t answer after.line) split.1 cut.finished));
    }

-- what is kept of what stands for the front with more behind it
kept_front : (front begun more : List ℕ) → (begun ≡ front) ⊎ ((line_limit < length front) × (line_limit < length begun)) → kept_part (begun ++ more) ≡ kept_part (front ++ more)
kept_front front begun more (inl same) = ap (λ t. kept_part (t ++ more)) same
kept_front front begun more (inr long) =
    kept_part-long (begun ++ more) (omega (arith, long.1, length-append begun more)) ∙ sym (kept_part-long (front ++ more) (omega (arith, long.0, length-append front more)))

-- what is kept of bytes without a line feed has none
pub no_feed_kept : (bytes : List ℕ) → HasNoFeed bytes → HasNoFeed (kept_part bytes)
no_feed_kept bytes h =
    elim (leb_tells (length bytes) line_limit) [
      | inl short ↦ subst HasNoFeed (sym (kept_part-short bytes short.1)) h
      | inr long ↦ subst HasNoFeed (sym (kept_part-long bytes long.1)) no_feed_long
    ]

-- no line feed was found, and all bytes are kept as the beginning of a line
pub going_gathered : (old : Reading) (took : List ℕ) (ended : Bool) (allowed : ℕ) (before after : Buffered) → Going old took before.begun before.rest ended allowed → HasNoFeed before.rest
    → ◌≡◌ {A = Buffered} after (record { line = None; begun = kept_part (before.begun ++ before.rest); rest = [] }) → Gathered old took after.begun ended allowed
going_gathered old took ended allowed before after g no_feed kept =
    let all : HasNoFeed (old.pending ++ took) = subst HasNoFeed (sym g.whole) (All-append (λ byte. is_line_feed byte ≡ false) g.front before.rest g.no_feed no_feed) in
    let begun : after.begun ≡ kept_part (before.begun ++ before.rest) = ap (λ b. b.begun) kept in
    record {
      no_feed = all;
      kept = begun ∙ kept_front g.front before.begun before.rest g.stands ∙ ap kept_part (sym g.whole);
      begun_no_feed = subst HasNoFeed (sym begun) (no_feed_kept (before.begun ++ before.rest) (All-append (λ byte. is_line_feed byte ≡ false) before.begun before.rest g.begun_no_feed no_feed));
      counted = g.counted;
      stays_ended = g.stays_ended;
      at_end = λ e. (g.at_end e).0;
      settled = g.settled;
    }

-- the last bytes are answered as a line, where there are some
last_answers : (bytes begun : List ℕ) (answer : Next) (now : Reading) → HasNoFeed bytes → begun ≡ kept_part bytes → LastFinished begun answer now.line → now.pending ≡ [] → now.ended ≡ true → Answers bytes answer now
last_answers [] begun answer now no_feed kept done nothing ended =
    let none : begun ≡ [] = kept in
    let end = subst (λ t. LastFinished t answer now.line) none done in
    subst (λ a. Answers [] a now) (sym end.0) (record { none = refl; nothing_left = nothing; at_end = ended; no_line = end.1 })
last_answers (byte ∷ bytes) begun answer now no_feed kept done nothing ended =
    answers_of_line (byte ∷ bytes) (byte ∷ bytes) answer now
    (inr (record { no_feed = no_feed; whole = refl; some = λ e. cc; nothing_left = nothing; at_end = ended }))
    (Finished-kept (byte ∷ bytes) answer now.line (last_some begun (kept_part (byte ∷ bytes)) answer now.line kept (kept_some (byte ∷ bytes) (λ e. cc)) done))
  where
    kept_some : (part : List ℕ) → (part ≡ [] → ⊥) → kept_part part ≡ [] → ⊥
    kept_some part some e =
        elim (leb_tells (length part) line_limit) [
          | inl short ↦ some (sym (kept_part-short part short.1) ∙ e)
          | inr long ↦ absurd (omega (arith, ap length (sym (kept_part-long part long.1) ∙ e), length-long_part))
        ]

    last_some : (begun part : List ℕ) (answer : Next) (line : Option (List ℕ)) → begun ≡ part → (part ≡ [] → ⊥) → LastFinished begun answer line → Finished part answer line
    last_some [] part answer line e some done = absurd (some (sym e))
    last_some (b ∷ begun) part answer line e some done = subst (λ t. Finished t answer line) e done

-- the end of the source was seen
pub gathered_last : (old : Reading) (took begun : List ℕ) (ended : Bool) (allowed : ℕ) (after : Buffered) (answer : Next) → Gathered old took begun ended allowed → ended ≡ true
    → LastFinished begun answer after.line → after.begun ≡ [] → after.rest ≡ [] → NextLine old took answer (record { pending = after.begun ++ after.rest; line = after.line; ended = ended; allowed = allowed })
gathered_last old took begun ended allowed after answer g end done nothing behind =
    let pending : after.begun ++ after.rest ≡ [] = ap (λ t. t ++ after.rest) nothing ∙ behind in
    record {
      counted = g.counted;
      settled = g.settled;
      stays_ended = g.stays_ended;
      ended_within = g.at_end;
      answered = last_answers (old.pending ++ took) begun answer _ g.no_feed g.kept done pending end;
    }

-- no line is found, and the call does not go on
waits : (old : Reading) (took begun rest : List ℕ) (allowed : ℕ) (ended : Bool) (line : Option (List ℕ)) → Gathered old took begun ended allowed → ended ≡ false → line ≡ None → rest ≡ []
    → Waits (old.pending ++ took) (record { pending = begun ++ rest; line = line; ended = ended; allowed = allowed })
waits old took begun rest allowed ended line g going none behind =
    record { no_feed = g.no_feed; kept = ap (λ t. begun ++ t) behind ∙ append-nil begun ∙ g.kept; going = going; no_line = none }

pub gathered_budget : (old : Reading) (took begun rest : List ℕ) (ended : Bool) (allowed : ℕ) (line : Option (List ℕ)) → Gathered old took begun ended allowed → ended ≡ false → line ≡ None → rest ≡ []
    → allowed ≡ 0 → NextLine old took Budget (record { pending = begun ++ rest; line = line; ended = ended; allowed = allowed })
gathered_budget old took begun rest ended allowed line g going none behind budget = record {
  counted = g.counted;
  settled = g.settled;
  stays_ended = g.stays_ended;
  ended_within = g.at_end;
  answered = (waits old took begun rest allowed ended line g going none behind, budget);
}

pub gathered_fault : (old : Reading) (took begun rest : List ℕ) (ended : Bool) (allowed : ℕ) (line : Option (List ℕ)) → Gathered old took begun ended allowed → ended ≡ false → line ≡ None → rest ≡ []
    → 0 < allowed → NextLine old took Fault (record { pending = begun ++ rest; line = line; ended = ended; allowed = allowed })
gathered_fault old took begun rest ended allowed line g going none behind some = record {
  counted = g.counted;
  settled = g.settled;
  stays_ended = g.stays_ended;
  ended_within = g.at_end;
  answered = (waits old took begun rest allowed ended line g going none behind, some);
}

-- the source is asked only where the next answer needs it
pub not_settled : (old : Reading) (took begun : List ℕ) (ended : Bool) (allowed : ℕ) → Gathered old took begun ended allowed → ended ≡ false → 0 < allowed → is_settled old ≡ true → ⊥
not_settled old took begun ended allowed g going some settled =
    let p : list_any is_line_feed old.pending ≡ false = list_any_none is_line_feed old.pending (no_feed_left old.pending took g.no_feed) in
    let q : old.ended ≡ false = was_going old.ended ended g.stays_ended going in
    let r : nat_eq old.allowed 0 ≡ false = ne_eqb old.allowed 0 (λ e. omega (arith, g.counted)) in
    let none : is_settled old ≡ false = λ i. p i || q i || r i in
    false≢true (sym none ∙ settled)
  where
    was_going : (a b : Bool) → (a ≡ true → b ≡ true) → b ≡ false → a ≡ false
    was_going false b h e = refl
    was_going true b h e = absurd (false≢true (sym e ∙ h refl))

-- more bytes were read
pub gathered_fill : (old : Reading) (took begun more : List ℕ) (ended : Bool) (allowed count : ℕ) → Gathered old took begun ended allowed → ended ≡ false → 0 < allowed → length more ≡ count → count ≤ allowed
    → Going old (took ++ more) begun more (nat_eq count 0) (allowed - count)
gathered_fill old took begun more ended allowed count g going some amount within = record {
  front = old.pending ++ took;
  whole = sym (append_assoc old.pending took more);
  stands = kept_stands (old.pending ++ took) begun g.kept;
  no_feed = g.no_feed;
  begun_no_feed = g.begun_no_feed;
  counted = omega (arith, g.counted, length-append took more);
  stays_ended = λ e. absurd (false≢true (sym going ∙ g.stays_ended e));
  at_end = λ e. (omega (arith, eqb-true count 0 e), no_bytes more (amount ∙ eqb-true count 0 e));
  settled = λ e. absurd (not_settled old took begun ended allowed g going some e);
}
  where
    kept_stands : (part begun : List ℕ) → begun ≡ kept_part part → (begun ≡ part) ⊎ ((line_limit < length part) × (line_limit < length begun))
    kept_stands part begun e =
        elim (leb_tells (length part) line_limit) [
          | inl short ↦ inl (e ∙ kept_part-short part short.1)
          | inr long ↦ inr (long.1, omega (arith, ap length (e ∙ kept_part-long part long.1), length-long_part))
        ]

    no_bytes : (xs : List ℕ) → length xs ≡ 0 → xs ≡ []
    no_bytes [] e = refl
    no_bytes (x ∷ xs) e = absurd (omega (arith, e))
