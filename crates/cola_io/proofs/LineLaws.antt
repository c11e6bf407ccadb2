-- The lines of joined bytes, and what a loop of calls of `next_line` keeps.
use Rattle.std.proofs.Common.{◌≡◌, ◌⊎◌, ℕ, ◌<◌, ◌≤◌, ◌||◌, Bool, true, false, cond, List, [], ◌∷◌, ◌++◌, length, map, refl, inl, inr, ap, sym, ◌∙◌, subst, arith, length-append, append_assoc, append-nil}
use Rattle.std.specs.List.{slice_split, flat_map, onto_first}
use Rattle.std.proofs.lemmas.Bool.{le-leb, lt-leb, false≢true}
use Rattle.std.proofs.lemmas.Bool.Decides.{leb_tells}
use Rattle.std.proofs.lemmas.List.Splits.{slice_split_none, slice_split_at, slice_split-cons_no}
use Rattle.std.proofs.lemmas.List.Elements.{All-head, All-tail}
use Rattle.cola_spec.specs.Lines.{is_line_feed, line_limit, without_return, line_of, raw_lines, ended_lines, all_but_last, without_empty_last}
use Rattle.cola_spec.specs.Lines as lines
use Rattle.cola_spec.specs.Map.{Shape}
use Rattle.cola_spec.specs.Command.{requests, line_requests}
use Rattle.cola_io.specs.Reading.{Reading, fresh}
use Rattle.cola_io.specs.Buffered.{HasNoFeed, long_part, kept_part}
use Rattle.cola_io.specs.NextLine.{NextLine, Answers, FirstLine, Waits, Nothing, is_settled}
use Rattle.cola_io.specs.Law.{all_lines, all_ended_lines, line_told, Call, Calls, bytes_taken, lines_told, Tells, LinesAreRead, HasRead}
use Rattle.cola_io.specs.declared.next.Next.{Next}
use Rattle.cola_io.specs.declared.next.Next.TheVariants.{Line, TooLong, End, Fault, Budget}
use Rattle.cola_io.proofs.BufferLemmas.{kept_part-short, kept_part-long, length-long_part, no_feed_long}
use Rattle.cola_io.proofs.Going.{no_feed_kept}

-- bytes have at least one part
split_shape : (bytes : List ℕ) → (first : List ℕ) × (others : List (List ℕ)) × (slice_split is_line_feed bytes ≡ first ∷ others)
split_shape [] = ([], [], refl)
split_shape (byte ∷ bytes) =
    let deeper = split_shape bytes in
    shape_of (is_line_feed byte) byte (slice_split is_line_feed bytes) deeper.0 deeper.1 deeper.2
  where
    shape_of : (b : Bool) (byte : ℕ) (parts : List (List ℕ)) (first : List ℕ) (others : List (List ℕ)) → parts ≡ first ∷ others
        → (first' : List ℕ) × (others' : List (List ℕ)) × (cond b ([] ∷ parts) (onto_first byte parts) ≡ first' ∷ others')
    shape_of true byte parts first others e = ([], parts, refl)
    shape_of false byte parts first others e = (byte ∷ first, others, ap (onto_first byte) e)

-- bytes without a line feed go onto the first part of what follows them
split_front : (front rest first : List ℕ) (others : List (List ℕ)) → HasNoFeed front → slice_split is_line_feed rest ≡ first ∷ others → slice_split is_line_feed (front ++ rest) ≡ (front ++ first) ∷ others
split_front [] rest first others h e = e
split_front (byte ∷ front) rest first others h e =
    slice_split-cons_no is_line_feed byte (front ++ rest) (All-head (λ x. is_line_feed x ≡ false) byte front h)
    ∙ ap (onto_first byte) (split_front front rest first others (All-tail (λ x. is_line_feed x ≡ false) byte front h) e)

-- a part before others stays
without_empty_last-cons : (part next : List ℕ) (parts : List (List ℕ)) → without_empty_last (part ∷ next ∷ parts) ≡ part ∷ without_empty_last (next ∷ parts)
without_empty_last-cons [] next parts = refl
without_empty_last-cons (byte ∷ part) next parts = refl

-- a part that is not empty stays
without_empty_last-some : (part : List ℕ) (parts : List (List ℕ)) → (part ≡ [] → ⊥) → without_empty_last (part ∷ parts) ≡ part ∷ without_empty_last parts
without_empty_last-some [] parts h = absurd (h refl)
without_empty_last-some (byte ∷ part) [] h = refl
without_empty_last-some (byte ∷ part) (next ∷ parts) h = refl

-- the lines of a line, a line feed and more bytes
pub raw_lines-feed : (line rest : List ℕ) → HasNoFeed line → raw_lines (line ++ 10 ∷ rest) ≡ line ∷ raw_lines rest
raw_lines-feed line rest h =
    let shape = split_shape rest in
    ap without_empty_last (slice_split_at is_line_feed line 10 rest h refl ∙ ap (λ t. line ∷ t) shape.2) ∙ without_empty_last-cons line shape.0 shape.1 ∙ ap (λ t. line ∷ without_empty_last t) (sym shape.2)

-- those of them that a line feed ends
pub ended_lines-feed : (line rest : List ℕ) → HasNoFeed line → ended_lines (line ++ 10 ∷ rest) ≡ line ∷ ended_lines rest
ended_lines-feed line rest h =
    let shape = split_shape rest in
    ap all_but_last (slice_split_at is_line_feed line 10 rest h refl ∙ ap (λ t. line ∷ t) shape.2) ∙ ap (λ t. line ∷ all_but_last t) (sym shape.2)

-- bytes without a line feed are one line, where they are not empty
pub raw_lines-last : (line : List ℕ) → HasNoFeed line → (line ≡ [] → ⊥) → raw_lines line ≡ line ∷ []
raw_lines-last line h some = ap without_empty_last (slice_split_none is_line_feed line h) ∙ without_empty_last-some line [] some

-- and none that a line feed ends
pub ended_lines-last : (line : List ℕ) → HasNoFeed line → ended_lines line ≡ []
ended_lines-last line h = ap all_but_last (slice_split_none is_line_feed line h)

-- a line feed at the end begins an empty part
split_feed : (bytes : List ℕ) → slice_split is_line_feed (bytes ++ 10 ∷ []) ≡ slice_split is_line_feed bytes ++ [] ∷ []
split_feed [] = refl
split_feed (byte ∷ bytes) = feed_at (is_line_feed byte) byte (slice_split is_line_feed (bytes ++ 10 ∷ [])) bytes (split_feed bytes)
  where
    feed_at : (b : Bool) (byte : ℕ) (parts : List (List ℕ)) (bytes : List ℕ) → parts ≡ slice_split is_line_feed bytes ++ [] ∷ []
        → cond b ([] ∷ parts) (onto_first byte parts) ≡ cond b ([] ∷ slice_split is_line_feed bytes) (onto_first byte (slice_split is_line_feed bytes)) ++ [] ∷ []
    feed_at true byte parts bytes e = ap (λ t. [] ∷ t) e
    feed_at false byte parts bytes e =
        let shape = split_shape bytes in
        ap (onto_first byte) (e ∙ ap (λ t. t ++ [] ∷ []) shape.2) ∙ ap (λ t. onto_first byte t ++ [] ∷ []) (sym shape.2)

-- without the empty last part
drop_last : (parts : List (List ℕ)) → (without_empty_last (parts ++ [] ∷ []) ≡ parts) × (all_but_last (parts ++ [] ∷ []) ≡ parts)
drop_last [] = (refl, refl)
drop_last (part ∷ []) = (without_empty_last-cons part [] [], refl)
drop_last (part ∷ next ∷ parts) =
    let deeper = drop_last (next ∷ parts) in
    (without_empty_last-cons part next (parts ++ [] ∷ []) ∙ ap (λ t. part ∷ t) deeper.0, ap (λ t. part ∷ t) deeper.1)

-- where a line feed is the last byte, it ends every line
pub raw_lines-ended : (bytes : List ℕ) → raw_lines (bytes ++ 10 ∷ []) ≡ ended_lines (bytes ++ 10 ∷ [])
raw_lines-ended bytes =
    let parts = drop_last (slice_split is_line_feed bytes) in
    ap without_empty_last (split_feed bytes) ∙ parts.0 ∙ sym (ap all_but_last (split_feed bytes) ∙ parts.1)

-- what lines ask, by how they are read
pub requests-lines : (shape : Shape) (raws : List (List ℕ)) → requests shape raws ≡ flat_map (line_requests shape) (map line_of raws)
requests-lines shape [] = refl
requests-lines shape (raw ∷ raws) = ap (λ t. line_requests shape (line_of raw) ++ t) (requests-lines shape raws)

-- a long line is read as too long
line_of-long : (raw : List ℕ) → line_limit < length raw → line_of raw ≡ lines.TooLong
line_of-long raw h = ap (λ b. cond b (lines.Text (without_return raw)) lines.TooLong) (lt-leb (length raw) line_limit h)

-- any other as its text
line_of-short : (raw : List ℕ) → length raw ≤ line_limit → line_of raw ≡ lines.Text (without_return raw)
line_of-short raw h = ap (λ b. cond b (lines.Text (without_return raw)) lines.TooLong) (le-leb (length raw) line_limit h)

-- the lines of a long beginning do not hang on its bytes
long_lines : (long first : List ℕ) (others : List (List ℕ)) → line_limit < length long → map line_of (without_empty_last ((long ++ first) ∷ others)) ≡ lines.TooLong ∷ map line_of (without_empty_last others)
long_lines long first others h =
    let longer : line_limit < length (long ++ first) = omega (arith, h, length-append long first) in
    ap (map line_of) (without_empty_last-some (long ++ first) others (λ e. absurd (omega (arith, longer, ap length e)))) ∙ ap (λ t. t ∷ map line_of (without_empty_last others)) (line_of-long (long ++ first) longer)

long_ended : (long other first : List ℕ) (others : List (List ℕ)) → line_limit < length long → line_limit < length other → map line_of (all_but_last ((long ++ first) ∷ others)) ≡ map line_of (all_but_last ((other ++ first) ∷ others))
long_ended long other first [] h k = refl
long_ended long other first (next ∷ others) h k =
    ap (λ t. t ∷ map line_of (all_but_last (next ∷ others)))
    (line_of-long (long ++ first) (omega (arith, h, length-append long first)) ∙ sym (line_of-long (other ++ first) (omega (arith, k, length-append other first))))

-- what is kept of a beginning has its lines, whatever may come
pub all_lines-kept : (part more : List ℕ) → HasNoFeed part → all_lines (part ++ more) ≡ all_lines (kept_part part ++ more)
all_lines-kept part more h =
    elim (leb_tells (length part) line_limit) [
      | inl short ↦ ap (λ t. all_lines (t ++ more)) (sym (kept_part-short part short.1))
      | inr long ↦
          let shape = split_shape more in
          let kept : kept_part part ≡ long_part = kept_part-long part long.1 in
          ap (λ t. map line_of (without_empty_last t)) (split_front part more shape.0 shape.1 h shape.2) ∙ long_lines part shape.0 shape.1 long.1
          ∙ sym (ap (λ t. all_lines (t ++ more)) kept ∙ ap (λ t. map line_of (without_empty_last t)) (split_front long_part more shape.0 shape.1 no_feed_long shape.2)
          ∙ long_lines long_part shape.0 shape.1 (omega (arith, length-long_part)))
    ]

pub all_ended_lines-kept : (part more : List ℕ) → HasNoFeed part → all_ended_lines (part ++ more) ≡ all_ended_lines (kept_part part ++ more)
all_ended_lines-kept part more h =
    elim (leb_tells (length part) line_limit) [
      | inl short ↦ ap (λ t. all_ended_lines (t ++ more)) (sym (kept_part-short part short.1))
      | inr long ↦
          let shape = split_shape more in
          let kept : kept_part part ≡ long_part = kept_part-long part long.1 in
          ap (λ t. map line_of (all_but_last t)) (split_front part more shape.0 shape.1 h shape.2)
          ∙ long_ended part long_part shape.0 shape.1 long.1 (omega (arith, length-long_part))
          ∙ sym (ap (λ t. all_ended_lines (t ++ more)) kept ∙ ap (λ t. map line_of (all_but_last t)) (split_front long_part more shape.0 shape.1 no_feed_long shape.2))
    ]

-- Both kinds of lines at once: `A` gives the lines of bytes, of which a line feed ends the first, and of which a kept beginning has the same
module _ (A : List ℕ → List lines.Line) (feed : (raw rest : List ℕ) → HasNoFeed raw → A (raw ++ 10 ∷ rest) ≡ line_of raw ∷ A rest)
    (keeps : (part more : List ℕ) → HasNoFeed part → A (part ++ more) ≡ A (kept_part part ++ more)) where
  reads_more : (bytes pending took : List ℕ) (told : List lines.Line) → ((more : List ℕ) → A (bytes ++ more) ≡ told ++ A (pending ++ more))
      → (more : List ℕ) → A ((bytes ++ took) ++ more) ≡ told ++ A ((pending ++ took) ++ more)
  reads_more bytes pending took told h more = ap A (append_assoc bytes took more) ∙ h (took ++ more) ∙ ap (λ t. told ++ A t) (sym (append_assoc pending took more))

  reads_line : (bytes pending raw rest : List ℕ) (told : List lines.Line) → ((more : List ℕ) → A (bytes ++ more) ≡ told ++ A (pending ++ more)) → HasNoFeed raw → pending ≡ raw ++ 10 ∷ rest
      → (more : List ℕ) → A (bytes ++ more) ≡ (told ++ line_of raw ∷ []) ++ A (rest ++ more)
  reads_line bytes pending raw rest told h no_feed e more =
      h more ∙ ap (λ t. told ++ A (t ++ more)) e ∙ ap (λ t. told ++ A t) (append_assoc raw (10 ∷ rest) more) ∙ ap (λ t. told ++ t) (feed raw (rest ++ more) no_feed)
      ∙ sym (append_assoc told (line_of raw ∷ []) (A (rest ++ more)))

  reads_kept : (bytes pending now : List ℕ) (told : List lines.Line) → ((more : List ℕ) → A (bytes ++ more) ≡ told ++ A (pending ++ more)) → HasNoFeed pending → now ≡ kept_part pending
      → (more : List ℕ) → A (bytes ++ more) ≡ told ++ A (now ++ more)
  reads_kept bytes pending now told h no_feed e more = h more ∙ ap (λ t. told ++ t) (keeps pending more no_feed ∙ ap (λ t. A (t ++ more)) (sym e))

-- what the answers come to: a line was told, or no byte is left, or all bytes wait
Outcome : List ℕ → List lines.Line → Reading → Type 0
Outcome bytes told now = ((raw : List ℕ) × FirstLine bytes raw now × (told ≡ line_of raw ∷ [])) ⊎ ((Nothing bytes now × (told ≡ [])) ⊎ (Waits bytes now × (told ≡ [])))

outcome : (bytes : List ℕ) (answer : Next) (now : Reading) → Answers bytes answer now → Outcome bytes (line_told answer now.line) now
unfolding Outcome
outcome bytes Line now h = inl (h.0, h.1, ap (line_told Line) h.3 ∙ ap (λ t. t ∷ []) (sym (line_of-short h.0 h.2)))
outcome bytes TooLong now h = inl (h.0, h.1, ap (λ t. t ∷ []) (sym (line_of-long h.0 h.2)))
outcome bytes End now h = inr (inl (h, refl))
outcome bytes Fault now h = inr (inr (h.0, refl))
outcome bytes Budget now h = inr (inr (h.0, refl))

-- the end, once seen, is not unseen
was_going : (a b : Bool) → (a ≡ true → b ≡ true) → b ≡ false → a ≡ false
was_going false b h e = refl
was_going true b h e = absurd (false≢true (sym e ∙ h refl))

clash : {P : Type 0} (b : Bool) → b ≡ true → b ≡ false → P
clash b t f = absurd (false≢true (sym f ∙ t))

module _ (A : List ℕ → List lines.Line) (feed : (raw rest : List ℕ) → HasNoFeed raw → A (raw ++ 10 ∷ rest) ≡ line_of raw ∷ A rest)
    (keeps : (part more : List ℕ) → HasNoFeed part → A (part ++ more) ≡ A (kept_part part ++ more)) where
  -- the lines of the bytes so far, while the end was not seen
  reads_then : (bytes pending : List ℕ) (told : List lines.Line) (tells : List lines.Line) (now : Reading) → ((more : List ℕ) → A (bytes ++ more) ≡ told ++ A (pending ++ more))
      → Outcome pending tells now → now.ended ≡ false → (more : List ℕ) → A (bytes ++ more) ≡ (told ++ tells) ++ A (now.pending ++ more)
  unfolding Outcome
  reads_then bytes pending told tells now h (inl (raw, inl fed, e)) going more =
      reads_line A feed keeps bytes pending raw now.pending told h fed.no_feed fed.whole more ∙ ap (λ t. (told ++ t) ++ A (now.pending ++ more)) (sym e)
  reads_then bytes pending told tells now h (inl (raw, inr last, e)) going more = clash now.ended last.at_end going
  reads_then bytes pending told tells now h (inr (inl (nothing, e))) going more = clash now.ended nothing.at_end going
  reads_then bytes pending told tells now h (inr (inr (waits, e))) going more =
      reads_kept A feed keeps bytes pending now.pending told h waits.no_feed waits.kept more
      ∙ ap (λ t. t ++ A (now.pending ++ more)) (sym (ap (λ t. told ++ t) e ∙ append-nil told))

-- at the end no byte is left, and all lines are told
ended_then : (bytes : List ℕ) (tells : List lines.Line) (now : Reading) → Outcome bytes tells now → now.ended ≡ true → (now.pending ≡ []) × (all_lines bytes ≡ tells)
unfolding Outcome
ended_then bytes tells now (inl (raw, inl fed, e)) ended = clash now.ended ended fed.going
ended_then bytes tells now (inl (raw, inr last, e)) ended =
    (last.nothing_left, ap all_lines last.whole ∙ ap (map line_of) (raw_lines-last raw last.no_feed last.some) ∙ sym e)
ended_then bytes tells now (inr (inl (nothing, e))) ended = (nothing.nothing_left, ap all_lines nothing.none ∙ sym e)
ended_then bytes tells now (inr (inr (waits, e))) ended = clash now.ended ended waits.going

all_lines-feed : (raw rest : List ℕ) → HasNoFeed raw → all_lines (raw ++ 10 ∷ rest) ≡ line_of raw ∷ all_lines rest
all_lines-feed raw rest h = ap (map line_of) (raw_lines-feed raw rest h)

all_ended_lines-feed : (raw rest : List ℕ) → HasNoFeed raw → all_ended_lines (raw ++ 10 ∷ rest) ≡ line_of raw ∷ all_ended_lines rest
all_ended_lines-feed raw rest h = ap (map line_of) (ended_lines-feed raw rest h)

settled_ended : (r : Reading) → r.ended ≡ true → is_settled r ≡ true
settled_ended r e = ended_or _ r.ended _ e
  where
    ended_or : (a b c : Bool) → b ≡ true → a || b || c ≡ true
    ended_or true b c e = refl
    ended_or false true c e = refl
    ended_or false false c e = absurd (false≢true e)

by_cases : {P : Type 0} (b : Bool) → (b ≡ true → P) → (b ≡ false → P) → P
by_cases true t f = t refl
by_cases false t f = f refl

-- a new reader has read nothing
pub HasRead-fresh : (limit : ℕ) → HasRead limit [] [] (fresh limit)
HasRead-fresh limit = record {
  counted = omega arith;
  going = λ _ more. refl;
  going_ended = λ _ more. refl;
  nothing_left = λ _. refl;
  all_told = λ _. refl;
}

-- after one more call the reader has read what it took then too, and told the line that it answered
pub HasRead-then : (limit : ℕ) (bytes took : List ℕ) (told : List lines.Line) (answer : Next) (old new : Reading) → HasRead limit bytes told old → NextLine old took answer new
    → HasRead limit (bytes ++ took) (told ++ line_told answer new.line) new
HasRead-then limit bytes took told answer old new h step =
    let out = outcome (old.pending ++ took) answer new step.answered in
    let was : new.ended ≡ false → old.ended ≡ false = was_going old.ended new.ended step.stays_ended in
    record {
      counted = omega (arith, h.counted, step.counted, length-append bytes took);
      going = λ e. reads_then all_lines all_lines-feed all_lines-kept (bytes ++ took) (old.pending ++ took) told (line_told answer new.line) new (reads_more all_lines all_lines-feed all_lines-kept bytes old.pending took told (h.going (was e))) out e;
      going_ended = λ e. reads_then all_ended_lines all_ended_lines-feed all_ended_lines-kept (bytes ++ took) (old.pending ++ took) told (line_told answer new.line) new (reads_more all_ended_lines all_ended_lines-feed all_ended_lines-kept bytes old.pending took told (h.going_ended (was e))) out e;
      nothing_left = λ e. (ended_then (old.pending ++ took) _ new out e).0;
      all_told = λ e. let tells = (ended_then (old.pending ++ took) (line_told answer new.line) new out e).1 in
          by_cases old.ended
          (
          λ ended.
          let none : took ≡ [] = step.settled (settled_ended old ended) in
          let nothing : old.pending ++ took ≡ [] = ap (λ t. t ++ took) (h.nothing_left ended) ∙ none in
          ap (λ t. told ++ t) (sym tells ∙ ap all_lines nothing) ∙ append-nil told ∙ h.all_told ended ∙ ap all_lines (sym (ap (λ t. bytes ++ t) none ∙ append-nil bytes))
          )
          (λ going. ap (λ t. told ++ t) (sym tells) ∙ sym (h.going going took));
    }

-- what a last answer tells
pub told-last : (limit : ℕ) (bytes took : List ℕ) (told : List lines.Line) (answer : Next) (old new : Reading) → HasRead limit bytes told old → NextLine old took answer new → Tells limit told (bytes ++ took) answer
told-last limit bytes took told answer old new h step = tells_of answer step (HasRead-then limit bytes took told answer old new h step)
  where
    waiting : (told tells : List lines.Line) (bytes all : List ℕ) → HasRead limit bytes (told ++ tells) new → tells ≡ [] → Waits all new → told ≡ all_ended_lines bytes
    waiting told tells bytes all now none waits =
        let no_feed : HasNoFeed new.pending = subst HasNoFeed (sym waits.kept) (no_feed_kept all waits.no_feed) in
        let rest : all_ended_lines (new.pending ++ []) ≡ [] = ap all_ended_lines (append-nil new.pending) ∙ ap (map line_of) (ended_lines-last new.pending no_feed) in
        sym (ap all_ended_lines (sym (append-nil bytes)) ∙ now.going_ended waits.going [] ∙ ap (λ t. (told ++ tells) ++ t) rest ∙ append-nil (told ++ tells) ∙ ap (λ t. told ++ t) none ∙ append-nil told)

    tells_of : (answer : Next) → NextLine old took answer new → HasRead limit (bytes ++ took) (told ++ line_told answer new.line) new → Tells limit told (bytes ++ took) answer
    tells_of Line step now = tt
    tells_of TooLong step now = tt
    tells_of End step now = (sym (append-nil told) ∙ now.all_told step.answered.at_end, omega (arith, now.counted, step.ended_within step.answered.at_end))
    tells_of Fault step now = waiting told [] (bytes ++ took) (old.pending ++ took) now refl step.answered.0
    tells_of Budget step now = (waiting told [] (bytes ++ took) (old.pending ++ took) now refl step.answered.0, omega (arith, now.counted, step.answered.1))

-- calls one after another
pub HasRead-calls : (limit : ℕ) (calls : List Call) (bytes : List ℕ) (told : List lines.Line) (first last : Reading) → HasRead limit bytes told first → Calls first calls last
    → HasRead limit (bytes ++ bytes_taken calls) (told ++ lines_told calls) last
HasRead-calls limit [] bytes told first last h e =
    subst (λ r. HasRead limit (bytes ++ []) (told ++ []) r) (sym e) (subst (λ b. HasRead limit b (told ++ []) first) (sym (append-nil bytes)) (subst (λ t. HasRead limit bytes t first) (sym (append-nil told)) h))
HasRead-calls limit (call ∷ calls) bytes told first last h steps =
    let deeper = HasRead-calls limit calls (bytes ++ call.took) (told ++ line_told call.answer call.after.line) call.after last (HasRead-then limit bytes call.took told call.answer first call.after h steps.0) steps.1 in
    subst (λ b. HasRead limit b (told ++ (line_told call.answer call.after.line ++ lines_told calls)) last) (append_assoc bytes call.took (bytes_taken calls))
    (subst (λ t. HasRead limit ((bytes ++ call.took) ++ bytes_taken calls) t last) (append_assoc told (line_told call.answer call.after.line) (lines_told calls)) deeper)

-- the law
pub lines_read : (limit : ℕ) → LinesAreRead limit
lines_read limit calls middle last took answer steps step =
    told-last limit (bytes_taken calls) took (lines_told calls) answer middle last (HasRead-calls limit calls [] [] (fresh limit) middle (HasRead-fresh limit) steps) step
