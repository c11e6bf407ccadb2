-- What the held bytes of a buffer stand for.
use Rattle.std.proofs.Common.{◌≡◌, ℕ, ◌+◌, ◌-◌, ◌<◌, ◌≤◌, Bool, true, false, nat_eq, if◌then◌else◌, List, [], ◌∷◌, ◌++◌, length, take, drop, get_or, Option, Some, None, refl, inl, inr, ap, sym, ◌∙◌, subst, arith, length-append, length-take, length-drop, append_assoc, suc}
use Rattle.std.specs.List.{position}
use Rattle.std.proofs.lemmas.Bool.{le-leb, lt-leb, eqb-true}
use Rattle.std.proofs.lemmas.Bool.Decides.{leb_tells}
use Rattle.std.proofs.lemmas.List.{take-take, take-append-drop, drop-drop, drop-take, get_or-take, get_or_default}
use Rattle.std.proofs.lemmas.List.Elements.{All-append, All-replicate}
use Rattle.std.proofs.lemmas.List.Quantifiers.{position-Some}
use Rattle.std.proofs.Math.Seq.{drop-cons}
use Rattle.cola_spec.specs.Lines.{line_limit, without_return, is_line_feed}
use Rattle.cola_io.specs.declared.held.Held.{Held}
use Rattle.cola_io.specs.declared.held.Held.TheVariants.{Long}
use Rattle.cola_io.specs.declared.next.Next.{Next}
use Rattle.cola_io.specs.declared.next.Next.TheVariants as next
use Rattle.cola_io.specs.Buffered.{Buffered, HasNoFeed, long_part, kept_part, line_held, part_held}
use Rattle.cola_io.specs.Finished.{Finished, LastFinished, CutOff}

-- more than 160 bytes stand for a long beginning
pub length-long_part : length long_part ≡ 161
unfolding long_part
length-long_part = refl

-- what stands for a long beginning has no line feed
pub no_feed_long : HasNoFeed long_part
unfolding long_part
no_feed_long = All-replicate (λ byte. is_line_feed byte ≡ false) 161 0 refl

-- a short beginning is kept as it is
pub kept_part-short : (part : List ℕ) → length part ≤ line_limit → kept_part part ≡ part
kept_part-short part h = ap (λ (b : Bool). if b then part else long_part) (le-leb (length part) line_limit h)

-- of a long one nothing is kept
pub kept_part-long : (part : List ℕ) → line_limit < length part → kept_part part ≡ long_part
kept_part-long part h = ap (λ (b : Bool). if b then part else long_part) (lt-leb (length part) line_limit h)

cons-if : (b : Bool) (x : ℕ) (xs ys : List ℕ) → x ∷ (if b then xs else ys) ≡ (if b then x ∷ xs else x ∷ ys)
cons-if true x xs ys = refl
cons-if false x xs ys = refl

-- a line without the last of its bytes, where that is a carriage return
pub without_return-last : (bytes : List ℕ) (last : ℕ) → without_return (bytes ++ last ∷ []) ≡ (if nat_eq last 13 then bytes else bytes ++ last ∷ [])
without_return-last [] last = refl
without_return-last (b ∷ []) last = cons-if (nat_eq last 13) b [] (last ∷ [])
without_return-last (b ∷ next ∷ bytes) last =
    ap (λ t. b ∷ t) (without_return-last (next ∷ bytes) last) ∙ cons-if (nat_eq last 13) b (next ∷ bytes) (next ∷ bytes ++ last ∷ [])

-- the last byte stays where it is no carriage return
pub return_kept : (old front now : List ℕ) (last : ℕ) → old ≡ front ++ last ∷ [] → now ≡ front ++ last ∷ [] → nat_eq last 13 ≡ false → now ≡ without_return old
return_kept old front now last e k n =
    k ∙ sym (ap without_return e ∙ without_return-last front last ∙ ap (λ (b : Bool). if b then front else front ++ last ∷ []) n)

-- and goes where it is one
pub return_dropped : (old front : List ℕ) (last : ℕ) → old ≡ front ++ last ∷ [] → nat_eq last 13 ≡ true → front ≡ without_return old
return_dropped old front last e n =
    sym (ap without_return e ∙ without_return-last front last ∙ ap (λ (b : Bool). if b then front else front ++ last ∷ []) n)

-- a long beginning stays long
pub hold_long : (held : Held) (bytes more : List ℕ) → held ≡ Long → long_part ≡ kept_part (part_held held bytes ++ more)
hold_long held bytes more e =
    rw e (sym (kept_part-long (long_part ++ more) (omega (arith, length-append long_part more, length-long_part))))

-- buffers with the same parts
same_buffered : (l l' : Option (List ℕ)) (b b' r r' : List ℕ) → l ≡ l' → b ≡ b' → r ≡ r'
    → ◌≡◌ {A = Buffered} (record { line = l; begun = b; rest = r }) (record { line = l'; begun = b'; rest = r' })
same_buffered l l' b b' r r' p q s = λ i. record { line = p i; begun = q i; rest = s i }

-- the bytes of the chunk that were not looked at
pub unseen : (chunk : List ℕ) (from to : ℕ) → from ≤ to → take (to - from) (drop from chunk) ≡ drop from (take to chunk)
unseen chunk from to ordered =
    let number : from + (to - from) ≡ to = omega arith in
    sym (ap (λ n. drop from (take n chunk)) (sym number) ∙ drop-take from (to - from) chunk)

-- the first bytes of what was not looked at, as a part of the chunk
part_of_chunk : (chunk : List ℕ) (from to count : ℕ) → from ≤ to → count ≤ to - from → take count (drop from (take to chunk)) ≡ take (from + count - from) (drop from chunk)
part_of_chunk chunk from to count ordered within =
    let amount : from + count - from ≡ count = omega arith in
    ap (take count) (sym (unseen chunk from to ordered)) ∙ take-take count (to - from) (drop from chunk) within ∙ ap (λ n. take n (drop from chunk)) (sym amount)

-- a buffer after `count` bytes were moved to the beginning of the next line
pub gathered : (held held' : Held) (bytes bytes' chunk : List ℕ) (from to count : ℕ) (now : Buffered)
    → ◌≡◌ {A = Buffered} (record { line = line_held held bytes; begun = part_held held bytes; rest = drop from (take to chunk) }) now → now.line ≡ None
    → count ≤ length now.rest → from ≤ to → line_held held' bytes' ≡ None → part_held held' bytes' ≡ kept_part (part_held held bytes ++ take (from + count - from) (drop from chunk))
    → ◌≡◌ {A = Buffered} (record { line = line_held held' bytes'; begun = part_held held' bytes'; rest = drop (from + count) (take to chunk) })
    (record { line = now.line; begun = kept_part (now.begun ++ take count now.rest); rest = drop count now.rest })
gathered held held' bytes bytes' chunk from to count now view line there ordered line' part' =
    let begun : part_held held bytes ≡ now.begun = ap (λ b. b.begun) view in
    let rest : drop from (take to chunk) ≡ now.rest = ap (λ b. b.rest) view in
    let room : length now.rest ≤ to - from = rw (← rest) (simp (length-drop, length-take) (omega arith)) in
    let within : count ≤ to - from = omega arith in
    let front : take count now.rest ≡ take (from + count - from) (drop from chunk) = rw (← rest) (part_of_chunk chunk from to count ordered within) in
    same_buffered _ _ _ _ _ _ (line' ∙ sym line)
    (part' ∙ ap (λ t. kept_part (t ++ take (from + count - from) (drop from chunk))) begun ∙ ap (λ t. kept_part (now.begun ++ t)) (sym front))
    (sym (drop-drop count from (take to chunk)) ∙ ap (drop count) rest)

-- a beginning that is held as a long one is long
pub finish_long : (held : Held) (bytes rest : List ℕ) (now : Buffered) → ◌≡◌ {A = Buffered} (record { line = line_held held bytes; begun = part_held held bytes; rest = rest }) now
    → held ≡ Long → line_limit < length now.begun
finish_long held bytes rest now view e =
    let begun : now.begun ≡ long_part = sym (ap (λ b. b.begun) view) ∙ ap (λ h. part_held h bytes) e in
    rw begun (omega (arith, length-long_part))

-- two long lines are answered alike
pub Finished-long : (raw other : List ℕ) (answer : Next) (line : Option (List ℕ)) → line_limit < length raw → line_limit < length other → Finished raw answer line → Finished other answer line
Finished-long raw other next.Line line long long' h = absurd (omega (arith, h.0))
Finished-long raw other next.TooLong line long long' h = (long', h.1)
Finished-long raw other next.End line long long' h = h
Finished-long raw other next.Fault line long long' h = h
Finished-long raw other next.Budget line long long' h = h

-- the answer to what is kept of a line is the answer to the line
pub Finished-kept : (raw : List ℕ) (answer : Next) (line : Option (List ℕ)) → Finished (kept_part raw) answer line → Finished raw answer line
Finished-kept raw answer line h =
    elim (leb_tells (length raw) line_limit) [
      | inl short ↦ subst (λ t. Finished t answer line) (kept_part-short raw short.1) h
      | inr long ↦
          Finished-long long_part raw answer line (omega (arith, length-long_part)) long.1 (subst (λ t. Finished t answer line) (kept_part-long raw long.1) h)
    ]

-- the bytes up to the first line feed, and those behind it
pub at_feed : (bytes : List ℕ) (at : ℕ) → position is_line_feed bytes ≡ Some at → HasNoFeed (take at bytes) × (drop at bytes ≡ 10 ∷ drop 1 (drop at bytes))
at_feed bytes at e =
    let found = position-Some is_line_feed bytes at 0 e in
    let here : at < length bytes = found.0 in
    let feed : get_or bytes at 0 ≡ 10 = eqb-true (get_or bytes at 0) 10 found.1 in
    let next : suc at ≡ at + 1 = omega arith in
    let behind : drop (suc at) bytes ≡ drop 1 (drop at bytes) = ap (λ n. drop n bytes) next ∙ sym (drop-drop 1 at bytes) in (
      λ k d l.
          let below : k < at = omega (arith, l, length-take at bytes) in
          let within : k < length bytes = omega arith in
          rw (get_or-take at bytes k d below, get_or_default bytes k d 0 within) ((position-Some is_line_feed bytes at 0 e).2 k below),
      drop-cons bytes at 0 here ∙ (λ i. feed i ∷ behind i),
    )

-- a whole line was cut off
pub cut_off : (now gathered finished : Buffered) (answer : Next) (at : ℕ) → HasNoFeed now.begun → position is_line_feed now.rest ≡ Some at
    → gathered.begun ≡ kept_part (now.begun ++ take at now.rest) → gathered.rest ≡ drop at now.rest → Finished gathered.begun answer finished.line
    → finished.begun ≡ [] → finished.rest ≡ drop 1 gathered.rest → CutOff now answer finished
cut_off now gathered finished answer at no_feed feed begun rest done nothing behind =
    let found = at_feed now.rest at feed in
    record {
      raw = now.begun ++ take at now.rest;
      no_feed = All-append (λ byte. is_line_feed byte ≡ false) now.begun (take at now.rest) no_feed found.0;
      whole =
          ap (λ t. now.begun ++ t) (sym (take-append-drop at now.rest) ∙ ap (λ t. take at now.rest ++ t) (found.1 ∙ ap (λ t. 10 ∷ t) (ap (drop 1) (sym rest) ∙ sym behind)))
          ∙ sym (append_assoc now.begun (take at now.rest) (10 ∷ finished.rest));
      finished = Finished-kept (now.begun ++ take at now.rest) answer finished.line (subst (λ t. Finished t answer finished.line) begun done);
      nothing_begun = nothing;
    }

-- the answer to the last bytes, where there are some
pub LastFinished-some : (begun : List ℕ) (answer : Next) (line : Option (List ℕ)) → (begun ≡ [] → ⊥) → Finished begun answer line → LastFinished begun answer line
LastFinished-some [] answer line some h = absurd (some refl)
LastFinished-some (byte ∷ bytes) answer line some h = h

-- a byte is left behind the bytes that were moved, where there was one
pub room_for_feed : (chunk rest : List ℕ) (from to at : ℕ) → drop from (take to chunk) ≡ drop at rest → at < length rest → from + 1 ≤ to
room_for_feed chunk rest from to at e h =
    omega (arith, h, ap length e, length-drop from (take to chunk), length-take to chunk, length-drop at rest)
