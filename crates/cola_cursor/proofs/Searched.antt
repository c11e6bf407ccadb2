-- Where the searches of runs stop, run by run, over what an object tells of its places.
use Rattle.std.proofs.Common.{◌≡◌, inl, inr, ℕ, suc, ◌+◌, ◌≤◌, ◌<◌, List, [], ◌∷◌, ◌++◌, length, drop, get_or, Ok, Err, refl, sym, ap, subst, ◌∙◌, arith, Bool, true, false, if◌then◌else◌, ◌==◌, ◌%◌}
use Rattle.std.proofs.Math.Seq.{drop-cons}
use Rattle.cola_cell.specs.declared.cell.Run.{Run}
use Rattle.cola_cell.specs.declared.fault.ReadFault.{ReadFault}
use Rattle.cola_cell.specs.declared.fault.ReadFault.TheVariants.{Device, BadCell}
use Rattle.cola_cell.specs.Held.{Held, Stamped}
use Rattle.cola_runs.specs.Search as laws
use Rattle.cola_look.specs.declared.seeking.Seat.{Seat}
use Rattle.cola_look.specs.Outcome.{Outcome, Found, BadAt, Open, and_then, Answers}
use Rattle.cola_look.specs.Seek.{found_in, as_seat, turns_from}
use Rattle.cola_look.proofs.SeekLemmas.{GoesOn, answers_whole, device_answers}
use Rattle.cola_cursor.specs.Seeking.{length_of_first, places_told}
use Rattle.std.proofs.lemmas.List.{drop_all}

-- the same answer, seen otherwise
pub answers_seen : {A T U : Type 0} (whole : Outcome A) (view : T → A) (other : U → A) (t : T) (u : U) → other u ≡ view t → Answers whole view (Ok t) → Answers whole other (Ok u)
answers_seen Open view other t u e h = tt
answers_seen (Found a) view other t u e h = e ∙ h
answers_seen (BadAt n) view other t u e h = absurd h

pub refusal_seen : {A T U : Type 0} (whole : Outcome A) (view : T → A) (other : U → A) (fault : ReadFault) → Answers whole view (Err fault) → Answers whole other (Err fault)
refusal_seen Open view other fault h = tt
refusal_seen (Found a) view other Device h = tt
refusal_seen (Found a) view other (BadCell number) h = absurd h
refusal_seen (BadAt n) view other Device h = tt
refusal_seen (BadAt n) view other (BadCell number) h = h

-- places before those that are left
abbrev pub with_places : List ℕ → Outcome (List ℕ) → Outcome (List ℕ)
with_places [] rest = rest
with_places (place ∷ before) rest = and_then (with_places before rest) (λ places. Found (place ∷ places))

with_one_more : (before : List ℕ) (place : ℕ) (rest : Outcome (List ℕ)) → with_places (before ++ place ∷ []) rest ≡ with_places before (and_then rest (λ places. Found (place ∷ places)))
with_one_more [] place rest = refl
with_one_more (p ∷ before) place rest = ap (λ o. and_then o (λ places. Found (p ∷ places))) (with_one_more before place rest)

with_none : (before : List ℕ) → with_places before (Found []) ≡ Found before
with_none [] = refl
with_none (p ∷ before) = ap (λ o. and_then o (λ places. Found (p ∷ places))) (with_none before)

with_open : (before : List ℕ) → with_places before Open ≡ Open
with_open [] = refl
with_open (p ∷ before) = ap (λ o. and_then o (λ places. Found (p ∷ places))) (with_open before)

with_bad : (before : List ℕ) (n : ℕ) → with_places before (BadAt n) ≡ BadAt n
with_bad [] n = refl
with_bad (p ∷ before) n = ap (λ o. and_then o (λ places. Found (p ∷ places))) (with_bad before n)

joined : {A : Type 0} {whole middle rest : Outcome A} → GoesOn whole middle → GoesOn middle rest → GoesOn whole rest
joined (inl e) g = inl e
joined (inr e) (inl f) = inl (e ∙ f)
joined (inr e) (inr f) = inr (e ∙ f)

left_from : (runs : List Run) (i : ℕ) (d : Run) → i < length runs → drop i runs ≡ get_or runs i d ∷ drop (i + 1) runs
left_from runs i d l = let e : suc i ≡ i + 1 = omega arith in drop-cons runs i d l ∙ ap (λ n. get_or runs i d ∷ drop n runs) e

-- a search turns to at most two blocks
pub two_at_most : (start : ℕ) → turns_from start ≤ 2
two_at_most start = by_eight (start % 8 == 0)
  where
    by_eight : (b : Bool) → (if b then 1 else 2) ≤ 2
    by_eight true = omega arith
    by_eight false = omega arith

module _ (held : Held) (key : List ℕ) (start : ℕ) where
  module _ (run : Run) (runs : List Run) (before : List ℕ) where
    -- what follows from the search of the first run
    abbrev next_of : laws.Seat Stamped → Outcome (List ℕ)
    next_of seat = and_then (places_told held key seat.link runs) (λ places. Found (seat.pos ∷ places))

    answered : (seat : Seat) (whole : Outcome (laws.Seat Stamped)) → Answers whole as_seat (Ok seat) →
        GoesOn (with_places before (and_then whole next_of)) (with_places (before ++ seat.pos ∷ []) (places_told held key seat.link runs))
    answered seat Open h = inl (with_open before)
    answered seat (Found a) h =
        inr (ap (λ x. with_places before (next_of x)) (sym h) ∙ sym (with_one_more before seat.pos (places_told held key seat.link runs)))
    answered seat (BadAt n) h = absurd h

    refused : {T : Type 0} (view : T → List ℕ) (fault : ReadFault) (whole : Outcome (laws.Seat Stamped)) → Answers whole as_seat (Err fault) → Answers (with_places before (and_then whole next_of)) view (Err fault)
    refused view Device whole h = device_answers (with_places before (and_then whole next_of)) view
    refused view (BadCell number) Open h = subst (λ o. Answers o view (Err (BadCell number))) (sym (with_open before)) tt
    refused view (BadCell number) (Found a) h = absurd h
    refused view (BadCell number) (BadAt n) h = subst (λ o. Answers o view (Err (BadCell number))) (sym (with_bad before n)) h

  module _ (runs : List Run) (d : Run) (i next_len : ℕ) (whole : Outcome (List ℕ)) (before : List ℕ) (goes : GoesOn whole (with_places before (places_told held key start (drop i runs)))) where
    -- one run more
    pub told_next : (seat : Seat) (now : List ℕ) → i < length runs → next_len ≡ length_of_first (drop (i + 1) runs) → Answers (found_in held (get_or runs i d) next_len start key) as_seat (Ok seat) →
        now ≡ before ++ seat.pos ∷ [] → GoesOn whole (with_places now (places_told held key seat.link (drop (i + 1) runs)))
    told_next seat now l n h e =
        let rest : List Run = drop (i + 1) runs in
        let E : ℕ → Type 0 = λ m. Answers (found_in held (get_or runs i d) m start key) as_seat (Ok seat) in
        let on = answered (get_or runs i d) rest before seat (found_in held (get_or runs i d) (length_of_first rest) start key) (subst E n h) in
        let W : List Run → Type 0 = λ rs. GoesOn (with_places before (places_told held key start rs)) (with_places (before ++ seat.pos ∷ []) (places_told held key seat.link rest)) in
        subst (λ ps. GoesOn whole (with_places ps (places_told held key seat.link rest))) (sym e) (joined goes (subst W (sym (left_from runs i d l)) on))

    -- a refused search of a run is a refusal of them all
    pub told_refused : {T : Type 0} (view : T → List ℕ) (fault : ReadFault) → i < length runs → next_len ≡ length_of_first (drop (i + 1) runs) →
        Answers (found_in held (get_or runs i d) next_len start key) as_seat (Err fault) → Answers whole view (Err fault)
    told_refused view fault l n h =
        let rest : List Run = drop (i + 1) runs in
        let E : ℕ → Type 0 = λ m. Answers (found_in held (get_or runs i d) m start key) as_seat (Err fault) in
        let W : List Run → Type 0 = λ rs. Answers (with_places before (places_told held key start rs)) view (Err fault) in
        answers_whole whole (with_places before (places_told held key start (drop i runs))) view (Err fault) goes
        (subst W (sym (left_from runs i d l)) (refused (get_or runs i d) rest before view fault (found_in held (get_or runs i d) (length_of_first rest) start key) (subst E n h)))

    -- no run is left
    pub told_whole : {T : Type 0} (view : T → List ℕ) (t : T) → length runs ≤ i → view t ≡ before → Answers whole view (Ok t)
    told_whole view t l e =
        let W : List Run → Type 0 = λ rs. Answers (with_places before (places_told held key start rs)) view (Ok t) in
        answers_whole whole (with_places before (places_told held key start (drop i runs))) view (Ok t) goes
        (subst W (sym (drop_all i runs l)) (subst (λ o. Answers o view (Ok t)) (sym (with_none before)) e))
