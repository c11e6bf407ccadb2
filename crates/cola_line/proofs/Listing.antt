-- Rows that are written one by one, as the text of one reply.
use Rattle.std.proofs.Common.{◌≡◌, inl, inr, ℕ, suc, ◌+◌, ◌-◌, ◌<◌, ◌≤◌, min, true, false, List, [], ◌∷◌, ◌++◌, length, take, drop, Option, Some, None, Result, Ok, Err, refl, sym, ap, ◌∙◌, subst, append_assoc, length-append, arith, codes, decimal, zero}
use Rattle.std.specs.Prelude.{⊤, OnSome}
use borrow.Author.Tests.{ltb-true, ltb-false}
use Rattle.std.proofs.lemmas.List.{take_all, append-nil}
use Rattle.std.proofs.Math.Seq.{take-append_seam}
use Rattle.std.proofs.lemmas.Grind.{flat_map-append}
use Rattle.cola_io.specs.Streams.{Appended}
use Rattle.cola_io.proofs.StreamLemmas.{Appended-then}
use Rattle.cola_spec.specs.Reply.{Failure, Fault, Rows, Cut, Failed, row_text, rows_text, line, failure_text, reply_text}
use Rattle.cola_cell.specs.declared.fault.ReadFault.{ReadFault}
use Rattle.cola_cell.specs.declared.fault.ReadFault.TheVariants as read
use Rattle.cola_table.specs.Answers.{OnlyDeviceRead, NextAnswers, ReadFaults}
use Rattle.cola_spec.specs.Machine.{kind_of}
use Rattle.cola_table.specs.Replies.{read_failure}
use Rattle.cola_line.specs.Replied.{Wrote, KindFaults}
use Rattle.cola_line.specs.Given.{wants}
use Rattle.cola_line.specs.Listed.{RowsFor, first_of}
use Rattle.cola_line.proofs.Turns.{read_faults}

-- a front of two texts

pub take_beyond : {A : Type 0} (a b : List A) (n : ℕ) → take (length a + n) (a ++ b) ≡ a ++ take n b
take_beyond [] b n = ap (λ k. take k b) (omega arith)
take_beyond (x ∷ a) b n =
    let e : length (x ∷ a) + n ≡ suc (length a + n) = omega arith in
    ap (λ k. take k (x ∷ (a ++ b))) e ∙ ap (λ t. x ∷ t) (take_beyond a b n)

pub wrote_after : {A E : Type 0} (a b : List ℕ) (result : Result A E) (x y z : Option (List ℕ)) → Appended a x y → Wrote b result y z → Wrote (a ++ b) result x z
wrote_after a b (Ok v) x y z first next = Appended-then a b x y z first next
wrote_after a b (Err e) x y z first next =
    (length a + next.0, subst (λ t. Appended t x z) (sym (take_beyond a b next.0)) (Appended-then a (take next.0 b) x y z first next.1))

zero_of : (n : ℕ) → min 0 n ≡ 0
zero_of n = omega arith

none_of : (n : ℕ) → min n 0 ≡ 0
none_of n = omega arith

take_none : (n : ℕ) → take {A = ℕ} n [] ≡ []
take_none zero = refl
take_none (suc n) = refl

shorter : (k n : ℕ) → min (suc k) (suc n) ≡ suc (min k n)
shorter k n = omega arith

take_front : (a c : List ℕ) (n : ℕ) → take (min n (length a)) (a ++ c) ≡ take n a
take_front [] c n = ap (λ k. take k c) (none_of n) ∙ sym (take_none n)
take_front (x ∷ a) c n = elim n as (λ k. take (min k (length (x ∷ a))) ((x ∷ a) ++ c) ≡ take k (x ∷ a)) [
  | zero ↦ ap (λ k. take k (x ∷ (a ++ c))) (zero_of (length (x ∷ a)))
  | suc k ↦ ap (λ j. take j (x ∷ (a ++ c))) (shorter k (length a)) ∙ ap (λ t. x ∷ t) (take_front a c k)
]

-- some front of a text is some front of a longer one
pub wrote_front : (b c : List ℕ) (x y : Option (List ℕ)) → (n : ℕ) × Appended (take n b) x y → (n : ℕ) × Appended (take n (b ++ c)) x y
wrote_front b c x y front = (min front.0 (length b), subst (λ t. Appended t x y) (sym (take_front b c front.0)) front.1)

-- the rows written so far
pub record Listing (written written' : Option (List ℕ)) (rows : ℕ) (done : List (List ℕ × List ℕ)) : Type 0 where
  pub text : Appended (rows_text done) written written'
  pub number : rows ≡ length done

pub start_listing : (written : Option (List ℕ)) → Listing written written 0 []
start_listing None = record { text = tt; number = refl }
start_listing (Some bytes) = record { text = sym (append-nil bytes); number = refl }

rows_push : (done : List (List ℕ × List ℕ)) (pair : List ℕ × List ℕ) → rows_text (done ++ pair ∷ []) ≡ rows_text done ++ row_text pair
rows_push done pair = flat_map-append row_text done (pair ∷ []) ∙ ap (λ t. rows_text done ++ t) (append-nil (row_text pair))

pub one_more_row : (w w' w'' : Option (List ℕ)) (rows : ℕ) (done : List (List ℕ × List ℕ)) (pair : List ℕ × List ℕ) → Listing w w' rows done → Appended (row_text pair) w' w'' → Listing w w'' (rows + 1) (done ++ pair ∷ [])
one_more_row w w' w'' rows done pair so_far row = record {
  text = subst (λ t. Appended t w w'') (sym (rows_push done pair)) (Appended-then (rows_text done) (row_text pair) w w' w'' so_far.text row);
  number = omega (arith, so_far.number, length-append done (pair ∷ []));
}

-- no more rows than are wanted
abbrev pub IsWithin : Option ℕ → ℕ → Type 0
IsWithin None rows = ⊤
IsWithin (Some most) rows = rows ≤ most

pub start_within : (most : Option ℕ) → IsWithin most 0
start_within None = tt
start_within (Some most) = omega arith

pub still_within : (most : Option ℕ) (rows : ℕ) → wants most rows ≡ true → IsWithin most (rows + 1)
still_within None rows wanted = tt
still_within (Some most) rows wanted = let below : rows < most = ltb-true rows most wanted in omega arith

take_first : {A : Type 0} (done ahead : List A) (n : ℕ) → length done ≤ n → take n (done ++ ahead) ≡ done ++ take (n - length done) ahead
take_first done ahead n least = ap (λ k. take k (done ++ ahead)) (omega arith) ∙ take_beyond done ahead (n - length done)

-- no more are wanted
pub no_more : (most : Option ℕ) (rows : ℕ) (done ahead : List (List ℕ × List ℕ)) → rows ≡ length done → IsWithin most rows → wants most rows ≡ false → first_of most (done ++ ahead) ≡ done
no_more None rows done ahead number within unwanted = cc
no_more (Some most) rows done ahead number within unwanted =
    let above : most ≤ rows = ltb-false rows most unwanted in
    ap (λ k. take k (done ++ ahead)) (omega arith) ∙ take-append_seam done ahead

-- no more are left
pub none_left : (most : Option ℕ) (rows : ℕ) (done : List (List ℕ × List ℕ)) → rows ≡ length done → IsWithin most rows → first_of most (done ++ []) ≡ done
none_left None rows done number within = append-nil done
none_left (Some most) rows done number within = ap (λ d. take most d) (append-nil done) ∙ take_all most done (omega arith)

-- one more is wanted
pub next_wanted : (most : Option ℕ) (rows : ℕ) (done : List (List ℕ × List ℕ)) (pair : List ℕ × List ℕ) (rest : List (List ℕ × List ℕ)) → rows ≡ length done → wants most rows ≡ true → (more : List (List ℕ × List ℕ)) × (first_of most (done ++ pair ∷ rest) ≡ done ++ pair ∷ more)
next_wanted None rows done pair rest number wanted = (rest, refl)
next_wanted (Some most) rows done pair rest number wanted =
    let below : rows < most = ltb-true rows most wanted in
    let e : most - length done ≡ suc (most - suc rows) = omega arith in
    (take (most - suc rows) rest, take_first done (pair ∷ rest) most (omega arith) ∙ ap (λ k. done ++ take k (pair ∷ rest)) e)

-- those done are a front of those wanted
pub front_done : (most : Option ℕ) (rows : ℕ) (done ahead : List (List ℕ × List ℕ)) → rows ≡ length done → IsWithin most rows → take (length done) (first_of most (done ++ ahead)) ≡ done
front_done None rows done ahead number within = take-append_seam done ahead
front_done (Some most) rows done ahead number within =
    ap (λ t. take (length done) t) (take_first done ahead most (omega arith)) ∙ take-append_seam done (take (most - length done) ahead)

-- The text of the reply

pub wrote_end : {A E : Type 0} (result : Result A E) (w w' w'' : Option (List ℕ)) (rows : ℕ) (done : List (List ℕ × List ℕ)) → Listing w w' rows done → Wrote (line (codes "end " ++ decimal rows)) result w' w'' → Wrote (reply_text false 0 (Rows done)) result w w''
wrote_end result w w' w'' rows done so_far wrote =
    wrote_after (rows_text done) (line (codes "end " ++ decimal (length done))) result w w' w'' so_far.text
    (subst (λ k. Wrote (line (codes "end " ++ decimal k)) result w' w'') so_far.number wrote)

pub wrote_cut : {A E : Type 0} (result : Result A E) (w w' w'' : Option (List ℕ)) (rows : ℕ) (done : List (List ℕ × List ℕ)) (failure : Failure) → Listing w w' rows done → Wrote (reply_text false 0 (Failed failure)) result w' w'' → Wrote (reply_text false 0 (Cut done failure)) result w w''
wrote_cut result w w' w'' rows done failure so_far wrote =
    wrote_after (rows_text done) (line (failure_text failure)) result w w' w'' so_far.text wrote

-- a row that the sink refused: a front of the rows given was written
pub wrote_some : (A : Type 0) {E : Type 0} (e : E) (w w' w'' : Option (List ℕ)) (rows : ℕ) (done : List (List ℕ × List ℕ)) (pair : List ℕ × List ℕ) → Listing w w' rows done → Wrote {A = A} (row_text pair) (Err e) w' w'' → (n : ℕ) × Appended (take n (rows_text (done ++ pair ∷ []))) w w''
wrote_some A e w w' w'' rows done pair so_far wrote =
    subst (λ t. (n : ℕ) × Appended (take n t) w w'') (sym (rows_push done pair)) (wrote_after {A = A} (rows_text done) (row_text pair) (Err e) w w' w'' so_far.text wrote)

regroup : (a b c d : List ℕ) → (a ++ (b ++ c)) ++ d ≡ a ++ (b ++ (c ++ d))
regroup a b c d = simp append_assoc

-- a row that the sink refused, of rows that go on
pub wrote_row : (A : Type 0) {E : Type 0} (e : E) (w w' w'' : Option (List ℕ)) (rows : ℕ) (done more : List (List ℕ × List ℕ)) (pair : List ℕ × List ℕ) → Listing w w' rows done → Wrote {A = A} (row_text pair) (Err e) w' w'' → Wrote {A = A} (reply_text false 0 (Rows (done ++ pair ∷ more))) (Err e) w w''
wrote_row A e w w' w'' rows done more pair so_far wrote =
    let end : List ℕ = line (codes "end " ++ decimal (length (done ++ pair ∷ more))) in
    let whole : rows_text (done ++ pair ∷ more) ++ end ≡ rows_text done ++ (row_text pair ++ (rows_text more ++ end)) =
    ap (λ t. t ++ end) (flat_map-append row_text done (pair ∷ more)) ∙ regroup (rows_text done) (row_text pair) (rows_text more) end in
    subst (λ t. Wrote {A = A} t (Err e) w w'') (sym whole)
    (wrote_after {A = A} (rows_text done) (row_text pair ++ (rows_text more ++ end)) (Err e) w w' w'' so_far.text
    (wrote_front (row_text pair) (rows_text more ++ end) w' w'' wrote))

-- What a refusal counts

-- a failure after calls that counted no fault has the faults of its kind
pub failure_faults : (A : Type 0) (done : List (List ℕ × List ℕ)) (fault : ReadFault) (failure : Failure) (f f' f'' : ℕ) → failure ≡ read_failure fault → f' ≡ f → ReadFaults {A = A} (Err fault) f' f'' → KindFaults (kind_of (Cut done failure)) f f''
failure_faults A done fault failure f f' f'' is stays counts =
    subst (λ (r : Failure). KindFaults (kind_of (Cut done r)) f f'') (sym is) (subst (λ g. KindFaults (kind_of (Cut done (read_failure fault))) g f'') stays (read_faults A fault f' f'' counts))

only_fault : (fault : ReadFault) → OnlyDeviceRead fault → read_failure fault ≡ Fault
only_fault read.Device only = refl
only_fault (read.BadCell cell) only = absurd only

-- the rows that were done when a fault of the device came are a front of those asked for
pub rows_cut : (most : Option ℕ) (rows : ℕ) (done ahead all : List (List ℕ × List ℕ)) (fault : ReadFault) (failure : Failure) → failure ≡ read_failure fault → OnlyDeviceRead fault → all ≡ done ++ ahead → rows ≡ length done → IsWithin most rows → RowsFor (first_of most all) (Cut done failure)
rows_cut most rows done ahead all fault failure is only whole number within =
    let front : take (length done) (first_of most all) ≡ done = ap (λ t. take (length done) (first_of most t)) whole ∙ front_done most rows done ahead number within in
    let device : failure ≡ Fault = is ∙ only_fault fault only in
    inr (length done, ap (Cut done) device ∙ ap (λ t. Cut t Fault) (sym front))

-- the rows that were done when none was left are those asked for
pub rows_ended : (most : Option ℕ) (rows : ℕ) (done ahead all : List (List ℕ × List ℕ)) → ahead ≡ [] → all ≡ done ++ ahead → rows ≡ length done → IsWithin most rows → RowsFor (first_of most all) (Rows done)
rows_ended most rows done ahead all none whole number within =
    inl (ap Rows (sym (ap (first_of most) (whole ∙ ap (λ t. done ++ t) none) ∙ none_left most rows done number within)))

-- and when no more were wanted
pub rows_enough : (most : Option ℕ) (rows : ℕ) (done ahead all : List (List ℕ × List ℕ)) → all ≡ done ++ ahead → rows ≡ length done → IsWithin most rows → wants most rows ≡ false → RowsFor (first_of most all) (Rows done)
rows_enough most rows done ahead all whole number within unwanted =
    inl (ap Rows (sym (ap (first_of most) whole ∙ no_more most rows done ahead number within unwanted)))

-- the rest of a list after a front of it
drop_front : {A : Type 0} (front rest : List A) → drop (length front) (front ++ rest) ≡ rest
drop_front [] rest = refl
drop_front (x ∷ front) rest = drop_front front rest

front_and_rest : {A : Type 0} (front rest whole : List A) → whole ≡ front ++ rest → front ++ drop (length front) whole ≡ whole
front_and_rest front rest whole is = ap (λ w. front ++ drop (length front) w) is ∙ ap (λ r. front ++ r) (drop_front front rest) ∙ sym is

-- a row that is next is among those asked for, and the others are what follows it
pub rows_go_on : (most : Option ℕ) (rows : ℕ) (done rest all : List (List ℕ × List ℕ)) (pair : List ℕ × List ℕ) → all ≡ done ++ pair ∷ rest → rows ≡ length done → wants most rows ≡ true → RowsFor (first_of most all) (Rows (done ++ pair ∷ drop (length (done ++ pair ∷ [])) (first_of most all)))
rows_go_on most rows done rest all pair whole number wanted =
    let next = next_wanted most rows done pair rest number wanted in
    let front : List (List ℕ × List ℕ) = done ++ pair ∷ [] in
    let is : first_of most all ≡ front ++ next.0 = ap (first_of most) whole ∙ next.1 ∙ sym (append_assoc done (pair ∷ []) next.0) in
    inl (ap Rows (sym (append_assoc done (pair ∷ []) (drop (length front) (first_of most all))) ∙ front_and_rest front next.0 (first_of most all) is))

pub one_more_done : {A : Type 0} (done rest all ahead : List A) (pair : A) → all ≡ done ++ ahead → ahead ≡ pair ∷ rest → all ≡ (done ++ pair ∷ []) ++ rest
one_more_done done rest all ahead pair whole next = whole ∙ ap (λ t. done ++ t) next ∙ sym (append_assoc done (pair ∷ []) rest)

-- What a walk gave

pub next_some : (Ahead : List (List ℕ × List ℕ) → Type 0) (pairs : List (List ℕ × List ℕ)) (answer : Option (List ℕ × List ℕ)) (pair : List ℕ × List ℕ) → answer ≡ Some pair → NextAnswers Ahead pairs (Ok answer) → (rest : List (List ℕ × List ℕ)) × (pairs ≡ pair ∷ rest) × Ahead rest
next_some Ahead pairs answer pair is given = subst (λ a. NextAnswers Ahead pairs (Ok a)) is given

pub next_none : (Ahead : List (List ℕ × List ℕ) → Type 0) (pairs : List (List ℕ × List ℕ)) (answer : Option (List ℕ × List ℕ)) → answer ≡ None → NextAnswers Ahead pairs (Ok answer) → (pairs ≡ []) × Ahead []
next_none Ahead pairs answer is given = subst (λ a. NextAnswers Ahead pairs (Ok a)) is given

pub on_some : {A : Type 0} (P : Type 0) (answer : Option A) (x : A) → answer ≡ Some x → OnSome answer P → P
on_some P answer x is given = subst (λ a. OnSome a P) is given
