-- Laws of what a device asks of its file.
use Rattle.std.proofs.Common.{◌≡◌, ⊎_elim, ℕ, ◌+◌, ◌<◌, ◌≤◌, List, ◌++◌, length, take, drop, Option, Some, None, Result, Ok, Err, refl, sym, ◌∙◌, ap, subst, arith, length-append, length-take, length-drop, take-append-drop}
use Rattle.std.proofs.lemmas.Bool.{cases_lt}
use Rattle.std.proofs.lemmas.List.{length-take-le, drop_all, take_all}
use Rattle.std.specs.Prelude.{IsErr, OnOk}
use Rattle.std.specs.declared.io.Error.{Error}
use Rattle.cola_device.specs.declared.device.DeviceFault.{DeviceFault}
use Rattle.cola_device.specs.Bytes.{part, splice}
use Rattle.cola_device.proofs.BytesLemmas.{part-append, length-splice, part-splice_below, splice-append, splice_comm}
use Rattle.cola_filedev.specs.declared.handle.Handle.{Handle}
use Rattle.cola_filedev.specs.declared.handle.Handle.TheVariants.{Unopened, Open, Refused}
use Rattle.cola_filedev.specs.Handle.{IsRefused}
use Rattle.cola_filedev.specs.Opening.{Wanted, Openings, Works, handle_of, SameAnswer, WorkedOn, Asked}
use Rattle.cola_filedev.specs.Work.{CallAt, InPieces, Takes, Taking, Syncs, Written, Cuts, Laid, whole, piece, again, refused, ended, beyond, elsewhere, header_last, not_synced, not_behind, emptied, not_emptied}
use Rattle.cola_filedev.specs.Laws.{LeftRefused, StaysRefused, CarriedOut, HidesNone, Sets, GivesItsOwn, TakesItsOwn, SyncsItsOwn, HeaderLast, waits, follows}

no-err : {T : Type 0} (E : Type 0) (value : T) → IsErr {E = E} (Ok value) → ⊥
no-err E value is = cc

refused-answer : {O F : Type 0} (answer : Result F Error) → IsErr answer → handle_of {O = O} answer ≡ Refused
refused-answer (Ok file) is = elim (no-err Error file is) [ ]
refused-answer (Err error) is = refl

same-answer : {F T : Type 0} (Work : Works F T) (old new : F) (value : T) (answer : Result T Error) → Work old answer new →
    SameAnswer {E = DeviceFault} answer (Ok value) → Work old (Ok value) new
same-answer Work old new value (Ok found) work same = subst (λ v. Work old (Ok v) new) (sym same) work
same-answer Work old new value (Err error) work same = elim same [ ]

module _ {O F T : Type 0} (Work : Works F T) where
  work-refused : (result : Result T DeviceFault) (now : Handle O F) → WorkedOn Work Refused result now → LeftRefused result now
  work-refused result (Unopened opener) work = elim work [ ]
  work-refused result (Open file) work = elim work [ ]
  work-refused result Refused work = (work, tt)

  left-refused : (asked now : Handle O F) (result : Result T DeviceFault) → asked ≡ Refused → WorkedOn Work asked result now → LeftRefused result now
  left-refused asked now result is work =
      work-refused result now (subst (λ (handle : Handle O F). WorkedOn Work handle result now) is work)

  later-refused : (Opened : Openings O F) (wanted : Option Wanted) (before now : Handle O F) (result : Result T DeviceFault) →
      IsRefused before → Asked Opened wanted Work before result now → LeftRefused result now
  later-refused Opened wanted (Unopened opener) now result is call = elim is [ ]
  later-refused Opened wanted (Open file) now result is call = elim is [ ]
  later-refused Opened (Some wanted) Refused now result is call = left-refused call.asked now result call.opening call.work
  later-refused Opened None Refused now result is call = left-refused call.asked now result call.opening call.work

  opening-refused : (Opened : Openings O F) (wanted : Wanted) (opener : O) (now : Handle O F) (result : Result T DeviceFault) →
      (call : Asked Opened (Some wanted) Work (Unopened opener) result now) → IsErr call.opening.answer → LeftRefused result now
  opening-refused Opened wanted opener now result call is =
      left-refused call.asked now result (call.opening.is ∙ refused-answer call.opening.answer is) call.work

  carried-out : (asked now : Handle O F) (value : T) → WorkedOn {E = DeviceFault} Work asked (Ok value) now → CarriedOut Work value now
  carried-out (Open old) (Open new) value work = record { old = old; new = new; left = refl; work = same-answer Work old new value work.answer work.work work.same }
  carried-out (Open old) (Unopened opener) value work = elim work [ ]
  carried-out (Open old) Refused value work = elim work [ ]
  carried-out (Unopened opener) (Open new) value work = elim work [ ]
  carried-out (Unopened opener) (Unopened other) value work = elim work [ ]
  carried-out (Unopened opener) Refused value work = elim work [ ]
  carried-out Refused (Open new) value work = elim work [ ]
  carried-out Refused (Unopened opener) value work = elim work [ ]
  carried-out Refused Refused value work = elim (no-err DeviceFault value work) [ ]

  pub hides-none : (Opened : Openings O F) → HidesNone Opened Work
  hides-none Opened wanted before now value call = carried-out call.asked now value call.work

  pub stays-refused : (Opened : Openings O F) → StaysRefused Opened Work
  stays-refused Opened = record {
    opening = λ wanted opener result now call is. opening-refused Opened wanted opener now result call is;
    later = λ wanted before now result is call. later-refused Opened wanted before now result is call;
  }

module _ {F : Type 0} (Cut : Cuts F) (size_of : F → ℕ) (sets : Sets Cut size_of) (old new : F) (size : ℕ) where
  pub laid-size : Laid Cut size old (Ok tt) new → size_of new ≡ size
  laid-size (emptied {middle} first second) = sets middle new size (Ok tt) second

  pub refused-size : (error : Error) → size_of old ≤ size → Laid Cut size old (Err error) new → size_of new ≤ size
  refused-size error small (emptied {middle} first second) =
      omega (arith, sets old middle 0 (Ok tt) first, sets middle new size (Err error) second)
  refused-size error small (not_emptied first) = omega (arith, small, sets old new 0 (Err error) first)

-- the bytes that a piece gave, and those that the rest gave
join-parts : (bytes between rest : List ℕ) (at count : ℕ) → count ≤ length between → take count between ≡ part bytes at count →
    (answer : Result (Unit {0}) Error) → OnOk answer (rest ≡ part bytes (at + count) (length rest)) →
    OnOk answer (take count between ++ rest ≡ part bytes at (length (take count between ++ rest)))
join-parts bytes between rest at count inside is (Err error) left = tt
join-parts bytes between rest at count inside is (Ok value) left =
    let long : count + length rest ≡ length (take count between ++ rest) = simp length-append (omega (arith, length-take-le count between inside)) in
    ap (λ (xs : List ℕ). xs ++ rest) is
    ∙ (ap (λ (xs : List ℕ). part bytes at count ++ xs) left
    ∙ (part-append bytes at count (length rest) ∙ ap (λ (n : ℕ). part bytes at n) long))

module _ {F : Type 0} (Gave : CallAt F) (bytes_of : F → List ℕ) (gives : GivesItsOwn Gave bytes_of) where
  pub read-whole : (old new : F) (at : ℕ) (before after : List ℕ) (answer : Result (Unit {0}) Error) → InPieces Gave old at before answer after new →
      (bytes_of new ≡ bytes_of old) × OnOk answer (after ≡ part (bytes_of old) at (length after))
  read-whole old new at before after answer whole = (refl, refl)
  read-whole old new at before after answer (piece {middle} {count} {between} {rest} call some more) =
      let left = read-whole middle new (at + count) (drop count between) rest answer more in
      let stay : bytes_of middle ≡ bytes_of old = gives.stay old middle at before between (Ok count) call in (
        left.0 ∙ stay,
        join-parts (bytes_of old) between rest at count (gives.count old middle at count before between call) (gives.given old middle at count before between call) answer
            (subst (λ (bytes : List ℕ). OnOk answer (rest ≡ part bytes (at + count) (length rest))) stay left.1),
      )
  read-whole old new at before after answer (again {middle} {between} {error} call is more) =
      let left = read-whole middle new at between after answer more in
      let stay : bytes_of middle ≡ bytes_of old = gives.stay old middle at before between (Err error) call in
      (left.0 ∙ stay, subst (λ (bytes : List ℕ). OnOk answer (after ≡ part bytes at (length after))) stay left.1)
  read-whole old new at before after answer (refused {error} call) = (gives.stay old new at before after (Err error) call, tt)
  read-whole old new at before after answer (ended call some) = (gives.stay old new at before after (Ok 0) call, tt)
  read-whole old new at before after answer (beyond far) = (refl, tt)

-- the bytes with a piece put there, and then the rest
join-splices : (bytes middle now from : List ℕ) (at count : ℕ) → count ≤ length from → at ≤ length bytes →
    middle ≡ splice bytes at (take count from) → (answer : Result (Unit {0}) Error) →
    OnOk answer (now ≡ splice middle (at + count) (drop count from)) → OnOk answer (now ≡ splice bytes at from)
join-splices bytes middle now from at count inside low is (Err error) left = tt
join-splices bytes middle now from at count inside low is (Ok value) left =
    left
    ∙ (ap (λ (xs : List ℕ). splice xs (at + count) (drop count from)) is
    ∙ (ap (λ (n : ℕ). splice (splice bytes at (take count from)) (at + n) (drop count from)) (sym (length-take-le count from inside))
    ∙ (sym (splice-append bytes at (take count from) (drop count from) low)
    ∙ ap (splice bytes at) (take-append-drop count from))))

module _ {F : Type 0} (Took : Takes F) (bytes_of : F → List ℕ) (takes : TakesItsOwn Took bytes_of) where
  -- no place is needed where nothing is put
  put-whole : (old new : F) (at : ℕ) (from after : List ℕ) (answer : Result (Unit {0}) Error) →
      (0 < length from → at + length from ≤ length (bytes_of old)) →
      InPieces (Taking Took) old at from answer after new → OnOk answer (bytes_of new ≡ splice (bytes_of old) at from)
  put-whole old new at from after answer inside whole = sym (take-append-drop at (bytes_of old))
  put-whole old new at from after answer inside (piece {middle} {count} {between} {rest} call some more) =
      let few : count ≤ length from = takes.count old middle at count from call.0 in
      let fits : at + length from ≤ length (bytes_of old) = inside (omega (arith, few, some)) in
      let is : bytes_of middle ≡ splice (bytes_of old) at (take count from) = takes.taken old middle at count from call.0 in
      let long : length (bytes_of middle) ≡ length (bytes_of old) =
      ap (λ (xs : List ℕ). length xs) is ∙ length-splice (bytes_of old) at (take count from) (simp length-take (omega (arith, fits))) in
      join-splices (bytes_of old) (bytes_of middle) (bytes_of new) from at count few (omega (arith, fits)) is answer
      (subst (λ (xs : List ℕ). OnOk answer (bytes_of new ≡ splice (bytes_of middle) (at + count) (drop count xs))) call.1
      (put-whole middle new (at + count) (drop count between) rest answer
      (λ left. rw (call.1, long) (simp length-drop (omega (arith, fits, few)))) more))
  put-whole old new at from after answer inside (again {middle} {between} {error} call is more) =
      let stay : bytes_of middle ≡ bytes_of old = takes.stay old middle at from error call.0 in
      subst (λ (bytes : List ℕ). OnOk answer (bytes_of new ≡ splice bytes at from)) stay
      (subst (λ (xs : List ℕ). OnOk answer (bytes_of new ≡ splice (bytes_of middle) at xs)) call.1
      (put-whole middle new at between after answer (λ some. rw (call.1, stay) (inside (subst (λ (xs : List ℕ). 0 < length xs) call.1 some))) more))
  put-whole old new at from after answer inside (refused call) = tt
  put-whole old new at from after answer inside (ended call some) = tt
  put-whole old new at from after answer inside (beyond far) = tt

  -- what stands before the place stays
  put-behind : (old new : F) (at : ℕ) (from after : List ℕ) (answer : Result (Unit {0}) Error) →
      (0 < length from → at + length from ≤ length (bytes_of old)) → (few : ℕ) → few ≤ at →
      InPieces (Taking Took) old at from answer after new → take few (bytes_of new) ≡ take few (bytes_of old)
  put-behind old new at from after answer inside few low whole = refl
  put-behind old new at from after answer inside few low (piece {middle} {count} {between} {rest} call some more) =
      let less : count ≤ length from = takes.count old middle at count from call.0 in
      let fits : at + length from ≤ length (bytes_of old) = inside (omega (arith, less, some)) in
      let is : bytes_of middle ≡ splice (bytes_of old) at (take count from) = takes.taken old middle at count from call.0 in
      let long : length (bytes_of middle) ≡ length (bytes_of old) =
      ap (λ (xs : List ℕ). length xs) is ∙ length-splice (bytes_of old) at (take count from) (simp length-take (omega (arith, fits))) in
      put-behind middle new (at + count) (drop count between) rest answer
      (λ left. rw (call.1, long) (simp length-drop (omega (arith, fits, less)))) few (omega (arith, low)) more
      ∙ (ap (take few) is ∙ part-splice_below (bytes_of old) at (take count from) 0 few (omega (arith, fits)) (omega (arith, low)))
  put-behind old new at from after answer inside few low (again {middle} {between} {error} call is more) =
      let stay : bytes_of middle ≡ bytes_of old = takes.stay old middle at from error call.0 in
      put-behind middle new at between after answer (λ some. rw (call.1, stay) (inside (subst (λ (xs : List ℕ). 0 < length xs) call.1 some))) few low more
      ∙ ap (take few) stay
  put-behind old new at from after answer inside few low (refused {error} call) = ap (take few) (takes.stay old new at from error call.0)
  put-behind old new at from after answer inside few low (ended call some) =
      ap (take few) (takes.taken old new at 0 from call.0 ∙ take-append-drop at (bytes_of old))
  put-behind old new at from after answer inside few low (beyond far) = refl

-- a header that is put where all that stands behind it was put before
module _ (bytes from : List ℕ) (inside : length from ≤ length bytes) where
  join-large : 512 < length from → splice (splice bytes 512 (drop 512 from)) 0 (take 512 from) ≡ splice bytes 0 from
  join-large large =
      let long : length (take 512 from) ≡ 512 = length-take-le 512 from (omega (arith, large)) in
      let place : 512 ≡ 0 + length (take 512 from) = omega (arith, long) in
      sym (splice_comm bytes 0 (take 512 from) 512 (drop 512 from) (simp length-drop (omega (arith, inside, large))) (omega (arith, long)))
      ∙ (ap (λ (n : ℕ). splice (splice bytes 0 (take 512 from)) n (drop 512 from)) place
      ∙ (sym (splice-append bytes 0 (take 512 from) (drop 512 from) (omega arith))
      ∙ ap (splice bytes 0) (take-append-drop 512 from)))

  join-small : length from ≤ 512 → splice (splice bytes 512 (drop 512 from)) 0 (take 512 from) ≡ splice bytes 0 from
  join-small small =
      ap (λ (xs : List ℕ). splice (splice bytes 512 xs) 0 (take 512 from)) (drop_all 512 from small)
      ∙ (ap (λ (xs : List ℕ). splice xs 0 (take 512 from)) (take-append-drop 512 bytes)
      ∙ ap (splice bytes 0) (take_all 512 from small))

  join-header : splice (splice bytes 512 (drop 512 from)) 0 (take 512 from) ≡ splice bytes 0 from
  join-header = ⊎_elim join-large join-small (cases_lt 512 (length from))

  -- there is room behind the header, if anything stands there
  room-behind : 0 < length (drop 512 from) → 512 + length (drop 512 from) ≤ length bytes
  room-behind some = let long = length-drop 512 from in omega (arith, some, long, inside)

  long-behind : length (splice bytes 512 (drop 512 from)) ≡ length bytes
  long-behind = ⊎_elim
      (λ (large : 512 < length from). length-splice bytes 512 (drop 512 from) (simp length-drop (omega (arith, inside, large))))
      (λ (small : length from ≤ 512). ap (λ (xs : List ℕ). length (splice bytes 512 xs)) (drop_all 512 from small) ∙ ap (λ (xs : List ℕ). length xs) (take-append-drop 512 bytes))
      (cases_lt 512 (length from))

module _ {F : Type 0} (Took : Takes F) (Synced : Syncs F) (bytes_of : F → List ℕ) (takes : TakesItsOwn Took bytes_of) (syncs : SyncsItsOwn Synced bytes_of) where
  pub write-whole : (old new : F) (at : ℕ) (from : List ℕ) (answer : Result (Unit {0}) Error) → at + length from ≤ length (bytes_of old) →
      Written Took Synced old at from answer new → OnOk answer (bytes_of new ≡ splice (bytes_of old) at from)
  write-whole old new at from answer inside (elsewhere some put) = put-whole Took bytes_of takes old new at from from answer (λ any. inside) put
  write-whole old new at from answer inside (header_last {behind} {synced} put settled head) =
      let low : length from ≤ length (bytes_of old) = omega (arith, inside) in
      let first : bytes_of behind ≡ splice (bytes_of old) 512 (drop 512 from) =
      put-whole Took bytes_of takes old behind 512 (drop 512 from) (drop 512 from) (Ok tt) (room-behind (bytes_of old) from low) put in
      let is : bytes_of synced ≡ splice (bytes_of old) 512 (drop 512 from) = syncs behind synced (Ok tt) settled ∙ first in
      let long : length (bytes_of synced) ≡ length (bytes_of old) =
      ap (λ (xs : List ℕ). length xs) is ∙ long-behind (bytes_of old) from low in
      subst (λ (bytes : List ℕ). OnOk answer (bytes_of new ≡ bytes))
      (ap (λ (xs : List ℕ). splice xs 0 (take 512 from)) is ∙ join-header (bytes_of old) from low)
      (put-whole Took bytes_of takes synced new 0 (take 512 from) (take 512 from) answer (λ any. rw long (simp length-take (omega (arith, inside)))) head)
  write-whole old new at from answer inside (not_synced put halted) = tt
  write-whole old new at from answer inside (not_behind put) = tt

  pub header-last : (old new : F) (from : List ℕ) (answer : Result (Unit {0}) Error) → length from ≤ length (bytes_of old) →
      Written Took Synced old 0 from answer new → HeaderLast Took Synced bytes_of old from answer new
  header-last old new from answer inside (elsewhere some put) = absurd (omega (arith, some))
  header-last old new from answer inside (header_last {behind} {synced} put settled head) =
      follows (put-whole Took bytes_of takes old behind 512 (drop 512 from) (drop 512 from) (Ok tt) (room-behind (bytes_of old) from inside) put) settled head
  header-last old new from answer inside (not_synced {behind} {error} put halted) =
      waits (ap (take 512) (syncs behind new (Err error) halted)
      ∙ put-behind Took bytes_of takes old behind 512 (drop 512 from) (drop 512 from) (Ok tt) (room-behind (bytes_of old) from inside) 512 (omega arith) put)
  header-last old new from answer inside (not_behind {error} put) =
      waits (put-behind Took bytes_of takes old new 512 (drop 512 from) (drop 512 from) (Err error) (room-behind (bytes_of old) from inside) 512 (omega arith) put)
