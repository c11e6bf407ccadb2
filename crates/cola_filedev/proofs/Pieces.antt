-- A range that is asked for in calls one after the other.
use Rattle.std.proofs.Common.{◌≡◌, ⊎_elim, ℕ, ◌+◌, ◌-◌, ◌<◌, ◌≤◌, List, [], ◌++◌, length, take, drop, min, Result, Ok, Err, sym, ◌∙◌, ap, subst, arith, add_assoc, append_assoc, append-nil, length-append, length-take, length-drop}
use Rattle.std.proofs.lemmas.Bool.{cases_lt}
use Rattle.std.proofs.lemmas.List.{length-take-le, take_at, drop_at, drop-drop, drop_all, take_all, take-append-drop}
use Rattle.std.proofs.Math.Seq.{take-append-add}
use Rattle.std.specs.IoError.{error_kind}
use Rattle.std.specs.declared.io.Error.{Error}
use Rattle.std.specs.declared.io.ErrorKind.TheVariants.{Interrupted}
use Rattle.cola_filedev.specs.Work.{CallAt, InPieces, whole, piece, again, refused, ended}

-- the bytes that were done with, and those that the last call left behind them
take-joined : (bytes between : List ℕ) (done count : ℕ) → done ≤ length bytes →
    take (done + count) (take done bytes ++ between) ≡ take done bytes ++ take count between
take-joined bytes between done count inside =
    ap (λ (n : ℕ). take (n + count) (take done bytes ++ between)) (sym (length-take-le done bytes inside))
    ∙ take-append-add (take done bytes) between count

drop-joined : (bytes between : List ℕ) (done count : ℕ) → done ≤ length bytes →
    drop (done + count) (take done bytes ++ between) ≡ drop count between
drop-joined bytes between done count inside =
    sym (drop-drop count done (take done bytes ++ between))
    ∙ ap (drop count) (drop_at (take done bytes) between done (length-take-le done bytes inside))

-- what is left of a range, as a call is given it
pub left-is : (bytes : List ℕ) (done : ℕ) → take (length bytes - done) (drop done bytes) ≡ drop done bytes
left-is bytes done = take_all (length bytes - done) (drop done bytes) (simp length-drop (omega arith))

pub length-left : (bytes : List ℕ) (done : ℕ) → length (take (length bytes - done) (drop done bytes)) ≡ length bytes - done
length-left bytes done = ap (λ (xs : List ℕ). length xs) (left-is bytes done) ∙ length-drop done bytes

module _ {F : Type 0} (Call : CallAt F) (first : F) (at : ℕ) (before : List ℕ) where
  -- what further calls make of the range, with so many bytes done
  abbrev pub Continues : F → ℕ → List ℕ → Type 0
  Continues file done bytes =
      (answer : Result (Unit {0}) Error) (rest : List ℕ) (new : F) →
      InPieces Call file (at + done) (drop done bytes) answer rest new →
      InPieces Call first at before answer (take done bytes ++ rest) new

  -- after a call that did a number of bytes
  pub after-piece : (file middle : F) (done count : ℕ) (bytes between : List ℕ) → done ≤ length bytes → 0 < count →
      Call file (at + done) (take (length bytes - done) (drop done bytes)) (Ok count) between middle → Continues file done bytes →
      Continues middle (done + count) (take done bytes ++ between)
  after-piece file middle done count bytes between inside some call so_far answer rest new more =
      let left : InPieces Call middle (at + done + count) (drop count between) answer rest new =
      subst (λ (n : ℕ). InPieces Call middle n (drop count between) answer rest new) (sym (add_assoc at done count))
      (subst (λ (xs : List ℕ). InPieces Call middle (at + (done + count)) xs answer rest new) (drop-joined bytes between done count inside) more) in
      let joined : take done bytes ++ (take count between ++ rest) ≡ take (done + count) (take done bytes ++ between) ++ rest =
      sym (append_assoc (take done bytes) (take count between) rest)
      ∙ ap (λ (xs : List ℕ). xs ++ rest) (sym (take-joined bytes between done count inside)) in
      subst (λ (xs : List ℕ). InPieces Call first at before answer xs new) joined
      (so_far answer (take count between ++ rest) new
      (piece (subst (λ (xs : List ℕ). Call file (at + done) xs (Ok count) between middle) (left-is bytes done) call) some left))

  -- after a call that was interrupted
  pub after-again : (file middle : F) (done : ℕ) (bytes between : List ℕ) (error : Error) → done ≤ length bytes →
      Call file (at + done) (take (length bytes - done) (drop done bytes)) (Err error) between middle → error_kind error ≡ Interrupted → Continues file done bytes →
      Continues middle done (take done bytes ++ between)
  after-again file middle done bytes between error inside call is so_far answer rest new more =
      let long : length (take done bytes) ≡ done = length-take-le done bytes inside in
      let left : InPieces Call middle (at + done) between answer rest new =
      subst (λ (xs : List ℕ). InPieces Call middle (at + done) xs answer rest new) (drop_at (take done bytes) between done long) more in
      subst (λ (xs : List ℕ). InPieces Call first at before answer (xs ++ rest) new) (sym (take_at (take done bytes) between done long))
      (so_far answer rest new
      (again (subst (λ (xs : List ℕ). Call file (at + done) xs (Err error) between middle) (left-is bytes done) call) is left))

  -- after one that was refused
  pub after-refused : (file new : F) (done : ℕ) (bytes between : List ℕ) (error : Error) →
      Call file (at + done) (take (length bytes - done) (drop done bytes)) (Err error) between new → Continues file done bytes →
      InPieces Call first at before (Err error) (take done bytes ++ between) new
  after-refused file new done bytes between error call so_far =
      so_far (Err error) between new
      (refused (subst (λ (xs : List ℕ). Call file (at + done) xs (Err error) between new) (left-is bytes done) call))

  -- after one that did none
  pub after-ended : (file new : F) (done count : ℕ) (bytes between : List ℕ) (error : Error) → count ≡ 0 → done < length bytes →
      Call file (at + done) (take (length bytes - done) (drop done bytes)) (Ok count) between new → Continues file done bytes →
      InPieces Call first at before (Err error) (take done bytes ++ between) new
  after-ended file new done count bytes between error none some call so_far =
      so_far (Err error) between new
      (ended
      (subst (λ (n : ℕ). Call file (at + done) (drop done bytes) (Ok n) between new) none
      (subst (λ (xs : List ℕ). Call file (at + done) xs (Ok count) between new) (left-is bytes done) call))
      (simp length-drop (omega arith)))

  -- with all bytes done
  pub after-all : (file : F) (done : ℕ) (bytes : List ℕ) → done ≡ length bytes → Continues file done bytes →
      InPieces Call first at before (Ok tt) bytes file
  after-all file done bytes is so_far =
      let none : drop done bytes ≡ [] = drop_all done bytes (omega (arith, is)) in
      let all : take done bytes ++ [] ≡ bytes =
      ap (λ (xs : List ℕ). take done bytes ++ xs) (sym none) ∙ take-append-drop done bytes in
      subst (λ (xs : List ℕ). InPieces Call first at before (Ok tt) xs file) all
      (so_far (Ok tt) [] file (subst (λ (xs : List ℕ). InPieces Call file (at + done) xs (Ok tt) [] file) (sym none) whole))

-- the bytes of a buffer whose rest a call filled
pub put-rest : (bytes between : List ℕ) (done : ℕ) → take done bytes ++ (between ++ drop (length bytes - done) (drop done bytes)) ≡ take done bytes ++ between
put-rest bytes between done =
    ap (λ (xs : List ℕ). take done bytes ++ (between ++ xs))
    (drop-drop (length bytes - done) done bytes ∙ drop_all (done + (length bytes - done)) bytes (omega arith))
    ∙ ap (λ (xs : List ℕ). take done bytes ++ xs) (append-nil between)

-- as long as it was, if the call left as many bytes in it as it was given
pub length-joined : (bytes between : List ℕ) (done : ℕ) → done ≤ length bytes → length between ≡ length (take (length bytes - done) (drop done bytes)) → length (take done bytes ++ between) ≡ length bytes
length-joined bytes between done inside is =
    let long : length between ≡ length bytes - done = is ∙ length-left bytes done in
    simp (length-append, length-take) (omega (arith, long))

-- a header, and what stands behind it, of bytes that may be fewer than a header has
module _ (bytes : List ℕ) (mid : ℕ) (is : mid ≡ min (length bytes) 512) where
  pub header-part : (part : List ℕ) → part ≡ take mid bytes → part ≡ take 512 bytes
  header-part part front = front ∙ ⊎_elim
      (λ (large : 512 < length bytes). let whole : mid ≡ 512 = omega (arith, is, large) in ap (λ (n : ℕ). take n bytes) whole)
      (λ (small : length bytes ≤ 512). take_all mid bytes (omega (arith, is, small)) ∙ sym (take_all 512 bytes small))
      (cases_lt 512 (length bytes))

  pub behind-part : (part : List ℕ) → part ≡ drop mid bytes → part ≡ drop 512 bytes
  behind-part part back = back ∙ ⊎_elim
      (λ (large : 512 < length bytes). let whole : mid ≡ 512 = omega (arith, is, large) in ap (λ (n : ℕ). drop n bytes) whole)
      (λ (small : length bytes ≤ 512). drop_all mid bytes (omega (arith, is, small)) ∙ sym (drop_all 512 bytes small))
      (cases_lt 512 (length bytes))
