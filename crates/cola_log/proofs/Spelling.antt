-- What is read of bytes is how they begin.
use Rattle.std.proofs.Common.{◌≡◌, ◌≢◌, ℕ, zero, suc, ◌+◌, ◌-◌, ◌^◌, ◌<◌, ◌≤◌, Bool, true, false, bytes_eq, List, [], ◌∷◌, ◌++◌, append-nil, length, take, drop, slice_index, Option, Some, None, refl, sym, ◌∙◌, ap, subst, arith, append_assoc, length-append, length-drop}
use Rattle.std.specs.Prelude.{if◌then◌else◌, ◌&&◌, ◌==◌}
use Rattle.std.proofs.lemmas.Bool.{and_parts, eqb-true, false_from_ne_true}
use Rattle.std.proofs.lemmas.List.{take-append-drop, drop-drop, get_or-take, length-take-le}
use Rattle.std.proofs.lemmas.Slice.Eq.{bytes_eq-Decides}
use Rattle.byteorder.specs.Endian.{little_bytes, little_number}
use Rattle.byteorder.specs.Numbers.{little_from-lt}
use Rattle.cola_cell.proofs.Numbers.{AreBytes, drop-bytes, take-bytes, bytes-of-first}
use Rattle.sha2.specs.Sha256.{sha256}
use Rattle.cola_log.specs.Format.{Logged, Put, PutIf, Delete, kind_of, seen_of, key_of, value_of, Fits, AllFit, head_of, body_of, sum_after, record_of, records_of, sums_after, first_sum, log_of, body_size, is_empty, call_with, call_of, Found, record_at, calls_in, read_records, read_log}
use Rattle.cola_log.specs.Cut.{Begins, IsSpelled}
use Rattle.cola_log.proofs.Records.{IsAt, is_at, shorter, read_some, read_none, if_true, if_false}

-- the parts of the call of a kind
record HasParts (kind seen : ℕ) (key value : List ℕ) (it : Logged) : Type 0 where
  pub kind_is : kind ≡ kind_of it
  pub seen_is : seen ≡ seen_of it
  pub key_is : key ≡ key_of it
  pub value_is : value ≡ value_of it

no_bytes : (xs : List ℕ) → is_empty xs ≡ true → xs ≡ []
no_bytes [] is = refl
no_bytes (x ∷ xs) is = absurd (cc is)

module _ (kind seen : ℕ) (key value : List ℕ) (it : Logged) where
  by_delete : (b : Bool) → ((kind == 3) && ((seen == 0) && is_empty value)) ≡ b → (if b then Some (Delete key) else None) ≡ Some it → HasParts kind seen key value it
  by_delete true test is =
      let same : Delete key ≡ it = cc is in
      let parts = and_parts (kind == 3) ((seen == 0) && is_empty value) test in
      let more = and_parts (seen == 0) (is_empty value) parts.1 in
      subst (λ (x : Logged). HasParts kind seen key value x) same
      (record { kind_is = eqb-true kind 3 parts.0; seen_is = eqb-true seen 0 more.0; key_is = refl; value_is = no_bytes value more.1 })
  by_delete false test is = absurd (cc is)

  by_put_if : (b : Bool) → (kind == 2) ≡ b → (if b then Some (PutIf key seen value) else (if (kind == 3) && ((seen == 0) && is_empty value) then Some (Delete key) else None)) ≡ Some it → HasParts kind seen key value it
  by_put_if true test is =
      let same : PutIf key seen value ≡ it = cc is in
      subst (λ (x : Logged). HasParts kind seen key value x) same (record { kind_is = eqb-true kind 2 test; seen_is = refl; key_is = refl; value_is = refl })
  by_put_if false test is = by_delete ((kind == 3) && ((seen == 0) && is_empty value)) refl is

  by_put : (b : Bool) → ((kind == 1) && (seen == 0)) ≡ b →
      (if b then Some (Put key value) else (if kind == 2 then Some (PutIf key seen value) else (if (kind == 3) && ((seen == 0) && is_empty value) then Some (Delete key) else None))) ≡ Some it → HasParts kind seen key value it
  by_put true test is =
      let same : Put key value ≡ it = cc is in
      let parts = and_parts (kind == 1) (seen == 0) test in
      subst (λ (x : Logged). HasParts kind seen key value x) same (record { kind_is = eqb-true kind 1 parts.0; seen_is = eqb-true seen 0 parts.1; key_is = refl; value_is = refl })
  by_put false test is = by_put_if (kind == 2) refl is

  has_parts : call_with kind seen key value ≡ Some it → HasParts kind seen key value it
  has_parts is = by_put ((kind == 1) && (seen == 0)) refl is

-- the first three bytes
first_three : (xs : List ℕ) → 3 ≤ length xs → xs ≡ slice_index xs 0 ∷ slice_index xs 1 ∷ slice_index xs 2 ∷ drop 3 xs
first_three [] long = absurd (omega (arith, long))
first_three (x ∷ []) long = absurd (omega (arith, long))
first_three (x ∷ y ∷ []) long = absurd (omega (arith, long))
first_three (x ∷ y ∷ z ∷ xs) long = refl

record Spells (body : List ℕ) (it : Logged) : Type 0 where
  pub body_is : body ≡ body_of it
  pub fits : Fits it

spells : (body : List ℕ) (it : Logged) → AreBytes body → length body ≡ body_size body → call_of body ≡ Some it → Spells body it
spells body it are size is =
    let k = slice_index body 1 in
    let v = slice_index body 2 in
    let number = little_number 8 (drop 3 body) in
    let behind = drop 11 body in
    let key = take k behind in
    let value = drop k behind in
    let p = has_parts (slice_index body 0) number key value it is in
    let length_behind : length behind ≡ k + v = omega (arith, size, length-drop 11 body) in
    let length_key : length key ≡ k = length-take-le k behind (omega (arith, length_behind)) in
    let length_value : length value ≡ v = omega (arith, length_behind, length-drop k behind) in
    let eight : little_bytes 8 number ≡ take 8 (drop 3 body) = bytes-of-first 8 (drop 3 body) (omega (arith, size, length-drop 3 body)) (drop-bytes 3 body are) in
    let rest : drop 3 body ≡ (little_bytes 8 number ++ key) ++ value =
    sym (take-append-drop 8 (drop 3 body))
    ∙ ap (λ (l : List ℕ). l ++ drop 8 (drop 3 body)) (sym eight)
    ∙ ap (λ (l : List ℕ). little_bytes 8 number ++ l) (drop-drop 8 3 body)
    ∙ ap (λ (l : List ℕ). little_bytes 8 number ++ l) (sym (take-append-drop k behind))
    ∙ sym (append_assoc (little_bytes 8 number) key value) in
    let whole : body ≡ slice_index body 0 ∷ k ∷ v ∷ ((little_bytes 8 number ++ key) ++ value) =
    first_three body (omega (arith, size)) ∙ ap (λ (l : List ℕ). slice_index body 0 ∷ k ∷ v ∷ l) rest in
    let key_long : length (key_of it) ≡ k = ap (λ (l : List ℕ). length l) (sym p.key_is) ∙ length_key in
    let value_long : length (value_of it) ≡ v = ap (λ (l : List ℕ). length l) (sym p.value_is) ∙ length_value in
    record {
      body_is =
          whole
          ∙ ap (λ (n : ℕ). n ∷ k ∷ v ∷ ((little_bytes 8 number ++ key) ++ value)) p.kind_is
          ∙ ap (λ (n : ℕ). kind_of it ∷ n ∷ v ∷ ((little_bytes 8 number ++ key) ++ value)) (sym key_long)
          ∙ ap (λ (n : ℕ). kind_of it ∷ length (key_of it) ∷ n ∷ ((little_bytes 8 number ++ key) ++ value)) (sym value_long)
          ∙ ap (λ (n : ℕ). kind_of it ∷ length (key_of it) ∷ length (value_of it) ∷ ((little_bytes 8 n ++ key) ++ value)) p.seen_is
          ∙ ap (λ (l : List ℕ). kind_of it ∷ length (key_of it) ∷ length (value_of it) ∷ ((little_bytes 8 (seen_of it) ++ l) ++ value)) p.key_is
          ∙ ap (λ (l : List ℕ). kind_of it ∷ length (key_of it) ∷ length (value_of it) ∷ ((little_bytes 8 (seen_of it) ++ key_of it) ++ l)) p.value_is;
      fits = record {
        short = record { key = subst (λ (n : ℕ). n < 256) (sym key_long) (are 1); value = subst (λ (n : ℕ). n < 256) (sym value_long) (are 2) };
        seen = subst (λ (n : ℕ). n < 2 ^ 64) p.seen_is (below (drop 3 body) (drop-bytes 3 body are));
      };
    }
  where
    below : (xs : List ℕ) → AreBytes xs → little_number 8 xs < 2 ^ 64
    below xs are = omega (arith, little_from-lt 0 8 xs are)

-- a record that is found is written of its call
pub record IsRecord (sum bytes : List ℕ) (found : Found) : Type 0 where
  pub bytes_are : bytes ≡ record_of sum found.0 ++ found.2
  pub sum_is : found.1 ≡ sum_after sum found.0
  pub fits : Fits found.0
  pub rest_are : AreBytes found.2

pub is_record : (sum bytes : List ℕ) (found : Found) → AreBytes bytes → record_at sum bytes ≡ Some found → IsRecord sum bytes found
is_record sum bytes found are is =
    let at = is_at sum bytes found is in
    let size = body_size bytes in
    let body = take size bytes in
    let behind = drop size bytes in
    let length_body : length body ≡ size = length-take-le size bytes (omega (arith, at.enough)) in
    let one : slice_index body 1 ≡ slice_index bytes 1 = get_or-take size bytes 1 0 (omega arith) in
    let two : slice_index body 2 ≡ slice_index bytes 2 = get_or-take size bytes 2 0 (omega arith) in
    let s = spells body found.0 (take-bytes size bytes are) (omega (arith, length_body, one, two)) at.call in
    let sum_is : sha256 (sum ++ body) ≡ sum_after sum found.0 = ap (λ (l : List ℕ). sha256 (sum ++ l)) s.body_is in
    record {
      bytes_are =
          sym (take-append-drop size bytes)
          ∙ ap (λ (l : List ℕ). body ++ l) (sym (take-append-drop 32 behind))
          ∙ ap (λ (l : List ℕ). body ++ (l ++ drop 32 behind)) ((bytes_eq-Decides (take 32 behind) (sha256 (sum ++ body))).0 at.seal ∙ sum_is)
          ∙ ap (λ (l : List ℕ). body ++ (sum_after sum found.0 ++ l)) (sym at.rest)
          ∙ ap (λ (l : List ℕ). l ++ (sum_after sum found.0 ++ found.2)) s.body_is
          ∙ sym (append_assoc (body_of found.0) (sum_after sum found.0) found.2);
      sum_is = at.sum_is ∙ sum_is;
      fits = s.fits;
      rest_are = subst (λ (l : List ℕ). AreBytes l) (sym at.rest) (drop-bytes 32 behind (drop-bytes size bytes are));
    }

-- records, one behind the other
pub record AreRecords (sum bytes : List ℕ) (calls : List Logged) : Type 0 where
  pub behind : List ℕ
  pub bytes_are : bytes ≡ records_of sum calls ++ behind
  pub ends : record_at (sums_after sum calls) behind ≡ None
  pub fit : AllFit calls

one_before : (sum bytes : List ℕ) (found : Found) → IsRecord sum bytes found → (calls : List Logged) → AreRecords found.1 found.2 calls → AreRecords sum bytes (found.0 ∷ calls)
one_before sum bytes found r calls a =
    let others = subst (λ (s : List ℕ). AreRecords s found.2 calls) r.sum_is a in
    record {
      behind = others.behind;
      bytes_are =
          r.bytes_are
          ∙ ap (λ (l : List ℕ). record_of sum found.0 ++ l) others.bytes_are
          ∙ sym (append_assoc (record_of sum found.0) (records_of (sum_after sum found.0) calls) others.behind);
      ends = others.ends;
      fit = (r.fits, others.fit);
    }

by_found : (n : ℕ) (sum bytes : List ℕ) → AreBytes bytes → length bytes ≤ suc n →
    ((sum bytes : List ℕ) → AreBytes bytes → length bytes ≤ n → AreRecords sum bytes (read_records sum bytes)) →
    (first : Option Found) → record_at sum bytes ≡ first → AreRecords sum bytes (read_records sum bytes)
by_found n sum bytes are most next None is =
    subst (λ (l : List Logged). AreRecords sum bytes l) (sym (read_none sum bytes is)) (record { behind = bytes; bytes_are = refl; ends = is; fit = tt })
by_found n sum bytes are most next (Some found) is =
    let r = is_record sum bytes found are is in
    let others = next found.1 found.2 r.rest_are (omega (arith, most, shorter sum bytes found is)) in
    subst (λ (l : List Logged). AreRecords sum bytes l) (sym (read_some sum bytes found is)) (one_before sum bytes found r (read_records found.1 found.2) others)

are_records : (n : ℕ) (sum bytes : List ℕ) → AreBytes bytes → length bytes ≤ n → AreRecords sum bytes (read_records sum bytes)
are_records zero sum bytes are most = by_found 0 sum bytes are (omega (arith, most)) (λ s b small less. stop s b less) (record_at sum bytes) refl
  where
    stop : (sum bytes : List ℕ) → length bytes ≤ 0 → AreRecords sum bytes (read_records sum bytes)
    stop sum [] less = record { behind = []; bytes_are = refl; ends = refl; fit = tt }
    stop sum (x ∷ bytes) less = absurd (omega (arith, less))
are_records (suc n) sum bytes are most = by_found n sum bytes are most (λ s b small less. are_records n s b small less) (record_at sum bytes) refl

pub records_are : (sum bytes : List ℕ) → AreBytes bytes → AreRecords sum bytes (read_records sum bytes)
records_are sum bytes are = are_records (length bytes) sum bytes are (omega arith)

pub is_spelled : (page bytes : List ℕ) → ((k : ℕ) → slice_index bytes k < 256) → IsSpelled page bytes
is_spelled page bytes are =
    let first = first_sum page in
    let rest = drop 32 bytes in
    let a = records_are first rest (drop-bytes 32 bytes are) in
    let test = bytes_eq (take 32 bytes) first in
    record {
      begun = λ same.
          let read : read_log page bytes ≡ read_records first rest = if_true test (read_records first rest) [] ((bytes_eq-Decides (take 32 bytes) first).1 same) in
          subst (λ (l : List Logged). Begins page l bytes) (sym read)
          (record {
            behind = a.behind;
            bytes_are =
                sym (take-append-drop 32 bytes)
                ∙ ap (λ (l : List ℕ). l ++ rest) same
                ∙ ap (λ (l : List ℕ). first ++ l) a.bytes_are
                ∙ sym (append_assoc first (records_of first (read_records first rest)) a.behind);
            ends = a.ends;
            fit = a.fit;
          });
      others = λ other. if_false test (read_records first rest) [] (false_from_ne_true test (λ is. other ((bytes_eq-Decides (take 32 bytes) first).0 is)));
    }
