-- A record that is written, read; and records one behind the other.
use Rattle.std.proofs.Common.{◌≡◌, ℕ, zero, suc, ◌+◌, ◌<◌, ◌≤◌, Bool, true, false, bytes_eq, List, [], ◌∷◌, ◌++◌, append-nil, length, take, drop, Option, Some, None, refl, sym, ◌∙◌, ap, arith, append_assoc, length-append, length-drop}
use Rattle.std.specs.Prelude.{nat_lt, if◌then◌else◌}
use Rattle.std.proofs.lemmas.Bool.{le-ltb, lt-ltb, ltb-false}
use Rattle.std.proofs.lemmas.List.{take_at, drop_at, drop-drop}
use Rattle.std.proofs.lemmas.Slice.Eq.{bytes_eq-Decides}
use Rattle.byteorder.specs.Endian.{little_bytes, little_number}
use Rattle.byteorder.specs.Numbers.{little_number-reads_back, length-bytes_low_first}
use Rattle.sha2.specs.Sha256.{sha256}
use Rattle.sha2.proofs.Facts256.{length-sha256}
use Rattle.cola_log.specs.Format.{Logged, Put, PutIf, Delete, kind_of, seen_of, key_of, value_of, Fits, AllFit, head_of, body_of, sum_after, record_of, records_of, sums_after, first_sum, log_of, body_size, call_with, call_of, Found, found_with, sealed, record_at, further, calls_in, read_records, read_log}

-- a test that is not passed leaves the other way, and one that is passed this
pub other_way : {X : Type 0} (b : Bool) (x y : Option X) (found : X) → x ≡ None → (if b then x else y) ≡ Some found → (b ≡ false) × (y ≡ Some found)
other_way true x y found none is = absurd (cc (none, is))
other_way false x y found none is = (refl, is)

pub one_way : {X : Type 0} (b : Bool) (x y : Option X) (found : X) → y ≡ None → (if b then x else y) ≡ Some found → (b ≡ true) × (x ≡ Some found)
one_way true x y found none is = (refl, is)
one_way false x y found none is = absurd (cc (none, is))

pub if_true : {X : Type 0} (b : Bool) (x y : X) → b ≡ true → (if b then x else y) ≡ x
if_true true x y is = refl
if_true false x y is = absurd (cc is)

pub if_false : {X : Type 0} (b : Bool) (x y : X) → b ≡ false → (if b then x else y) ≡ y
if_false true x y is = absurd (cc is)
if_false false x y is = refl

pub bytes_self : (xs : List ℕ) → bytes_eq xs xs ≡ true
bytes_self xs = (bytes_eq-Decides xs xs).1 refl

-- Lengths

pub length_head : (it : Logged) → length (head_of it) ≡ 11
length_head it = let eight = length-bytes_low_first 0 8 (seen_of it) in omega (arith, eight)

pub length_body : (it : Logged) → length (body_of it) ≡ 11 + length (key_of it) + length (value_of it)
length_body it =
    length-append (head_of it ++ key_of it) (value_of it)
    ∙ ap (λ (n : ℕ). n + length (value_of it)) (length-append (head_of it) (key_of it) ∙ ap (λ (n : ℕ). n + length (key_of it)) (length_head it))

pub length_record : (sum : List ℕ) (it : Logged) → length (record_of sum it) ≡ length (body_of it) + 32
length_record sum it = length-append (body_of it) (sum_after sum it) ∙ ap (λ (n : ℕ). length (body_of it) + n) (length-sha256 (sum ++ body_of it))

-- A record

-- the call of what was written
kind_read : (it : Logged) → call_with (kind_of it) (seen_of it) (key_of it) (value_of it) ≡ Some it
kind_read (Put key value) = refl
kind_read (PutIf key seen value) = refl
kind_read (Delete key) = refl

call_read : (it : Logged) → Fits it → call_of (body_of it) ≡ Some it
call_read it fits =
    let key = key_of it in
    let value = value_of it in
    let number = little_bytes 8 (seen_of it) in
    let body = body_of it in
    let three : drop 3 body ≡ number ++ (key ++ value) = append_assoc number key value in
    let seen : little_number 8 (drop 3 body) ≡ seen_of it =
    ap (little_number 8) three ∙ little_number-reads_back 8 (seen_of it) (key ++ value) (omega (arith, fits.seen)) in
    let behind : drop 11 body ≡ key ++ value =
    sym (drop-drop 8 3 body) ∙ ap (drop 8) three ∙ drop_at number (key ++ value) 8 (length-bytes_low_first 0 8 (seen_of it)) in
    ap (λ (n : ℕ). call_with (kind_of it) n (take (length key) (drop 11 body)) (drop (length key) (drop 11 body))) seen
    ∙ ap (λ (l : List ℕ). call_with (kind_of it) (seen_of it) (take (length key) l) (drop (length key) l)) behind
    ∙ ap (λ (l : List ℕ). call_with (kind_of it) (seen_of it) l (drop (length key) (key ++ value))) (take_at key value (length key) refl)
    ∙ ap (λ (l : List ℕ). call_with (kind_of it) (seen_of it) key l) (drop_at key value (length key) refl)
    ∙ kind_read it

-- where the sum stands behind the body
sealed_read : (sum : List ℕ) (it : Logged) (rest : List ℕ) → Fits it → sealed sum (body_of it) (sum_after sum it ++ rest) ≡ Some (it, sum_after sum it, rest)
sealed_read sum it rest fits =
    let body = body_of it in
    let seal = sum_after sum it in
    let long : length seal ≡ 32 = length-sha256 (sum ++ body) in
    let same : bytes_eq (take 32 (seal ++ rest)) seal ≡ true = ap (λ (l : List ℕ). bytes_eq l seal) (take_at seal rest 32 long) ∙ bytes_self seal in
    if_true (bytes_eq (take 32 (seal ++ rest)) seal) (found_with (call_of body) seal (drop 32 (seal ++ rest))) None same
    ∙ ap (λ (c : Option Logged). found_with c seal (drop 32 (seal ++ rest))) (call_read it fits)
    ∙ ap (λ (l : List ℕ). Some (it, seal, l)) (drop_at seal rest 32 long)

-- the record at the front
pub record_read : (sum : List ℕ) (it : Logged) (rest : List ℕ) → Fits it → record_at sum (record_of sum it ++ rest) ≡ Some (it, sum_after sum it, rest)
record_read sum it rest fits =
    let body = body_of it in
    let seal = sum_after sum it in
    let bytes = record_of sum it ++ rest in
    let size : ℕ = 11 + length (key_of it) + length (value_of it) in
    let long : length body ≡ size = length_body it in
    let shape : bytes ≡ body ++ (seal ++ rest) = append_assoc body seal rest in
    let enough : 32 + size ≤ length bytes = omega (arith, long, length-append (record_of sum it) rest, length_record sum it) in
    if_false (nat_lt (length bytes) (32 + size)) None (sealed sum (take size bytes) (drop size bytes)) (le-ltb (length bytes) (32 + size) enough)
    ∙ ap (λ (l : List ℕ). sealed sum (take size l) (drop size l)) shape
    ∙ ap (λ (l : List ℕ). sealed sum l (drop size (body ++ (seal ++ rest)))) (take_at body (seal ++ rest) size long)
    ∙ ap (λ (l : List ℕ). sealed sum body l) (drop_at body (seal ++ rest) size long)
    ∙ sealed_read sum it rest fits

-- What a record that was found is

pub record IsAt (sum bytes : List ℕ) (found : Found) : Type 0 where
  pub enough : 32 + body_size bytes ≤ length bytes
  pub seal : bytes_eq (take 32 (drop (body_size bytes) bytes)) (sha256 (sum ++ take (body_size bytes) bytes)) ≡ true
  pub call : call_of (take (body_size bytes) bytes) ≡ Some found.0
  pub sum_is : found.1 ≡ sha256 (sum ++ take (body_size bytes) bytes)
  pub rest : found.2 ≡ drop 32 (drop (body_size bytes) bytes)

found_parts : (call : Option Logged) (sum rest : List ℕ) (found : Found) → found_with call sum rest ≡ Some found → (call ≡ Some found.0) × ((found.1 ≡ sum) × (found.2 ≡ rest))
found_parts None sum rest found is = absurd (cc is)
found_parts (Some it) sum rest found is = let same : (it, sum, rest) ≡ found = cc is in (ap (λ (f : Found). Some f.0) same, (ap (λ (f : Found). f.1) (sym same), ap (λ (f : Found). f.2) (sym same)))

pub is_at : (sum bytes : List ℕ) (found : Found) → record_at sum bytes ≡ Some found → IsAt sum bytes found
is_at sum bytes found is =
    let size = body_size bytes in
    let digest = sha256 (sum ++ take size bytes) in
    let same = bytes_eq (take 32 (drop size bytes)) digest in
    let long = other_way (nat_lt (length bytes) (32 + size)) None (sealed sum (take size bytes) (drop size bytes)) found refl is in
    let sealed_is = one_way same (found_with (call_of (take size bytes)) digest (drop 32 (drop size bytes))) None found refl long.1 in
    let parts = found_parts (call_of (take size bytes)) digest (drop 32 (drop size bytes)) found sealed_is.1 in
    record {
      enough = ltb-false (length bytes) (32 + size) long.0;
      seal = sealed_is.0;
      call = parts.0;
      sum_is = parts.1.0;
      rest = parts.1.1;
    }

-- what follows it is shorter
pub shorter : (sum bytes : List ℕ) (found : Found) → record_at sum bytes ≡ Some found → length found.2 + 43 ≤ length bytes
shorter sum bytes found is =
    let at = is_at sum bytes found is in
    let size = body_size bytes in
    let behind : length found.2 ≡ length (drop 32 (drop size bytes)) = ap (λ (l : List ℕ). length l) at.rest in
    omega (arith, at.enough, behind, length-drop 32 (drop size bytes), length-drop size bytes)

-- Records one behind the other

no_room : (sum bytes : List ℕ) → length bytes < 32 + body_size bytes → record_at sum bytes ≡ None
no_room sum bytes short =
    if_true (nat_lt (length bytes) (32 + body_size bytes)) None (sealed sum (take (body_size bytes) bytes) (drop (body_size bytes) bytes)) (lt-ltb (length bytes) (32 + body_size bytes) short)

pub none_of_none : (sum bytes : List ℕ) → length bytes ≤ 0 → record_at sum bytes ≡ None
none_of_none sum bytes empty = no_room sum bytes (omega (arith, empty))

-- as many as there are bytes are enough
by_first : (n m : ℕ) (sum bytes : List ℕ) (first : Option Found) → record_at sum bytes ≡ first →
    ((found : Found) → record_at sum bytes ≡ Some found → calls_in n found.1 found.2 ≡ calls_in m found.1 found.2) → further first (calls_in n) ≡ further first (calls_in m)
by_first n m sum bytes None is next = refl
by_first n m sum bytes (Some found) is next = ap (λ (l : List Logged). found.0 ∷ l) (next found is)

pub are_enough : (n m : ℕ) (sum bytes : List ℕ) → length bytes ≤ n → length bytes ≤ m → calls_in n sum bytes ≡ calls_in m sum bytes
are_enough zero zero sum bytes ln lm = refl
are_enough zero (suc m) sum bytes ln lm = sym (ap (λ (f : Option Found). further f (calls_in m)) (none_of_none sum bytes ln))
are_enough (suc n) zero sum bytes ln lm = ap (λ (f : Option Found). further f (calls_in n)) (none_of_none sum bytes lm)
are_enough (suc n) (suc m) sum bytes ln lm =
    by_first n m sum bytes (record_at sum bytes) refl
    (λ found is. are_enough n m found.1 found.2 (omega (arith, ln, shorter sum bytes found is)) (omega (arith, lm, shorter sum bytes found is)))

-- the first is read, and then the others
pub read_some : (sum bytes : List ℕ) (found : Found) → record_at sum bytes ≡ Some found → read_records sum bytes ≡ found.0 ∷ read_records found.1 found.2
read_some sum bytes found is =
    let less = shorter sum bytes found is in
    are_enough (length bytes) (suc (length bytes)) sum bytes (omega arith) (omega arith)
    ∙ ap (λ (f : Option Found). further f (calls_in (length bytes))) is
    ∙ ap (λ (l : List Logged). found.0 ∷ l) (are_enough (length bytes) (length found.2) found.1 found.2 (omega (arith, less)) (omega arith))

pub read_none : (sum bytes : List ℕ) → record_at sum bytes ≡ None → read_records sum bytes ≡ []
read_none sum bytes is =
    are_enough (length bytes) (suc (length bytes)) sum bytes (omega arith) (omega arith) ∙ ap (λ (f : Option Found). further f (calls_in (length bytes))) is

-- all that were written are read, and what follows them behind their sum
pub front_read : (sum : List ℕ) (calls : List Logged) (rest : List ℕ) → AllFit calls → read_records sum (records_of sum calls ++ rest) ≡ calls ++ read_records (sums_after sum calls) rest
front_read sum [] rest fit = refl
front_read sum (it ∷ calls) rest fit =
    let after = sum_after sum it in
    let others = records_of after calls ++ rest in
    ap (read_records sum) (append_assoc (record_of sum it) (records_of after calls) rest)
    ∙ read_some sum (record_of sum it ++ others) (it, after, others) (record_read sum it others fit.0)
    ∙ ap (λ (l : List Logged). it ∷ l) (front_read after calls rest fit.1)

-- a log
pub log_read : (page : List ℕ) (calls : List Logged) (rest : List ℕ) → AllFit calls →
    read_log page (log_of page calls ++ rest) ≡ calls ++ read_records (sums_after (first_sum page) calls) rest
log_read page calls rest fit =
    let first = first_sum page in
    let others = records_of first calls ++ rest in
    let long : length first ≡ 32 = length-sha256 _ in
    let shape : log_of page calls ++ rest ≡ first ++ others = append_assoc first (records_of first calls) rest in
    let same : bytes_eq (take 32 (first ++ others)) first ≡ true = ap (λ (l : List ℕ). bytes_eq l first) (take_at first others 32 long) ∙ bytes_self first in
    ap (read_log page) shape
    ∙ if_true (bytes_eq (take 32 (first ++ others)) first) (read_records first (drop 32 (first ++ others))) [] same
    ∙ ap (read_records first) (drop_at first others 32 long)
    ∙ front_read first calls rest fit

pub whole_read : (page : List ℕ) (calls : List Logged) → AllFit calls → read_log page (log_of page calls) ≡ calls
whole_read page calls fit =
    ap (read_log page) (sym (append-nil (log_of page calls))) ∙ log_read page calls [] fit ∙ append-nil calls
