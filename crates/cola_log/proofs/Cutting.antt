-- A log that was cut off.
use Rattle.std.proofs.Common.{◌≡◌, ◌⊎◌, inl, inr, ℕ, zero, suc, ◌+◌, ◌-◌, ◌<◌, ◌≤◌, List, [], ◌∷◌, ◌++◌, append-nil, length, take, refl, sym, ◌∙◌, ap, subst, arith, append_assoc, length-append}
use Rattle.std.proofs.lemmas.Bool.{cases_lt}
use Rattle.sha2.proofs.Facts256.{length-sha256}
use Rattle.cola_log.specs.Format.{Logged, AllFit, sum_after, record_of, records_of, sums_after, first_sum, log_of, read_records, read_log}
use Rattle.cola_log.specs.Cut.{IsFrontRead}
use Rattle.cola_log.proofs.Records.{read_none, log_read}

-- of records of which so many bytes are left: those that are whole
record FrontOf (sum : List ℕ) (calls : List Logged) (size : ℕ) (bytes : List ℕ) : Type 0 where
  pub kept : ℕ
  pub behind : List ℕ
  pub among : kept ≤ length calls
  pub whole : length (records_of sum (take kept calls)) ≤ size
  pub torn : kept < length calls → size < length (records_of sum (take (kept + 1) calls))
  pub bytes_are : bytes ≡ records_of sum (take kept calls) ++ behind

-- the front of two lists that is longer than the first
take_past : (xs ys : List ℕ) (n : ℕ) → take (length xs + n) (xs ++ ys) ≡ xs ++ take n ys
take_past [] ys n = let on : 0 + n ≡ n = omega arith in ap (λ (k : ℕ). take k ys) on
take_past (x ∷ xs) ys n =
    let on : suc (length xs) + n ≡ suc (length xs + n) = omega arith in
    ap (λ (k : ℕ). take k (x ∷ (xs ++ ys))) on ∙ ap (λ (l : List ℕ). x ∷ l) (take_past xs ys n)

one_more : (k : ℕ) (it : Logged) (calls : List Logged) → take (suc k + 1) (it ∷ calls) ≡ it ∷ take (k + 1) calls
one_more k it calls = let on : suc k + 1 ≡ suc (k + 1) = omega arith in ap (λ (n : ℕ). take n (it ∷ calls)) on

length_one : (sum : List ℕ) (it : Logged) → length (records_of sum (it ∷ [])) ≡ length (record_of sum it)
length_one sum it = ap (λ (l : List ℕ). length l) (append-nil (record_of sum it))

-- the first record is torn
cut_first : (sum : List ℕ) (it : Logged) (calls : List Logged) (size : ℕ) (bytes : List ℕ) → size < length (record_of sum it) → FrontOf sum (it ∷ calls) size bytes
cut_first sum it calls size bytes short = record {
  kept = 0;
  behind = bytes;
  among = omega arith;
  whole = omega arith;
  torn = λ more. subst (λ (n : ℕ). size < n) (sym (length_one sum it)) short;
  bytes_are = refl;
}

-- it is whole
cut_later : (sum : List ℕ) (it : Logged) (calls : List Logged) (size : ℕ) (tail : List ℕ) → length (record_of sum it) ≤ size →
    FrontOf (sum_after sum it) calls (size - length (record_of sum it)) (take (size - length (record_of sum it)) (records_of (sum_after sum it) calls) ++ tail) →
    FrontOf sum (it ∷ calls) size (take size (records_of sum (it ∷ calls)) ++ tail)
cut_later sum it calls size tail long f =
    let first = record_of sum it in
    let after = sum_after sum it in
    let left : ℕ = size - length first in
    let split : size ≡ length first + left = omega (arith, long) in
    let front : take size (first ++ records_of after calls) ≡ first ++ take left (records_of after calls) =
    ap (λ (n : ℕ). take n (first ++ records_of after calls)) split ∙ take_past first (records_of after calls) left in
    record {
      kept = suc f.kept;
      behind = f.behind;
      among = omega (arith, f.among);
      whole = omega (arith, f.whole, split, length-append first (records_of after (take f.kept calls)));
      torn = λ more. subst (λ (l : List Logged). size < length (records_of sum l)) (sym (one_more f.kept it calls))
          (later (length first) left size (records_of after (take (f.kept + 1) calls)) first split (f.torn (omega (arith, more))) refl);
      bytes_are =
          ap (λ (l : List ℕ). l ++ tail) front
          ∙ append_assoc first (take left (records_of after calls)) tail
          ∙ ap (λ (l : List ℕ). first ++ l) f.bytes_are
          ∙ sym (append_assoc first (records_of after (take f.kept calls)) f.behind);
    }
  where
    later : (n left size : ℕ) (others first : List ℕ) → size ≡ n + left → left < length others → n ≡ length first → size < length (first ++ others)
    later n left size others first split less is = omega (arith, split, less, is, length-append first others)

by_size : (sum : List ℕ) (it : Logged) (calls : List Logged) (size : ℕ) (tail : List ℕ) → (size < length (record_of sum it)) ⊎ (length (record_of sum it) ≤ size) →
    FrontOf (sum_after sum it) calls (size - length (record_of sum it)) (take (size - length (record_of sum it)) (records_of (sum_after sum it) calls) ++ tail) →
    FrontOf sum (it ∷ calls) size (take size (records_of sum (it ∷ calls)) ++ tail)
by_size sum it calls size tail (inl short) next = cut_first sum it calls size (take size (records_of sum (it ∷ calls)) ++ tail) short
by_size sum it calls size tail (inr long) next = cut_later sum it calls size tail long next

front_of : (sum : List ℕ) (calls : List Logged) (size : ℕ) (tail : List ℕ) → FrontOf sum calls size (take size (records_of sum calls) ++ tail)
front_of sum [] size tail = record {
  kept = 0;
  behind = take size [] ++ tail;
  among = omega arith;
  whole = omega arith;
  torn = λ more. absurd (omega (arith, more));
  bytes_are = refl;
}
front_of sum (it ∷ calls) size tail =
    by_size sum it calls size tail (cases_lt size (length (record_of sum it))) (front_of (sum_after sum it) calls (size - length (record_of sum it)) tail)

-- the front of the calls fits as they do
front_fits : (n : ℕ) (calls : List Logged) → AllFit calls → AllFit (take n calls)
front_fits zero calls fit = tt
front_fits (suc n) [] fit = tt
front_fits (suc n) (it ∷ calls) fit = (fit.0, front_fits n calls fit.1)

pub length_log : (page : List ℕ) (calls : List Logged) → length (log_of page calls) ≡ 32 + length (records_of (first_sum page) calls)
length_log page calls = length-append (first_sum page) (records_of (first_sum page) calls) ∙ ap (λ (n : ℕ). n + length (records_of (first_sum page) calls)) (length-sha256 _)

pub cut_is_front : (page : List ℕ) (calls : List Logged) (size : ℕ) (tail : List ℕ) → AllFit calls → 32 ≤ size → IsFrontRead page calls size (take size (log_of page calls) ++ tail)
cut_is_front page calls size tail fit long =
    let first = first_sum page in
    let left : ℕ = size - 32 in
    let all = records_of first calls in
    let split : size ≡ length first + left = omega (arith, long, thirty_two page) in
    let f = front_of first calls left tail in
    let kept = take f.kept calls in
    let bytes = take size (log_of page calls) ++ tail in
    let bytes_are : bytes ≡ log_of page kept ++ f.behind =
    ap (λ (n : ℕ). take n (first ++ all) ++ tail) split
    ∙ ap (λ (l : List ℕ). l ++ tail) (take_past first all left)
    ∙ append_assoc first (take left all) tail
    ∙ ap (λ (l : List ℕ). first ++ l) f.bytes_are
    ∙ sym (append_assoc first (records_of first kept) f.behind) in
    let read : read_log page bytes ≡ kept ++ read_records (sums_after first kept) f.behind =
    ap (read_log page) bytes_are ∙ log_read page kept f.behind (front_fits f.kept calls fit) in
    record {
      kept = f.kept;
      behind = f.behind;
      among = f.among;
      whole = omega (arith, f.whole, long, length_log page kept);
      torn = λ more. within size _ _ (f.torn more) (length_log page (take (f.kept + 1) calls)) long;
      bytes_are = bytes_are;
      read = read;
      stops = λ none. read ∙ ap (λ (l : List Logged). kept ++ l) (read_none (sums_after first kept) f.behind none) ∙ append-nil kept;
    }
  where
    thirty_two : (page : List ℕ) → length (first_sum page) ≡ 32
    thirty_two page = length-sha256 _

    within : (size m n : ℕ) → size - 32 < m → n ≡ 32 + m → 32 ≤ size → size < n
    within size m n less is long = omega (arith, less, is, long)
