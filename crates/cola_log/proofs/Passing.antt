-- Records, passed one after another.
use Rattle.std.proofs.Common.{◌≡◌, ℕ, ◌+◌, ◌-◌, ◌<◌, ◌≤◌, List, [], ◌∷◌, ◌++◌, length, Some, None, refl, sym, ◌∙◌, ap, arith, length-append}
use Rattle.cola_cell.proofs.Numbers.{AreBytes}
use Rattle.cola_log.specs.Format.{Logged, sum_after, record_of, records_of, sums_after, Found, record_at, read_records}
use Rattle.cola_log.specs.Appended.{IsReadTo}
use Rattle.cola_log.proofs.Records.{shorter, read_some, read_none}
use Rattle.cola_log.proofs.Spelling.{is_record}

-- the sum and the rest behind some of the records
pub record Passed (sum bytes after rest : List ℕ) : Type 0 where
  pub are : AreBytes rest
  pub within : length rest ≤ length bytes
  pub sum_is : sums_after sum (read_records sum bytes) ≡ sums_after after (read_records after rest)
  pub size_is : length (records_of sum (read_records sum bytes)) + length rest ≡ length (records_of after (read_records after rest)) + length bytes

pub passed_none : (sum bytes : List ℕ) → AreBytes bytes → Passed sum bytes sum bytes
passed_none sum bytes are = record { are = are; within = omega arith; sum_is = refl; size_is = refl }

pub passed_more : (sum bytes after rest : List ℕ) (found : Found) → Passed sum bytes after rest → record_at after rest ≡ Some found → Passed sum bytes found.1 found.2
passed_more sum bytes after rest found p is =
    let it = found.0 in
    let others = read_records found.1 found.2 in
    let r = is_record after rest found p.are is in
    let read : read_records after rest ≡ it ∷ others = read_some after rest found is in
    let sums : sums_after after (read_records after rest) ≡ sums_after found.1 others =
    ap (sums_after after) read ∙ ap (λ (s : List ℕ). sums_after s others) (sym r.sum_is) in
    let sizes : length (records_of after (read_records after rest)) ≡ length (record_of after it) + length (records_of found.1 others) =
    ap (λ (l : List Logged). length (records_of after l)) read
    ∙ length-append (record_of after it) (records_of (sum_after after it) others)
    ∙ ap (λ (s : List ℕ). length (record_of after it) + length (records_of s others)) (sym r.sum_is) in
    let split : length rest ≡ length (record_of after it) + length found.2 = ap (λ (l : List ℕ). length l) r.bytes_are ∙ length-append (record_of after it) found.2 in
    record {
      are = r.rest_are;
      within = omega (arith, p.within, split);
      sum_is = p.sum_is ∙ sums;
      size_is = sized _ _ _ _ _ _ _ p.size_is sizes split;
    }
  where
    sized : (all rest left bytes first more others : ℕ) → all + rest ≡ others + bytes → others ≡ first + more → rest ≡ first + left → all + left ≡ more + bytes
    sized all rest left bytes first more others is sizes split = omega (arith, is, sizes, split)

pub passed_all : (sum bytes after rest : List ℕ) → Passed sum bytes after rest → record_at after rest ≡ None → IsReadTo sum bytes after (length bytes - length rest)
passed_all sum bytes after rest p none =
    let no : read_records after rest ≡ [] = read_none after rest none in
    let size : length (records_of after (read_records after rest)) ≡ 0 = ap (λ (l : List Logged). length (records_of after l)) no in
    record {
      size_is = left _ _ _ _ p.size_is size;
      within = omega arith;
      sum_is = sym (p.sum_is ∙ ap (sums_after after) no);
    }
  where
    left : (all rest bytes others : ℕ) → all + rest ≡ others + bytes → others ≡ 0 → bytes - rest ≡ all
    left all rest bytes others is none = omega (arith, is, none)

-- what is left is shorter
pub passed_less : (sum bytes : List ℕ) (it : Logged) (after rest : List ℕ) → record_at sum bytes ≡ Some (it, after, rest) → length rest < length bytes
passed_less sum bytes it after rest is = omega (arith, shorter sum bytes (it, after, rest) is)
