-- A number that is read digit by digit.
use Rattle.std.proofs.Common.{◌≡◌, ℕ, ◌+◌, ◌-◌, ◌*◌, ◌^◌, ◌<◌, ◌≤◌, true, List, length, get_or, take, ap, ◌∙◌, sym, arith, add-one}
use Rattle.std.specs.List.{list_all}
use Rattle.std.specs.Int.{IsInRange}
use Rattle.std.specs.Char.{is_ascii_digit, digit_value}
use Rattle.std.specs.Str.Parse.{digits_value}
use Rattle.std.proofs.Math.Nat.{pow-le-pow_right, pow-suc}
use Rattle.std.proofs.lemmas.List.Folds.{list_all_more}
use Rattle.std.proofs.lemmas.Int.Digits.{digits_value_more}
use Rattle.std.proofs.lemmas.Str.{digit_value_digit}

-- a number of at most 18 digits has room for one more
pub room_for_digit : (value i : ℕ) → value < 10 ^ i → i ≤ 18 → value * 10 + 9 < 2 ^ 64
room_for_digit value i small few =
    let bound : 10 ^ i ≤ 10 ^ 18 = pow-le-pow_right (omega arith) few in
    omega arith

-- one more digit
pub record IsNext (word : List ℕ) (i value : ℕ) : Type 0 where
  pub digits : list_all is_ascii_digit (take i word) ≡ true
  pub value_is : value ≡ digits_value 10 (take i word)
  pub small : value < 10 ^ i

pub next_digit : (word : List ℕ) (i value : ℕ) → i < length word → is_ascii_digit (get_or word i 0) ≡ true → IsInRange 48 57 (get_or word i 0) → IsNext word i value → IsNext word (i + 1) (value * 10 + (get_or word i 0 - 48))
next_digit word i value within is range before =
    let one : digit_value (get_or word i 0) + 48 ≡ get_or word i 0 = digit_value_digit (get_or word i 0) range in
    record {
      digits = list_all_more is_ascii_digit word i 0 within ∙ (simp (before.digits, is));
      value_is = ap (λ v. v * 10 + (get_or word i 0 - 48)) before.value_is ∙ ap (λ d. digits_value 10 (take i word) * 10 + d) (omega arith) ∙ sym (digits_value_more 10 word i within);
      small = rw (add-one, pow-suc) (omega arith);
    }
