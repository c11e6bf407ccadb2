-- Powers of two: neighbours, and the lowest level of a store by the logarithm of its keys.
use Rattle.std.proofs.Common.{◌≡◌, ℕ, suc, ◌+◌, ◌-◌, ◌*◌, ◌^◌, ◌<◌, ◌≤◌, max, inl, inr, arith}
use Rattle.std.proofs.lemmas.Bool.{cases_lt}
use Rattle.std.proofs.lemmas.Nat.{leading_length}
use Rattle.std.proofs.Math.Nat.{two-pow-succ}
use Rattle.std.proofs.Math.Pow.{pow_mono}
use Rattle.std.specs.Int.Count.{count_leading_zeros}
use Rattle.cola_layout.specs.Geometry.{IsBottom}

-- the next power is twice as large
pub next_power : (j k : ℕ) → k ≡ j + 1 → 2 ^ k ≡ 2 ^ j + 2 ^ j
next_power j k e = let s : k ≡ suc j = omega arith in rw s (two-pow-succ j)

-- powers are in the order of the exponents
pub power-le : (i j : ℕ) → i ≤ j → 2 ^ i ≤ 2 ^ j
power-le i j h = pow_mono h

-- exponents are in the order of the powers
pub exponent-le : (i j : ℕ) → 2 ^ i < 2 ^ suc j → i ≤ j
exponent-le i j h =
    elim (cases_lt j i) [
      | inl above ↦ let more : 2 ^ suc j ≤ 2 ^ i = pow_mono above in absurd (omega arith)
      | inr within ↦ within
    ]

-- the lowest level from an exponent m with 2^(m-1) < keys ≤ 2^m
pub bottom-from : (keys m : ℕ) → 1 ≤ keys → keys ≤ 2 ^ m → 2 ^ m ≤ 2 * (keys - 1) + 1 → IsBottom keys (max m 5 - 2)
bottom-from keys m some holds least =
    elim (cases_lt m 5) [
      | inl small ↦
          let is : max m 5 - 2 ≡ 3 = omega arith in
          let grows : 2 ^ m ≤ 2 ^ 5 = power-le m 5 (omega arith) in
          rw is (record { three = omega arith; holds = omega arith; least = λ h. absurd (omega arith) })
      | inr large ↦
          let is : max m 5 - 2 ≡ m - 2 = omega arith in
          let up : (m - 2) + 2 ≡ m = omega arith in
          let twice : 2 ^ m ≡ 2 ^ (m - 2 + 1) + 2 ^ (m - 2 + 1) = next_power (m - 2 + 1) m (omega arith) in
          rw is (record { three = omega arith; holds = rw up holds; least = λ h. omega arith })
    ]

-- the lowest level of a store has at most the number 22
pub bottom-shallow : (keys bottom : ℕ) → keys ≤ 2 ^ 24 → IsBottom keys bottom → bottom ≤ 22
bottom-shallow keys bottom few is =
    elim (cases_lt 3 bottom) [
      | inl deep ↦
          let least : 2 ^ (bottom + 1) < keys = is.least deep in
          let below : bottom + 1 ≤ 23 = exponent-le (bottom + 1) 23 (omega arith) in
          omega arith
      | inr three ↦ omega arith
    ]

bottom-le : (keys a b : ℕ) → IsBottom keys a → IsBottom keys b → a ≤ b
bottom-le keys a b is_a is_b =
    elim (cases_lt b a) [
      | inl above ↦
          let three : 3 ≤ b = is_b.three in
          let least : 2 ^ (a + 1) < keys = is_a.least (omega arith) in
          let holds : keys ≤ 2 ^ (b + 2) = is_b.holds in
          let more : 2 ^ (b + 2) ≤ 2 ^ (a + 1) = power-le (b + 2) (a + 1) (omega arith) in
          absurd (omega arith)
      | inr within ↦ within
    ]

-- there is one lowest level for a number of keys
pub bottom-is_one : (keys a b : ℕ) → IsBottom keys a → IsBottom keys b → a ≡ b
bottom-is_one keys a b is_a is_b =
    let up : a ≤ b = bottom-le keys a b is_a is_b in
    let down : b ≤ a = bottom-le keys b a is_b is_a in
    omega arith

-- the lowest level by the leading zeros of one key less, in 64 bits
pub bottom-of_leading : (keys : ℕ) → 1 ≤ keys → keys < 2 ^ 64 → IsBottom keys (max (64 - count_leading_zeros 64 (keys - 1)) 5 - 2)
bottom-of_leading keys some fits =
    let (m, parts, below, least) = leading_length 64 (keys - 1) (omega arith) in
    let is : 64 - count_leading_zeros 64 (keys - 1) ≡ m = omega arith in
    rw is (bottom-from keys m some (omega arith) least)

-- the levels of a store, by three facts on their number
pub levels-are : (keys levels bottom : ℕ) → 4 ≤ levels → keys ≤ 2 ^ (levels + 1) → (4 < levels → 2 ^ levels < keys) → IsBottom keys bottom → levels ≡ bottom + 1
levels-are keys levels bottom some holds least is =
    let down : levels - 1 + 1 ≡ levels = omega arith in
    let room : levels - 1 + 2 ≡ levels + 1 = omega arith in
    let theirs : IsBottom keys (levels - 1) = record {
      three = omega arith;
      holds = rw room holds;
      least = λ more. rw down (least (omega arith));
    } in
    let same : levels - 1 ≡ bottom = bottom-is_one keys (levels - 1) bottom theirs is in
    omega arith
