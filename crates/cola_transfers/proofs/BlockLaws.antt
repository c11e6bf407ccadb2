-- How many blocks a source or a shadow has at most, in cells.
use Rattle.std.proofs.Common.{◌≡◌, inl, inr, ℕ, zero, suc, ◌+◌, ◌-◌, ◌*◌, ◌/◌, ◌%◌, ◌^◌, ◌<◌, ◌≤◌, Bool, true, false, cond, zero-le, ◌∙◌, ap, arith}
use Rattle.std.proofs.lemmas.Bool.{cases_lt, lt-ltb, le-ltb}
use Rattle.std.proofs.lemmas.Nat.{pow_pos, pow-add, div_below, div-add-mod', mul-le}
use Rattle.std.proofs.Math.Pow.{pow-lt}
use Rattle.std.proofs.Math.Nat.{mul-div-le, mul_comm}
use Rattle.cola_transfers.specs.Blocks.{slot_cells, block_cells, groups, source_left, put_down, unwritten}

-- a block's cells as a power of two
pub block_cells-pow : (d : ℕ) → block_cells d ≡ 2 ^ (d + 3)
block_cells-pow d = let parts : 2 ^ (d + 3) ≡ 2 ^ d * 2 ^ 3 = pow-add 2 d 3 in omega arith

pub block_pos : (d : ℕ) → 0 < block_cells d
block_pos d = let p : 0 < 2 ^ d = pow_pos d in omega arith

-- exponents in the order of their powers
pub exponents : (p q : ℕ) → 2 ^ p ≤ 2 ^ q → p ≤ q
exponents p q h =
    elim (cases_lt q p) [
      | inl over ↦ (let above : 2 ^ q < 2 ^ p = pow-lt over in absurd (omega arith))
      | inr fine ↦ fine
    ]

-- a smaller power of two divides a greater one
pub power_parts : (p q : ℕ) → p ≤ q → 2 ^ q ≡ 2 ^ (q - p) * 2 ^ p
power_parts p q h = let sum : q ≡ (q - p) + p = omega arith in ap (λ k. 2 ^ k) sum ∙ pow-add 2 (q - p) p

-- so many groups hold all numbers below an end
groups_few : (size m first end : ℕ) → 0 < size → end ≤ m * size → groups size first end ≤ m
groups_few size m first zero positive fits = rw (le-ltb first 0 zero-le) (omega arith)
groups_few size m first (suc n) positive fits =
    let last : (suc n - 1) / size < m = div_below (suc n - 1) size m positive (omega arith) in
    elim (cases_lt first (suc n)) [
      | inl before ↦ rw (lt-ltb first (suc n) before) (omega arith)
      | inr past ↦ rw (le-ltb first (suc n) past) (omega arith)
    ]

-- a source has no more cells left, in whole blocks, than its slot has
pub source_few : (slot span size m end cursor : ℕ) (is_held : ℕ → Bool) → 0 < size → (span ≤ slot → (slot ≡ m * span) × (end ≤ m * size)) →
    span * source_left slot span size is_held end cursor ≤ slot
source_few slot span size m end cursor is_held positive fits =
    elim (cases_lt slot span) [
      | inl small ↦ rw (lt-ltb slot span small) (omega arith)
      | inr fine ↦ rw (le-ltb slot span fine)
          (let few : groups size cursor end ≤ m = groups_few size m cursor end positive (fits fine).1 in
          let whole : slot ≡ m * span = (fits fine).0 in
          let product : span * (groups size cursor end - cond (is_held (cursor / size)) 1 0) ≤ span * m = mul-le span _ span m (omega arith) (omega arith) in
          let turned : span * m ≡ m * span = mul_comm span m in
          omega arith)
    ]

-- the blocks of a shadow that fits its slot
pub put_down_few : (span m n : ℕ) (ended : Bool) → 0 < span → n ≤ m * span → put_down span n ended ≤ m
put_down_few span m n ended positive fits =
    let parts : n / span * span + n % span ≡ n = div-add-mod' n span in
    elim (cases_lt (n / span) m) [
      | inl below ↦ elim ended as (λ b. put_down span n b ≤ m) [ true ↦ omega arith | false ↦ omega arith ]
      | inr above ↦
          let product : m * span ≤ n / span * span = mul-le m span (n / span) span above (omega arith) in
          let whole : n % span ≡ 0 = omega arith in
          let few : n / span ≤ m =
          elim (cases_lt m (n / span)) [
            | inl over ↦ (let more : suc m * span ≤ n / span * span = mul-le (suc m) span (n / span) span over (omega arith) in
                let one : suc m * span ≡ m * span + span = omega arith in
                absurd (omega arith))
            | inr fine ↦ fine
          ]
          in
          elim ended as (λ b. put_down span n b ≤ m) [ true ↦ rw whole (omega arith) | false ↦ few ]
    ]

-- what a level may still write is at most its slot
pub unwritten_few : (slot span n : ℕ) (ended : Bool) → span * unwritten slot span n ended ≤ slot
unwritten_few slot span n ended =
    let product : span * (slot / span - put_down span n ended) ≤ span * (slot / span) = mul-le span _ span (slot / span) (omega arith) (omega arith) in
    let whole : span * (slot / span) ≤ slot = mul-div-le slot span in
    omega arith

-- a slot that is smaller than a block has no whole one
pub small_slot : (slot span : ℕ) → slot < span → slot / span ≡ 0
small_slot slot span h = let few : slot / span < 1 = div_below slot span 1 (omega arith) (omega arith) in omega arith

-- and else it has whole blocks
pub slot_parts : (level d : ℕ) → block_cells d ≤ slot_cells level → slot_cells level ≡ 2 ^ (level + 2 - (d + 3)) * block_cells d
slot_parts level d h =
    let pow : block_cells d ≡ 2 ^ (d + 3) = block_cells-pow d in
    rw pow (power_parts (d + 3) (level + 2) (exponents (d + 3) (level + 2) (omega arith)))
