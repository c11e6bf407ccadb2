-- The places of a store: each in its own cell, and each cell behind the header in a place.
use Rattle.std.proofs.Common.{◌≡◌, ℕ, zero, suc, ◌+◌, ◌-◌, ◌*◌, ◌/◌, ◌%◌, ◌^◌, ◌<◌, ◌≤◌, inl, inr, sym, ◌∙◌, ap, subst, arith}
use Rattle.std.proofs.lemmas.Bool.{cases_lt, cases_order}
use Rattle.std.proofs.lemmas.Nat.{pow_pos, pow-add, same_from_place, mod-mul-add, shr-shr}
use Rattle.cola_cell.specs.Places.{number_of, IsPlace}
use Rattle.cola_layout.specs.Place.{HasPlace}
use Rattle.cola_layout.proofs.Powers.{next_power, power-le}

-- a place by the begin of its level, its slot and its index
number-is : (j a i : ℕ) → number_of j a i ≡ 2 ^ (j + 3) + a * 2 ^ (j + 2) + i
number-is j a i =
    let half : 2 ^ (j + 3) ≡ 2 ^ (j + 2) + 2 ^ (j + 2) = next_power (j + 2) (j + 3) (omega arith) in
    omega arith

-- the cells of level j are those from 2^(j+3) up to 2^(j+4)
pub place-from : (j a i : ℕ) → 2 ^ (j + 3) ≤ number_of j a i
place-from j a i = omega (arith, number-is j a i)

pub place-below : (j a i : ℕ) → a ≤ 1 → i < 2 ^ (j + 2) → number_of j a i < 2 ^ (j + 4)
place-below j a i slot index =
    let half : 2 ^ (j + 3) ≡ 2 ^ (j + 2) + 2 ^ (j + 2) = next_power (j + 2) (j + 3) (omega arith) in
    let whole : 2 ^ (j + 4) ≡ 2 ^ (j + 3) + 2 ^ (j + 3) = next_power (j + 3) (j + 4) (omega arith) in
    elim (cases_lt a 1) [
      | inl first ↦ let zero_slot : a ≡ 0 = omega arith in rw zero_slot (omega (arith, number-is j 0 i))
      | inr second ↦ let one_slot : a ≡ 1 = omega arith in rw one_slot (omega (arith, number-is j 1 i))
    ]

pub place-behind : (j a i : ℕ) → 8 ≤ number_of j a i
place-behind j a i =
    let more : 2 ^ 3 ≤ 2 ^ (j + 3) = power-le 3 (j + 3) (omega arith) in omega (arith, place-from j a i)

pub place-within : (bottom j a i : ℕ) → IsPlace (bottom + 1) j a i → number_of j a i < 2 ^ (bottom + 4)
place-within bottom j a i is =
    let more : 2 ^ (j + 4) ≤ 2 ^ (bottom + 4) = power-le (j + 4) (bottom + 4) (let h : j < bottom + 1 = is.level_in in omega arith) in
    omega (arith, place-below j a i (omega (arith, is.slot_in)) is.index_in)

-- places in one cell are one place
pub place-differ : (bottom j a i k b h : ℕ) → IsPlace (bottom + 1) j a i → IsPlace (bottom + 1) k b h → number_of j a i ≡ number_of k b h →
    (j ≡ k) × (a ≡ b) × (i ≡ h)
place-differ bottom j a i k b h first second same =
    let j_below : number_of j a i < 2 ^ (j + 4) = place-below j a i (omega (arith, first.slot_in)) first.index_in in
    let k_below : number_of k b h < 2 ^ (k + 4) = place-below k b h (omega (arith, second.slot_in)) second.index_in in
    elim (cases_order j k) [
      | inl levels ↦
          let here : h < 2 ^ (j + 2) = rw levels second.index_in in
          let at_j : number_of j a i ≡ number_of j b h = rw (← levels) at same in
          let both : (a ≡ b) × (i ≡ h) = same_from_place a i b h (2 ^ (j + 2)) first.index_in here (omega (arith, number-is j a i, number-is j b h)) in
          (levels, both.0, both.1)
      | inr apart ↦ elim apart [
        | inl above ↦ let more : 2 ^ (j + 4) ≤ 2 ^ (k + 3) = power-le (j + 4) (k + 3) (omega arith) in absurd (omega (arith, place-from k b h))
        | inr beneath ↦ let more : 2 ^ (k + 4) ≤ 2 ^ (j + 3) = power-le (k + 4) (j + 3) (omega arith) in absurd (omega (arith, place-from j a i))
      ]
    ]

-- each cell from the upper half of a store on belongs to its lowest level
upper-half : (bottom c : ℕ) → 2 ^ (bottom + 3) ≤ c → c < 2 ^ (bottom + 4) → HasPlace bottom c
upper-half bottom c from below =
    let half : 2 ^ (bottom + 3) ≡ 2 ^ (bottom + 2) + 2 ^ (bottom + 2) = next_power (bottom + 2) (bottom + 3) (omega arith) in
    let whole : 2 ^ (bottom + 4) ≡ 2 ^ (bottom + 3) + 2 ^ (bottom + 3) = next_power (bottom + 3) (bottom + 4) (omega arith) in
    elim (cases_lt c (2 ^ (bottom + 3) + 2 ^ (bottom + 2))) [
      | inl first ↦ record {
        level = bottom;
        slot = 0;
        index = c - 2 ^ (bottom + 3);
        is = record { level_in = omega arith; slot_in = omega arith; index_in = omega arith };
        at = omega (arith, number-is bottom 0 (c - 2 ^ (bottom + 3)));
      }
      | inr second ↦ record {
        level = bottom;
        slot = 1;
        index = c - 2 ^ (bottom + 3) - 2 ^ (bottom + 2);
        is = record { level_in = omega arith; slot_in = omega arith; index_in = omega arith };
        at = omega (arith, number-is bottom 1 (c - 2 ^ (bottom + 3) - 2 ^ (bottom + 2)));
      }
    ]

-- each cell behind the header has a place
pub place-covers : (bottom c : ℕ) → 8 ≤ c → c < 2 ^ (bottom + 4) → HasPlace bottom c
place-covers zero c behind below = upper-half 0 c behind below
place-covers (suc bottom) c behind below =
    elim (cases_lt c (2 ^ (suc bottom + 3))) [
      | inr upper ↦ upper-half (suc bottom) c upper below
      | inl lower ↦
          let same : suc bottom + 3 ≡ bottom + 4 = omega arith in
          let p : HasPlace bottom c = place-covers bottom c behind (rw same at lower) in
          let level_below : p.level < bottom + 1 = p.is.level_in in
          record {
            level = p.level;
            slot = p.slot;
            index = p.index;
            is = record { level_in = omega arith; slot_in = p.is.slot_in; index_in = p.is.index_in };
            at = p.at;
          }
    ]

blocks-whole : (c length times block slot : ℕ) → 0 < block → length ≡ times * block → c ≡ length + length + slot * length →
    (c % block ≡ 0) × (length % block ≡ 0)
blocks-whole c length times block slot positive parts is =
    let start : c ≡ (times + times + slot * times) * block + 0 = rw (is, parts) (omega arith) in
    let size : length ≡ times * block + 0 = omega arith in
    (rw start (mod-mul-add (times + times + slot * times) block 0 positive), rw size (mod-mul-add times block 0 positive))

-- a slot of a level from b - 2 on begins at a block of 2^b cells, and its cells fill whole blocks
pub slot-blocks : (b level slot : ℕ) → b ≤ level + 2 → (number_of level slot 0 % 2 ^ b ≡ 0) × (2 ^ (level + 2) % 2 ^ b ≡ 0)
slot-blocks b level slot device =
    let is : level + 2 ≡ (level + 2 - b) + b = omega arith in
    let parts : 2 ^ (level + 2) ≡ 2 ^ (level + 2 - b) * 2 ^ b = subst (λ (n : ℕ). 2 ^ n ≡ 2 ^ (level + 2 - b) * 2 ^ b) (sym is) (pow-add 2 (level + 2 - b) b) in
    let twice : 2 ^ (level + 3) ≡ 2 ^ (level + 2) + 2 ^ (level + 2) = next_power (level + 2) (level + 3) (omega arith) in
    blocks-whole (number_of level slot 0) (2 ^ (level + 2)) (2 ^ (level + 2 - b)) (2 ^ b) slot (pow_pos b) parts (omega (arith, number-is level slot 0))

-- a level below b - 2 stands in the blocks 0 and 1 of 2^b cells, and every other level behind them
pub front-below : (b level slot index : ℕ) → slot ≤ 1 → index < 2 ^ (level + 2) → level + 2 < b → number_of level slot index < 2 ^ (b + 1)
front-below b level slot index slots indices above =
    let more : 2 ^ (level + 4) ≤ 2 ^ (b + 1) = power-le (level + 4) (b + 1) (omega arith) in
    omega (arith, place-below level slot index slots indices)

pub device-behind : (b level slot index : ℕ) → b ≤ level + 2 → 2 ^ (b + 1) ≤ number_of level slot index
device-behind b level slot index device =
    let more : 2 ^ (b + 1) ≤ 2 ^ (level + 3) = power-le (b + 1) (level + 3) (omega arith) in
    omega (arith, place-from level slot index)

-- the 8 cells of an aligned group lie in one block
pub group-in_block : (b c d : ℕ) → 3 ≤ b → c / 8 ≡ d / 8 → c / 2 ^ b ≡ d / 2 ^ b
group-in_block b c d large same =
    let parts : 3 + (b - 3) ≡ b = omega arith in
    let of_c : c / 8 / 2 ^ (b - 3) ≡ c / 2 ^ b = shr-shr c 3 (b - 3) ∙ ap (λ (k : ℕ). c / 2 ^ k) parts in
    let of_d : d / 8 / 2 ^ (b - 3) ≡ d / 2 ^ b = shr-shr d 3 (b - 3) ∙ ap (λ (k : ℕ). d / 2 ^ k) parts in
    sym of_c ∙ ap (λ (n : ℕ). n / 2 ^ (b - 3)) same ∙ of_d
