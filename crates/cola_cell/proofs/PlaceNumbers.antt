-- The numbers of cells: where those of a level lie, and that different places have different numbers.
use Rattle.std.proofs.Common.{◌≡◌, ◌≢◌, ◌⊎◌, inl, inr, ℕ, zero, suc, ◌+◌, ◌*◌, ◌^◌, ◌<◌, ◌≤◌, refl, ap, sym, subst, arith}
use Rattle.std.proofs.Math.Pow.{pow_mono}
use Rattle.std.proofs.lemmas.Grind.{pow_more}
use Rattle.cola_cell.specs.Places.{slot_size, number_of, IsPlace}
use Rattle.cola_cell.specs.Held.{IsElsewhere}

-- a slot begins behind twice its size
above : (slot size index : ℕ) → 2 * size ≤ (2 + slot) * size + index
above zero size index = omega arith
above (suc slot) size index = let h : 2 * size ≤ (2 + slot) * size + index = above slot size index in let e : (2 + suc slot) * size ≡ (2 + slot) * size + size = grind arith in omega (arith, e, h)

-- and ends before four times its size
below : (slot size index : ℕ) → slot < 2 → index < size → (2 + slot) * size + index < 4 * size
below zero size index s h = omega (arith, h)
below (suc zero) size index s h = omega (arith, h)
below (suc (suc slot)) size index s h = absurd (omega (arith, s))

-- a slot of the next level has twice the cells
pub slot_size-next : (level : ℕ) → slot_size (suc level) ≡ 2 * slot_size level
slot_size-next level = let e : 2 ^ ((level + 2) + 1) ≡ 2 ^ (level + 2) * 2 = pow_more 2 (level + 2) in let f : suc level + 2 ≡ (level + 2) + 1 = omega arith in rw f (rw e (omega arith))

-- a slot of a level above has no more cells
pub slot_size-mono : (low high : ℕ) → low ≤ high → slot_size low ≤ slot_size high
slot_size-mono low high h = let e : low + 2 ≤ high + 2 = omega (arith, h) in pow_mono e

-- the cells of a level lie behind those of the levels before it
apart : (l s i m t j : ℕ) → s < 2 → i < slot_size l → l < m → number_of l s i < number_of m t j
apart l s i m t j hs hi h =
    let a : number_of l s i < 4 * slot_size l = below s (slot_size l) i hs hi in
    let b : 2 * slot_size m ≤ number_of m t j = above t (slot_size m) j in
    let n : slot_size (suc l) ≡ 2 * slot_size l = slot_size-next l in
    let g : slot_size (suc l) ≤ slot_size m = slot_size-mono (suc l) m (omega (arith, h)) in
    omega (arith, a, b, n, g)

-- a number of a level's slots tells the slot and the index
within : (size s i t j : ℕ) → s < 2 → t < 2 → i < size → j < size → (s ≢ t) ⊎ (i ≢ j) → (2 + s) * size + i ≢ (2 + t) * size + j
within size zero i zero j hs ht hi hj (inl d) = λ e. d refl
within size zero i zero j hs ht hi hj (inr d) = λ e. d (omega (arith, e))
within size (suc zero) i zero j hs ht hi hj d = λ e. omega (arith, e, hi, hj)
within size zero i (suc zero) j hs ht hi hj d = λ e. omega (arith, e, hi, hj)
within size (suc zero) i (suc zero) j hs ht hi hj (inl d) = λ e. d refl
within size (suc zero) i (suc zero) j hs ht hi hj (inr d) = λ e. d (omega (arith, e))
within size (suc (suc s)) i t j hs ht hi hj d = λ e. omega (arith, hs)
within size zero i (suc (suc t)) j hs ht hi hj d = λ e. omega (arith, ht)
within size (suc zero) i (suc (suc t)) j hs ht hi hj d = λ e. omega (arith, ht)

-- two numbers are the same, or one is below the other
data Order (a b : ℕ) : Type 0 where
  Below : a < b → Order a b
  Same : a ≡ b → Order a b
  Above : b < a → Order a b

order : (a b : ℕ) → Order a b
order zero zero = Same refl
order zero (suc b) = Below (omega arith)
order (suc a) zero = Above (omega arith)
order (suc a) (suc b) = elim (order a b) [ Below h ↦ Below (omega (arith, h)) | Same h ↦ Same (ap suc h) | Above h ↦ Above (omega (arith, h)) ]

-- other places of one level
level_same : (l s i m t j : ℕ) → s < 2 → i < slot_size l → t < 2 → j < slot_size m → l ≡ m → (t ≢ s) ⊎ (j ≢ i) → number_of m t j ≢ number_of l s i
level_same l s i m t j hs hi ht hj e d =
    let k : j < slot_size l = subst (λ x. j < slot_size x) (sym e) hj in
    subst (λ x. number_of x t j ≢ number_of l s i) e (within (slot_size l) t j s i ht hs k hi d)

-- places of levels in either order
by_order : (l s i m t j : ℕ) → s < 2 → i < slot_size l → t < 2 → j < slot_size m → Order l m → IsElsewhere l s i m t j → number_of m t j ≢ number_of l s i
by_order l s i m t j hs hi ht hj (Below h) d = λ e. let a : number_of l s i < number_of m t j = apart l s i m t j hs hi h in omega (arith, a, e)
by_order l s i m t j hs hi ht hj (Above h) d = λ e. let a : number_of m t j < number_of l s i = apart m t j l s i ht hj h in omega (arith, a, e)
by_order l s i m t j hs hi ht hj (Same h) (inl d) = absurd (d (sym h))
by_order l s i m t j hs hi ht hj (Same h) (inr d) = level_same l s i m t j hs hi ht hj h d

-- another place has another number
pub numbers_differ : (l s i m t j : ℕ) → s < 2 → i < slot_size l → t < 2 → j < slot_size m → IsElsewhere l s i m t j → number_of m t j ≢ number_of l s i
numbers_differ l s i m t j hs hi ht hj d = by_order l s i m t j hs hi ht hj (order l m) d

-- the number of a place lies below that of the first level that is not there
pub number_within : (levels level slot index : ℕ) → IsPlace levels level slot index → number_of level slot index < 2 ^ (levels + 3)
number_within levels level slot index p =
    let a : number_of level slot index < 4 * slot_size level = below slot (slot_size level) index p.slot_in p.index_in in
    let n : slot_size (suc level) ≡ 2 * slot_size level = slot_size-next level in
    let h : slot_size (suc level) ≤ slot_size levels = slot_size-mono (suc level) levels (omega (arith, p.level_in)) in
    let e : slot_size (suc levels) ≡ 2 * slot_size levels = slot_size-next levels in
    let f : levels + 3 ≡ suc levels + 2 = omega arith in
    rw f (omega (arith, a, n, h, e))

-- which is where the first slot of that level would begin
pub number_below_next : (levels level slot index : ℕ) → IsPlace levels level slot index → number_of level slot index < number_of levels 0 0
number_below_next levels level slot index p =
    let a : number_of level slot index < 4 * slot_size level = below slot (slot_size level) index p.slot_in p.index_in in
    let n : slot_size (suc level) ≡ 2 * slot_size level = slot_size-next level in
    let h : slot_size (suc level) ≤ slot_size levels = slot_size-mono (suc level) levels (omega (arith, p.level_in)) in
    omega (arith, a, n, h)
