-- The numbers of places, of blocks, and of the cells of tails.
use Rattle.std.proofs.Common.{◌≡◌, ◌≢◌, ◌⊎◌, ℕ, ◌+◌, ◌-◌, ◌*◌, ◌/◌, ◌%◌, ◌^◌, ◌<◌, ◌≤◌, inl, inr, sym, ap, subst, ◌∙◌, arith}
use Rattle.std.proofs.lemmas.Bool.{cases_lt, cases_order}
use Rattle.std.proofs.lemmas.Nat.{pow_pos, pow-add, div-mul-add, mod-mul-add}
use Rattle.std.proofs.Math.Nat.{mul_comm, mul_assoc, mul-le-mul_left, mul-add-div_right, mul-add-mod_self_right, div-add-mod, mod-lt, div-lt_iff_lt-mul}
use Rattle.cola_cell.specs.Places.{number_of, slot_size, IsPlace}
use Rattle.cola_layout.proofs.Places.{place-differ, place-within}

-- a block that comes before another ends before it
pub block-before : (block k n : ℕ) → k < n → block * k + block ≤ block * n
block-before block k n below = omega (arith, mul-le-mul_left block (let h : k + 1 ≤ n = omega (arith, below) in h))

-- a cell whose number lies in one of so many blocks ends within them, where a cell has `w` bytes
pub cell-in_blocks : (w b many n : ℕ) → 0 < b → n / b < many → n * w + w ≤ many * (w * b)
cell-in_blocks w b many n some below =
    let fits : n + 1 ≤ b * many = omega (arith, div-add-mod n b, mod-lt n some, block-before b (n / b) many below) in
    omega (arith, mul-le-mul_left w fits, mul_comm n w, sym (mul_assoc w b many) ∙ mul_comm (w * b) many)

-- numbers of different blocks stand on different sides of a block
pub block-apart : (block k n : ℕ) → 0 < block → n / block ≢ k → (n + 1 ≤ block * k) ⊎ (block * k + block ≤ n)
block-apart block k n some apart =
    elim (cases_order (n / block) k) [
      | inl same ↦ absurd (apart same)
      | inr (inl below) ↦ inl (omega (arith, block-before block (n / block) k below, div-add-mod n block, mod-lt n some))
      | inr (inr above) ↦ inr (omega (arith, block-before block k (n / block) above, div-add-mod n block))
    ]

-- a number by its block and its place there
pub block-of : (block k p : ℕ) → p < block → ((block * k + p) / block ≡ k) × ((block * k + p) % block ≡ p)
block-of block k p within =
    let e : block * k + p ≡ k * block + p = ap (λ (n : ℕ). n + p) (mul_comm block k) in
    (ap (λ (n : ℕ). n / block) e ∙ div-mul-add k block p within, ap (λ (n : ℕ). n % block) e ∙ mod-mul-add k block p within)

-- places of a level on the device
module _ (b l s i : ℕ) (device : b ≤ l + 2) where
  slot-parts : 2 ^ (l + 2) ≡ 2 ^ (l + 2 - b) * 2 ^ b
  slot-parts =
      subst (λ (n : ℕ). 2 ^ n ≡ 2 ^ (l + 2 - b) * 2 ^ b) (omega (arith, device)) (pow-add 2 (l + 2 - b) b)

  number-is : number_of l s i ≡ (2 + s) * 2 ^ (l + 2 - b) * 2 ^ b + i
  number-is = ap (λ (n : ℕ). n + i) (ap (λ (n : ℕ). (2 + s) * n) slot-parts ∙ sym (mul_assoc (2 + s) (2 ^ (l + 2 - b)) (2 ^ b)))

  -- the number of a place's block
  pub block-is : number_of l s i / 2 ^ b ≡ (2 + s) * 2 ^ (l + 2 - b) + i / 2 ^ b
  block-is = ap (λ (n : ℕ). n / 2 ^ b) number-is ∙ mul-add-div_right (pow_pos b) ((2 + s) * 2 ^ (l + 2 - b)) i

  -- its place there
  pub place-is : number_of l s i % 2 ^ b ≡ i % 2 ^ b
  place-is = ap (λ (n : ℕ). n % 2 ^ b) number-is ∙ mul-add-mod_self_right ((2 + s) * 2 ^ (l + 2 - b)) (2 ^ b) i

  -- the block's number in its slot
  pub block-within : i < slot_size l → i / 2 ^ b < 2 ^ (l + 2 - b)
  block-within h = (div-lt_iff_lt-mul (pow_pos b)).1 (subst (λ (n : ℕ). i < n) slot-parts h)

-- indices of one block of a slot have numbers in one block, and others do not
pub same-block : (b l s i j : ℕ) → b ≤ l + 2 → i / 2 ^ b ≡ j / 2 ^ b → number_of l s i / 2 ^ b ≡ number_of l s j / 2 ^ b
same-block b l s i j device e = block-is b l s i device ∙ ap (λ (n : ℕ). (2 + s) * 2 ^ (l + 2 - b) + n) e ∙ sym (block-is b l s j device)

-- the cell at which a place's block begins
begin-is : (b l s i : ℕ) → b ≤ l + 2 → number_of l s (2 ^ b * (i / 2 ^ b)) ≡ 2 ^ b * (number_of l s i / 2 ^ b)
begin-is b l s i device = omega (arith, div-add-mod (number_of l s i) (2 ^ b), div-add-mod i (2 ^ b), place-is b l s i device)

begin-place : (levels b l s i : ℕ) → IsPlace levels l s i → IsPlace levels l s (2 ^ b * (i / 2 ^ b))
begin-place levels b l s i p =
    record { level_in = p.level_in; slot_in = p.slot_in; index_in = omega (arith, div-add-mod i (2 ^ b), p.index_in) }

-- places whose numbers lie in one block are in one level, one slot, and one block of that
pub one-block : (bottom b l s i k t j : ℕ) → b ≤ l + 2 → b ≤ k + 2 → IsPlace (bottom + 1) l s i → IsPlace (bottom + 1) k t j → number_of l s i / 2 ^ b ≡ number_of k t j / 2 ^ b →
    (l ≡ k) × (s ≡ t) × (i / 2 ^ b ≡ j / 2 ^ b)
one-block bottom b l s i k t j first second p q e =
    let begin : number_of l s (2 ^ b * (i / 2 ^ b)) ≡ number_of k t (2 ^ b * (j / 2 ^ b)) = begin-is b l s i first ∙ ap (λ (n : ℕ). 2 ^ b * n) e ∙ sym (begin-is b k t j second) in
    let (levels, slots, indices) = place-differ bottom l s (2 ^ b * (i / 2 ^ b)) k t (2 ^ b * (j / 2 ^ b)) (begin-place (bottom + 1) b l s i p) (begin-place (bottom + 1) b k t j q) begin in
    (levels, slots, same-factor (2 ^ b) (i / 2 ^ b) (j / 2 ^ b) (pow_pos b) indices)
  where
    same-factor : (m x y : ℕ) → 0 < m → m * x ≡ m * y → x ≡ y
    same-factor m x y some same = elim (cases_order x y) [
      | inl is ↦ is
      | inr (inl below) ↦ absurd (omega (arith, block-before m x y below, same, some))
      | inr (inr above) ↦ absurd (omega (arith, block-before m y x above, same, some))
    ]

-- a block of a level on the device lies behind the two of the front, and within the file
pub block-behind : (b l s i : ℕ) → b ≤ l + 2 → 2 ≤ number_of l s i / 2 ^ b
block-behind b l s i device =
    let more : (2 + s) * 2 ^ (l + 2 - b) ≡ 2 * 2 ^ (l + 2 - b) + s * 2 ^ (l + 2 - b) = omega arith in
    omega (arith, pow_pos (l + 2 - b), block-is b l s i device, more)

file-parts : (bottom b : ℕ) → b ≤ bottom + 2 → 2 ^ (bottom + 4) ≡ 2 ^ (bottom + 4 - b) * 2 ^ b
file-parts bottom b fits =
    subst (λ (n : ℕ). 2 ^ n ≡ 2 ^ (bottom + 4 - b) * 2 ^ b) (omega (arith, fits)) (pow-add 2 (bottom + 4 - b) b)

-- a block that begins within the file ends within it
pub block-ends : (bottom b k : ℕ) → b ≤ bottom + 2 → k < 2 ^ (bottom + 4 - b) → 2 ^ b * k + 2 ^ b ≤ 2 ^ (bottom + 4)
block-ends bottom b k fits within =
    omega (arith, block-before (2 ^ b) k (2 ^ (bottom + 4 - b)) within, file-parts bottom b fits ∙ mul_comm (2 ^ (bottom + 4 - b)) (2 ^ b))

-- the block of a cell of the file is one of the file
pub number_in_file : (bottom b n : ℕ) → b ≤ bottom + 2 → n < 2 ^ (bottom + 4) → n / 2 ^ b < 2 ^ (bottom + 4 - b)
number_in_file bottom b n fits h = (div-lt_iff_lt-mul (pow_pos b)).1 (subst (λ (m : ℕ). n < m) (file-parts bottom b fits) h)

pub block-in_file : (bottom b l s i : ℕ) → b ≤ bottom + 2 → IsPlace (bottom + 1) l s i → number_of l s i / 2 ^ b < 2 ^ (bottom + 4 - b)
block-in_file bottom b l s i fits p = number_in_file bottom b (number_of l s i) fits (place-within bottom l s i p)

-- cells of the tails of different levels lie in different blocks of them
pub tail-block : (b d i : ℕ) → ((2 ^ b * d + i % 2 ^ b) / 2 ^ b ≡ d) × ((2 ^ b * d + i % 2 ^ b) % 2 ^ b ≡ i % 2 ^ b)
tail-block b d i = block-of (2 ^ b) d (i % 2 ^ b) (mod-lt i (pow_pos b))

-- what comes behind within a block lies in the same block
pub next-more : (block n count : ℕ) → n % block + count < block → ((n + count) / block ≡ n / block) × ((n + count) % block ≡ n % block + count)
next-more block n count more =
    let e : n + count ≡ block * (n / block) + (n % block + count) = omega (arith, div-add-mod n block) in
    let (q, p) = block-of block (n / block) (n % block + count) more in
    (ap (λ (x : ℕ). x / block) e ∙ q, ap (λ (x : ℕ). x % block) e ∙ p)

-- what comes next lies in the same block, or begins the next one
pub record IsMore (block n : ℕ) : Type 0 where
  pub block_is : (n + 1) / block ≡ n / block
  pub place_is : (n + 1) % block ≡ n % block + 1
  pub within : n % block + 1 < block

pub record IsFull (block n : ℕ) : Type 0 where
  pub block_is : (n + 1) / block ≡ n / block + 1
  pub place_is : (n + 1) % block ≡ 0
  pub full : n % block + 1 ≡ block

pub next-split : (block n : ℕ) → 0 < block → IsMore block n ⊎ IsFull block n
next-split block n some = elim (cases_lt (n % block + 1) block) [
  | inl more ↦ inl (record { block_is = (next-more block n 1 more).0; place_is = (next-more block n 1 more).1; within = more })
  | inr full ↦
      let e : n + 1 ≡ block * (n / block + 1) + 0 = omega (arith, div-add-mod n block, mod-lt n some, full) in
      let (q, p) = block-of block (n / block + 1) 0 some in
      inr (record { block_is = ap (λ (x : ℕ). x / block) e ∙ q; place_is = ap (λ (x : ℕ). x % block) e ∙ p; full = omega (arith, mod-lt n some, full) })
]

-- a block is full where what comes next begins one
pub next-full : (block n : ℕ) → 0 < block → (n + 1) % block ≡ 0 → n % block + 1 ≡ block
next-full block n some begins = elim (next-split block n some) [ inl more ↦ absurd (omega (arith, more.place_is, begins)) | inr full ↦ full.full ]

-- and where it does not, it lies in this one
pub next-same : (block n : ℕ) → 0 < block → (n + 1) % block ≢ 0 → (n + 1) / block ≡ n / block
next-same block n some apart = elim (next-split block n some) [ inl more ↦ more.block_is | inr full ↦ absurd (apart full.place_is) ]

-- numbers of one block at one place there are one
pub one-place : (block i n : ℕ) → 0 < block → i / block ≡ n / block → i % block ≡ n % block → i ≡ n
one-place block i n some blocks places = omega (arith, div-add-mod i block, div-add-mod n block, ap (λ (k : ℕ). block * k) blocks, places)

-- the last of its block
pub last-place : (block i n : ℕ) → 0 < block → i / block ≡ n / block → n % block + 1 ≡ block → i ≤ n
last-place block i n some blocks full = omega (arith, div-add-mod i block, mod-lt i some, div-add-mod n block, ap (λ (k : ℕ). block * k) blocks, full)

-- nothing of a block lies before its begin
pub first-place : (block i n : ℕ) → 0 < block → i / block ≡ n / block → n % block ≡ 0 → n ≤ i
first-place block i n some blocks begin = omega (arith, div-add-mod i block, div-add-mod n block, ap (λ (k : ℕ). block * k) blocks, begin)
