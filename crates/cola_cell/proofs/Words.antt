-- Zeros in the words of a list of bytes.
use Rattle.std.proofs.Common.{◌/◌, ◌≡◌, ℕ, zero, suc, Bool, true, ◌&&◌, ◌+◌, ◌-◌, ◌*◌, ◌^◌, ◌<◌, ◌≤◌, inl, inr, List, ◌++◌, replicate, take, drop, slice_index, refl, sym, ap, ◌∙◌, arith}
use Rattle.std.specs.Int.Bits.{bit_and}
use Rattle.std.proofs.lemmas.List.{get_or-take, get_or-drop}
use Rattle.std.proofs.lemmas.Bool.{cases_lt, eqb-true}
use Rattle.std.proofs.lemmas.Bool.Decides.{Decides-and}
use Rattle.std.proofs.lemmas.Nat.{pow-add}
use Rattle.std.proofs.lemmas.Nat.Bits.{and_high_mask}
use Rattle.std.proofs.Math.Dec.{eqb}
use Rattle.std.proofs.Math.Nat.{div-one, div-div-eq-div-mul, pow-suc, pow-succ', zero-mul}
use Rattle.byteorder.specs.Endian.{little_from, little_number}
use Rattle.cola_cell.proofs.Numbers.{AreBytes, take-bytes, drop-bytes}

-- a number without its lowest digits
above-digits : (u n i : ℕ) (ys : List ℕ) → AreBytes ys → little_from i (u + n) ys / 256 ^ u ≡ little_from (i + u) n ys
above-digits zero n i ys small =
    let e : zero + n ≡ n = omega arith in
    let f : i + zero ≡ i = omega arith in
    rw (e, f) (div-one (little_from i n ys))
above-digits (suc u) n i ys small =
    let low = small i in
    let count : suc u + n ≡ suc (u + n) = omega arith in
    let place : suc i + u ≡ i + suc u = omega arith in
    let one : (slice_index ys i + 256 * little_from (suc i) (u + n) ys) / 256 ≡ little_from (suc i) (u + n) ys = omega arith in
    ap (λ (k : ℕ). little_from i k ys / 256 ^ suc u) count
    ∙ ap (λ (p : ℕ). little_from i (suc (u + n)) ys / p) (pow-succ' 256 u)
    ∙ sym (div-div-eq-div-mul (little_from i (suc (u + n)) ys) 256 (256 ^ u))
    ∙ ap (λ (x : ℕ). x / 256 ^ u) one ∙ above-digits u n (suc i) ys small ∙ ap (λ (j : ℕ). little_from j n ys) place

-- a number is zero where its digits are
zero-number : (n i : ℕ) (ys : List ℕ) → ((k : ℕ) → i ≤ k → k < i + n → slice_index ys k ≡ 0) → little_from i n ys ≡ 0
zero-number zero i ys all = refl
zero-number (suc n) i ys all =
    let here = all i (omega arith) (omega arith) in
    let rest = zero-number n (suc i) ys (λ k low high. all k (omega arith) (omega arith)) in
    omega arith

-- the digits of a number that is zero
zero-digits : (n i : ℕ) (ys : List ℕ) → little_from i n ys ≡ 0 → (k : ℕ) → i ≤ k → k < i + n → slice_index ys k ≡ 0
zero-digits zero i ys is k low high = absurd (omega arith)
zero-digits (suc n) i ys is k low high = elim (cases_lt i k) [
  | inl later ↦ zero-digits n (suc i) ys (omega arith) k (omega arith) (omega arith)
  | inr not ↦
      let here : k ≡ i = omega arith in
      rw here (omega arith)
]

-- eight bits at a time
bytes-of-bits : (u : ℕ) → 2 ^ (8 * u) ≡ 256 ^ u
bytes-of-bits zero = refl
bytes-of-bits (suc u) =
    let bits : 8 * suc u ≡ 8 * u + 8 = omega arith in
    ap (λ (k : ℕ). 2 ^ k) bits ∙ pow-add 2 (8 * u) 8 ∙ ap (λ (p : ℕ). p * 256) (bytes-of-bits u) ∙ sym (pow-suc 256 u)

-- a word under a mask of ones in all but its first u bytes
masked : (x u : ℕ) → u ≤ 8 → x < 2 ^ 64 → bit_and x (2 ^ 64 - 2 ^ (8 * u)) ≡ x / 256 ^ u * 256 ^ u
masked x u within small =
    and_high_mask 64 (8 * u) (omega arith) x small ∙ ap (λ (p : ℕ). x / p * p) (bytes-of-bits u)

-- a product that is zero, by a number that is not
nothing-above : (q p : ℕ) → 0 < p → q * p ≡ 0 → q ≡ 0
nothing-above zero p some is = refl
nothing-above (suc n) p some is = absurd (omega arith)

-- a power of 256 is not zero
some-power : (u : ℕ) → 0 < 256 ^ u
some-power zero = omega arith
some-power (suc u) = let more = some-power u in rw (pow-suc 256 u) (omega arith)

-- bytes of zeros, then as many of ones
abbrev pub mask-bytes : List ℕ
mask-bytes = replicate 72 0 ++ replicate 72 255

-- the mask at a place is that of the zeros from there on
abbrev mask-is : ℕ → Bool
mask-is at = eqb (little_number 8 (take (144 - at) (drop at mask-bytes))) (2 ^ 64 - 2 ^ (8 * (8 - (8 - (72 - at)))))

-- a test of every number below a bound
abbrev each-below : (ℕ → Bool) → ℕ → Bool
each-below test zero = true
each-below test (suc n) = test n && each-below test n

-- what is so of each number is so of one
at-each : (test : ℕ → Bool) (n k : ℕ) → each-below test n ≡ true → k < n → test k ≡ true
at-each test zero k all low = absurd (omega arith)
at-each test (suc n) k all low =
    let both = Decides-and (test n) (each-below test n) ((λ h. h), (λ h. h)) ((λ h. h), (λ h. h)) in
    let is = both.0 all in
    elim (cases_lt k n) [
      | inl before ↦ at-each test n k is.1 before
      | inr here ↦
          let last : k ≡ n = omega arith in
          ap test last ∙ is.0
    ]

-- a word of the masks has ones in all but so many of its first bytes
pub mask-word : (at : ℕ) → at ≤ 136 → little_number 8 (take (144 - at) (drop at mask-bytes)) ≡ 2 ^ 64 - 2 ^ (8 * (8 - (8 - (72 - at))))
mask-word at low =
    eqb-true (little_number 8 (take (144 - at) (drop at mask-bytes))) (2 ^ 64 - 2 ^ (8 * (8 - (8 - (72 - at)))))
    (at-each mask-is 137 at refl (omega arith))

-- a word of a list, without its first u bytes
module _ (xs : List ℕ) (small : AreBytes xs) (place u m : ℕ) (within : u ≤ 8) (reaches : 8 ≤ m) where
  byte : (k : ℕ) → k < 8 → slice_index (take m (drop place xs)) k ≡ slice_index xs (place + k)
  byte k low = get_or-take m (drop place xs) k 0 (omega arith) ∙ get_or-drop place xs k 0

  left : little_number 8 (take m (drop place xs)) / 256 ^ u ≡ little_from u (8 - u) (take m (drop place xs))
  left =
      let rest : u + (8 - u) ≡ 8 = omega arith in
      let zero-start : 0 + u ≡ u = omega arith in
      ap (λ (n : ℕ). little_from 0 n (take m (drop place xs)) / 256 ^ u) (sym rest)
      ∙ above-digits u (8 - u) 0 (take m (drop place xs)) (take-bytes m (drop place xs) (drop-bytes place xs small))
      ∙ ap (λ (i : ℕ). little_from i (8 - u) (take m (drop place xs))) zero-start

  -- where a word has nothing under the mask, the bytes of the list behind its first u are zero
  pub zero-behind : (word : ℕ) → word ≡ little_number 8 (take m (drop place xs)) → word < 2 ^ 64 → bit_and word (2 ^ 64 - 2 ^ (8 * u)) ≡ 0
      → (k : ℕ) → place + u ≤ k → k < place + 8 → slice_index xs k ≡ 0
  zero-behind word read fits is k low high =
      let at : place + (k - place) ≡ k = omega arith in
      let none : word / 256 ^ u ≡ 0 = nothing-above (word / 256 ^ u) (256 ^ u) (some-power u) (sym (masked word u within fits) ∙ is) in
      ap (slice_index xs) (sym at) ∙ sym (byte (k - place) (omega arith))
      ∙ zero-digits (8 - u) u (take m (drop place xs)) (sym left ∙ ap (λ (x : ℕ). x / 256 ^ u) (sym read) ∙ none) (k - place) (omega arith) (omega arith)

  -- where those bytes of the list are zero, the word has nothing under the mask
  pub zero-left : (word : ℕ) → word ≡ little_number 8 (take m (drop place xs)) → word < 2 ^ 64
      → ((k : ℕ) → place + u ≤ k → k < place + 8 → slice_index xs k ≡ 0) → bit_and word (2 ^ 64 - 2 ^ (8 * u)) ≡ 0
  zero-left word read fits all =
      let none : word / 256 ^ u ≡ 0 =
      ap (λ (x : ℕ). x / 256 ^ u) read ∙ left
      ∙ zero-number (8 - u) u (take m (drop place xs)) (λ k low high. byte k (omega arith) ∙ all (place + k) (omega arith) (omega arith)) in
      masked word u within fits ∙ ap (λ (q : ℕ). q * 256 ^ u) none ∙ zero-mul (256 ^ u)
