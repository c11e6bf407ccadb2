-- Little-endian numbers: bytes are those of the number that they read as, for all widths.
use Rattle.std.proofs.Common.{◌/◌, ◌%◌, ◌≡◌, ℕ, zero, suc, ◌+◌, ◌^◌, ◌<◌, ◌≤◌, List, [], ◌∷◌, length, take, drop, slice_index, refl, sym, ap, ◌∙◌, arith}
use Rattle.std.proofs.lemmas.List.{length-take-le, get_or-drop}
use Rattle.std.proofs.Math.Nat.{div-one, div-div-eq-div-mul, pow-suc}
use Rattle.std.specs.Int.{byte_at, bytes_low_first}
use Rattle.byteorder.specs.Endian.{little_from, little_number, little_bytes}
use Rattle.byteorder.specs.Numbers.{little_from-cons, little_from-take}

-- every item is a byte
abbrev pub AreBytes : List ℕ → Type 0
AreBytes xs = (k : ℕ) → slice_index xs k < 256

-- a byte of a number, by its place
byte_at-pow : (j x : ℕ) → byte_at j x ≡ x / 256 ^ j % 256
byte_at-pow zero x = ap (λ (y : ℕ). y % 256) (sym (div-one x))
byte_at-pow (suc j) x = refl

-- the bytes of a number from place j are those that what is left of it there reads as
digits : (k j x : ℕ) (xs : List ℕ) → length xs ≡ k → AreBytes xs → x / 256 ^ j ≡ little_from 0 k xs → bytes_low_first j k x ≡ xs
digits zero j x [] len small reads = refl
digits zero j x (a ∷ xs) len small reads = absurd (omega arith)
digits (suc k) j x [] len small reads = absurd (omega arith)
digits (suc k) j x (a ∷ xs) len small reads =
    let rest = little_from-cons 0 k a xs in
    let low : a < 256 = small 0 in
    let moved : x / 256 ^ suc j ≡ x / 256 ^ j / 256 = ap (λ (p : ℕ). x / p) (pow-suc 256 j) ∙ sym (div-div-eq-div-mul x (256 ^ j) 256) in
    let above : x / 256 ^ suc j ≡ little_from 0 k xs = moved ∙ (omega (arith, reads, rest, low)) in
    let here : byte_at j x ≡ a = byte_at-pow j x ∙ (omega (arith, reads, rest, low)) in
    let after = digits k (suc j) x xs (omega arith) (λ i. small (suc i)) above in
    rw (here, after) refl

-- bytes are those of the number that they read as
pub bytes-of-number : (n : ℕ) (xs : List ℕ) → length xs ≡ n → AreBytes xs → little_bytes n (little_number n xs) ≡ xs
bytes-of-number n xs len small = digits n 0 (little_number n xs) xs len small (div-one (little_number n xs))

-- the front of a list of bytes is one
pub take-bytes : (n : ℕ) (xs : List ℕ) → AreBytes xs → AreBytes (take n xs)
take-bytes zero xs small k = omega arith
take-bytes (suc n) [] small k = small k
take-bytes (suc n) (x ∷ xs) small zero = small zero
take-bytes (suc n) (x ∷ xs) small (suc k) = take-bytes n xs (λ i. small (suc i)) k

-- the rest of a list of bytes is one
pub drop-bytes : (n : ℕ) (xs : List ℕ) → AreBytes xs → AreBytes (drop n xs)
drop-bytes n xs small k = rw get_or-drop (small (n + k))

-- the same of the first n bytes of a longer list
pub bytes-of-first : (n : ℕ) (xs : List ℕ) → n ≤ length xs → AreBytes xs → little_bytes n (little_number n xs) ≡ take n xs
bytes-of-first n xs fits small =
    ap (little_bytes n) (sym (little_from-take 0 n n xs (omega arith)))
    ∙ bytes-of-number n (take n xs) (length-take-le n xs fits) (take-bytes n xs small)
