-- No two places have the same key.
use Rattle.std.proofs.Common.{◌≡◌, ◌/◌, ◌%◌, ◌<◌, ℕ, ap, arith, get_or}
use Rattle.cola_gen.specs.Keys.{scattered, hex_digit, hex_text, key_text}

-- times the inverse of the factor, 244002641, is the place again
scattered_apart : (a b : ℕ) → a < 4294967296 → b < 4294967296 → scattered a ≡ scattered b → a ≡ b
scattered_apart a b small small' same = omega arith

same_digit : (a b : ℕ) → a < 16 → b < 16 → hex_digit a ≡ hex_digit b → a ≡ b
same_digit a b small small' same = grind arith

next_digit : (a b : ℕ) → a / 16 ≡ b / 16 → a % 16 ≡ b % 16 → a ≡ b
next_digit a b above same = omega arith

-- numbers whose digits are the same but for the last, and whose last digits are the same
unit_more : (a b unit : ℕ) → a / unit / 16 ≡ b / unit / 16 → hex_digit (a / unit % 16) ≡ hex_digit (b / unit % 16) → a / unit ≡ b / unit
unit_more a b unit above same = next_digit (a / unit) (b / unit) above (same_digit (a / unit % 16) (b / unit % 16) (omega arith) (omega arith) same)

hex_apart : (a b : ℕ) → a < 4294967296 → b < 4294967296 → hex_text a ≡ hex_text b → a ≡ b
hex_apart a b small small' same =
    let s7 : a / 268435456 ≡ b / 268435456 = unit_more a b 268435456 (omega arith) (ap (λ xs. get_or xs 0 0) same) in
    let s6 : a / 16777216 ≡ b / 16777216 = unit_more a b 16777216 (omega (arith, s7)) (ap (λ xs. get_or xs 1 0) same) in
    let s5 : a / 1048576 ≡ b / 1048576 = unit_more a b 1048576 (omega (arith, s6)) (ap (λ xs. get_or xs 2 0) same) in
    let s4 : a / 65536 ≡ b / 65536 = unit_more a b 65536 (omega (arith, s5)) (ap (λ xs. get_or xs 3 0) same) in
    let s3 : a / 4096 ≡ b / 4096 = unit_more a b 4096 (omega (arith, s4)) (ap (λ xs. get_or xs 4 0) same) in
    let s2 : a / 256 ≡ b / 256 = unit_more a b 256 (omega (arith, s3)) (ap (λ xs. get_or xs 5 0) same) in
    let s1 : a / 16 ≡ b / 16 = unit_more a b 16 (omega (arith, s2)) (ap (λ xs. get_or xs 6 0) same) in
    let s0 : a / 1 ≡ b / 1 = unit_more a b 1 (omega (arith, s1)) (ap (λ xs. get_or xs 7 0) same) in
    omega (arith, s0)

pub keys_apart : (a b : ℕ) → a < 4294967296 → b < 4294967296 → key_text a ≡ key_text b → a ≡ b
keys_apart a b small small' same = scattered_apart a b small small' (hex_apart (scattered a) (scattered b) (omega arith) (omega arith) same)
