-- The order of lists of bytes, word by word.
use Rattle.std.proofs.Common.{◌≡◌, ℕ, zero, suc, ◌+◌, ◌-◌, ◌*◌, ◌<◌, ◌≤◌, ◌^◌, List, [], ◌∷◌, ◌++◌, length, take, drop, replicate, refl, sym, ap, ◌∙◌, arith, length-append, length-drop}
use Rattle.std.proofs.lemmas.List.{drop-drop, drop_all, length-replicate, length-take-le, take-replicate, take_all}
use Rattle.std.proofs.Math.Nat.{mul-le-mul_left}
use Rattle.std.proofs.lemmas.Cmp.{ranked}
use Rattle.std.specs.Cmp.{nat_cmp_is}
use Rattle.std.specs.Ordering.{nat_cmp, ordering_then, MatchOrdering}
use Rattle.std.specs.declared.cmp.Ordering.{Ordering}
use Rattle.std.specs.declared.cmp.Ordering.TheVariants.{Less, Equal, Greater}
use Rattle.std.specs.Cmp.Lexicographic.{slice_cmp}
use Rattle.byteorder.specs.Endian.{big_from, big_number}
use Rattle.byteorder.specs.Numbers.{big_from-cons, big_from-lt}
use Rattle.cola_cell.specs.Bytes.{padded}
use Rattle.cola_cell.proofs.Padding.{length-padded}
use Rattle.cola_cell.proofs.Numbers.{AreBytes, drop-bytes}

-- one answer before another, and before a third
then-then : (a b c : Ordering) → ordering_then a (ordering_then b c) ≡ ordering_then (ordering_then a b) c
then-then Less b c = refl
then-then Equal b c = refl
then-then Greater b c = refl

less : (a b : ℕ) → a < b → nat_cmp a b ≡ Less
less a b h = sym (nat_cmp_is a b Less h)

greater : (a b : ℕ) → b < a → nat_cmp a b ≡ Greater
greater a b h = sym (nat_cmp_is a b Greater h)

-- numbers are ordered as they are with as much before them
shifted-by : (m a b : ℕ) (o : Ordering) → MatchOrdering o (a < b) (a ≡ b) (b < a) → MatchOrdering o (m + a < m + b) (m + a ≡ m + b) (m + b < m + a)
shifted-by m a b Less h = omega arith
shifted-by m a b Equal h = omega arith
shifted-by m a b Greater h = omega arith

shifted : (m a b : ℕ) → nat_cmp (m + a) (m + b) ≡ nat_cmp a b
shifted m a b = sym (nat_cmp_is (m + a) (m + b) (nat_cmp a b) (shifted-by m a b (nat_cmp a b) (ranked a b (nat_cmp a b) refl)))

next-by : (a b : ℕ) (o : Ordering) → MatchOrdering o (a < b) (a ≡ b) (b < a) → MatchOrdering o (suc a < suc b) (suc a ≡ suc b) (suc b < suc a)
next-by a b Less h = omega arith
next-by a b Equal h = omega arith
next-by a b Greater h = omega arith

next : (a b : ℕ) → nat_cmp (suc a) (suc b) ≡ nat_cmp a b
next a b = sym (nat_cmp_is (suc a) (suc b) (nat_cmp a b) (next-by a b (nat_cmp a b) (ranked a b (nat_cmp a b) refl)))

-- a smaller digit before makes a smaller number
below : (x y p a b : ℕ) → x < y → a < p → x * p + a < y * p + b
below x y p a b h low = let more : suc x ≤ y = omega arith in omega (arith, mul-le-mul_left p more)

-- numbers are ordered by the digit before, then by the rest
digit-by : (x y p a b : ℕ) (o : Ordering) → MatchOrdering o (x < y) (x ≡ y) (y < x) → a < p → b < p → nat_cmp (x * p + a) (y * p + b) ≡ ordering_then o (nat_cmp a b)
digit-by x y p a b Less h low_a low_b = less (x * p + a) (y * p + b) (below x y p a b h low_a)
digit-by x y p a b Equal h low_a low_b = ap (λ (z : ℕ). nat_cmp (x * p + a) (z * p + b)) (sym h) ∙ shifted (x * p) a b
digit-by x y p a b Greater h low_a low_b = greater (x * p + a) (y * p + b) (below y x p b a h low_b)

digit-first : (x y p a b : ℕ) → a < p → b < p → nat_cmp (x * p + a) (y * p + b) ≡ ordering_then (nat_cmp x y) (nat_cmp a b)
digit-first x y p a b low_a low_b = digit-by x y p a b (nat_cmp x y) (ranked x y (nat_cmp x y) refl) low_a low_b

-- lists of bytes are ordered by the number of their first bytes, then by what is behind them
pub word-first : (k : ℕ) (xs ys : List ℕ) → k ≤ length xs → k ≤ length ys → AreBytes xs → AreBytes ys
    → slice_cmp nat_cmp xs ys ≡ ordering_then (nat_cmp (big_number k xs) (big_number k ys)) (slice_cmp nat_cmp (drop k xs) (drop k ys))
word-first zero xs ys in_xs in_ys small_x small_y = refl
word-first (suc k) [] ys in_xs in_ys small_x small_y = absurd (omega arith)
word-first (suc k) (x ∷ xs) [] in_xs in_ys small_x small_y = absurd (omega arith)
word-first (suc k) (x ∷ xs) (y ∷ ys) in_xs in_ys small_x small_y =
    let a = big_from 0 k xs in
    let b = big_from 0 k ys in
    let rest = slice_cmp nat_cmp (drop k xs) (drop k ys) in
    ap (ordering_then (nat_cmp x y)) (word-first k xs ys (omega arith) (omega arith) (λ i. small_x (suc i)) (λ i. small_y (suc i)))
    ∙ then-then (nat_cmp x y) (nat_cmp a b) rest
    ∙ ap (λ (o : Ordering). ordering_then o rest)
    (sym (digit-first x y (256 ^ k) a b (big_from-lt 0 k xs (λ i. small_x (suc i))) (big_from-lt 0 k ys (λ i. small_y (suc i))))
    ∙ ap (λ (m : ℕ). nat_cmp (x * 256 ^ k + m) (y * 256 ^ k + b)) (sym (big_from-cons 0 k x xs))
    ∙ ap (λ (m : ℕ). nat_cmp (x * 256 ^ k + big_from 1 k (x ∷ xs)) (y * 256 ^ k + m)) (sym (big_from-cons 0 k y ys)))

-- zeros are before what is no longer
zeros-first : (p : ℕ) (zs : List ℕ) → length zs ≡ p → ordering_then (slice_cmp nat_cmp (replicate p 0) zs) Less ≡ Less
zeros-first zero [] long = refl
zeros-first zero (z ∷ zs) long = absurd (omega arith)
zeros-first (suc p) [] long = absurd (omega arith)
zeros-first (suc p) (zero ∷ zs) long = zeros-first p zs (omega arith)
zeros-first (suc p) (suc z ∷ zs) long =
    ap (λ (o : Ordering). ordering_then (ordering_then o (slice_cmp nat_cmp (replicate p 0) zs)) Less) (less 0 (suc z) (omega arith))

zeros-second : (p : ℕ) (zs : List ℕ) → length zs ≡ p → ordering_then (slice_cmp nat_cmp zs (replicate p 0)) Greater ≡ Greater
zeros-second zero [] long = refl
zeros-second zero (z ∷ zs) long = absurd (omega arith)
zeros-second (suc p) [] long = absurd (omega arith)
zeros-second (suc p) (zero ∷ zs) long = zeros-second p zs (omega arith)
zeros-second (suc p) (suc z ∷ zs) long =
    ap (λ (o : Ordering). ordering_then (ordering_then o (slice_cmp nat_cmp zs (replicate p 0))) Greater) (greater (suc z) 0 (omega arith))

zeros-same : (p : ℕ) → slice_cmp nat_cmp (replicate p 0) (replicate p 0) ≡ Equal
zeros-same zero = refl
zeros-same (suc p) = zeros-same p

long : (xs : List ℕ) (p : ℕ) → length (xs ++ replicate p 0) ≡ length xs + p
long xs p = length-append xs (replicate p 0) ∙ ap (λ (k : ℕ). length xs + k) (length-replicate p 0)

-- lists are ordered as they are with zeros behind them, then by their lengths
cmp-padded : (n p q : ℕ) (xs ys : List ℕ) → length xs + p ≡ n → n ≤ length ys + q
    → slice_cmp nat_cmp xs ys ≡ ordering_then (slice_cmp nat_cmp (xs ++ replicate p 0) (take n (ys ++ replicate q 0))) (nat_cmp (length xs) (length ys))
cmp-padded n p q [] [] sum fits =
    let same : n ≡ p = omega arith in
    sym
    (ap (λ (zs : List ℕ). ordering_then (slice_cmp nat_cmp (replicate p 0) zs) Equal) (take-replicate n q 0 (omega arith) ∙ ap (λ (m : ℕ). replicate m 0) same)
    ∙ ap (λ (o : Ordering). ordering_then o Equal) (zeros-same p))
cmp-padded n p q [] (y ∷ ys) sum fits =
    let whole = (y ∷ ys) ++ replicate q 0 in
    sym
    (ap (ordering_then (slice_cmp nat_cmp (replicate p 0) (take n whole))) (less 0 (length (y ∷ ys)) (omega arith))
    ∙ zeros-first p (take n whole) (length-take-le n whole (omega (arith, long (y ∷ ys) q)) ∙ (omega arith)))
cmp-padded n p q (x ∷ xs) [] sum fits =
    let whole = (x ∷ xs) ++ replicate p 0 in
    sym
    (ap (ordering_then (slice_cmp nat_cmp whole (take n (replicate q 0)))) (greater (length (x ∷ xs)) 0 (omega arith))
    ∙ ap (λ (zs : List ℕ). ordering_then (slice_cmp nat_cmp whole zs) Greater) (take-replicate n q 0 (omega arith))
    ∙ zeros-second n whole (long (x ∷ xs) p ∙ sum))
cmp-padded zero p q (x ∷ xs) (y ∷ ys) sum fits = absurd (omega arith)
cmp-padded (suc n) p q (x ∷ xs) (y ∷ ys) sum fits =
    let rest = slice_cmp nat_cmp (xs ++ replicate p 0) (take n (ys ++ replicate q 0)) in
    ap (ordering_then (nat_cmp x y)) (cmp-padded n p q xs ys (omega arith) (omega arith) ∙ ap (ordering_then rest) (sym (next (length xs) (length ys))))
    ∙ then-then (nat_cmp x y) rest (nat_cmp (suc (length xs)) (suc (length ys)))

-- a list in its room against the front of another's
pub room-order : (n m : ℕ) (xs ys room whole : List ℕ) → room ≡ padded n xs → whole ≡ padded m ys → length xs ≤ n → length ys ≤ m → n ≤ m
    → slice_cmp nat_cmp xs ys ≡ ordering_then (slice_cmp nat_cmp room (take n whole)) (nat_cmp (length xs) (length ys))
room-order n m xs ys room whole is_room is_whole in_n in_m order =
    cmp-padded n (n - length xs) (m - length ys) xs ys (omega arith) (omega arith)
    ∙ ap (λ (zs : List ℕ). ordering_then (slice_cmp nat_cmp zs (take n (padded m ys))) (nat_cmp (length xs) (length ys))) (sym is_room)
    ∙ ap (λ (zs : List ℕ). ordering_then (slice_cmp nat_cmp room (take n zs)) (nat_cmp (length xs) (length ys))) (sym is_whole)

-- lists of bytes in rooms of one size, zeros behind them
pub rooms-order : (n : ℕ) (xs ys left right : List ℕ) → left ≡ padded n xs → right ≡ padded n ys → length xs ≤ n → length ys ≤ n
    → slice_cmp nat_cmp xs ys ≡ ordering_then (slice_cmp nat_cmp left right) (nat_cmp (length xs) (length ys))
rooms-order n xs ys left right is_left is_right in_left in_right =
    room-order n n xs ys left right is_left is_right in_left in_right (omega arith)
    ∙ ap (λ (zs : List ℕ). ordering_then (slice_cmp nat_cmp left zs) (nat_cmp (length xs) (length ys)))
    (take_all n right (omega (arith, ap length is_right, length-padded n ys in_right)))

-- a word that was read of a list from a place on
pub word-there : (i x : ℕ) (xs : List ℕ) → x ≡ big_number 8 (take (length xs - i) (drop i xs)) → x ≡ big_number 8 (drop i xs)
word-there i x xs is = is ∙ ap (big_number 8) (take_all (length xs - i) (drop i xs) (omega (arith, length-drop i xs)))

-- the same number is tied with itself
tied : (a b : ℕ) → a ≡ b → nat_cmp a b ≡ Equal
tied a b e = sym (nat_cmp_is a b Equal e)

-- numbers that differ are not tied, so what is behind them does not count
decided-by : (a b : ℕ) (o rest : Ordering) → MatchOrdering o (a < b) (a ≡ b) (b < a) → (a ≡ b → ⊥) → ordering_then o rest ≡ o
decided-by a b Less rest h other = refl
decided-by a b Equal rest h other = absurd (other h)
decided-by a b Greater rest h other = refl

-- the order of two lists from a word on, where words that were read stand
word-step : (w a b : ℕ) (xs ys : List ℕ) → 8 * w + 8 ≤ length xs → 8 * w + 8 ≤ length ys → AreBytes xs → AreBytes ys
    → a ≡ big_number 8 (take (length xs - 8 * w) (drop (8 * w) xs)) → b ≡ big_number 8 (take (length ys - 8 * w) (drop (8 * w) ys))
    → slice_cmp nat_cmp (drop (8 * w) xs) (drop (8 * w) ys) ≡ ordering_then (nat_cmp a b) (slice_cmp nat_cmp (drop (8 * (w + 1)) xs) (drop (8 * (w + 1)) ys))
word-step w a b xs ys in_xs in_ys small_x small_y is_a is_b =
    let on : 8 * w + 8 ≡ 8 * (w + 1) = omega arith in
    let rest_x : drop 8 (drop (8 * w) xs) ≡ drop (8 * (w + 1)) xs = drop-drop 8 (8 * w) xs ∙ ap (λ (k : ℕ). drop k xs) on in
    let rest_y : drop 8 (drop (8 * w) ys) ≡ drop (8 * (w + 1)) ys = drop-drop 8 (8 * w) ys ∙ ap (λ (k : ℕ). drop k ys) on in
    let p = word-there (8 * w) a xs is_a in
    let q = word-there (8 * w) b ys is_b in
    word-first 8 (drop (8 * w) xs) (drop (8 * w) ys) (omega (arith, length-drop (8 * w) xs)) (omega (arith, length-drop (8 * w) ys)) (drop-bytes (8 * w) xs small_x) (drop-bytes (8 * w) ys small_y)
    ∙ ap (λ (m : ℕ). ordering_then (nat_cmp m (big_number 8 (drop (8 * w) ys))) (slice_cmp nat_cmp (drop 8 (drop (8 * w) xs)) (drop 8 (drop (8 * w) ys)))) (sym p)
    ∙ ap (λ (m : ℕ). ordering_then (nat_cmp a m) (slice_cmp nat_cmp (drop 8 (drop (8 * w) xs)) (drop 8 (drop (8 * w) ys)))) (sym q)
    ∙ ap (λ (zs : List ℕ). ordering_then (nat_cmp a b) (slice_cmp nat_cmp zs (drop 8 (drop (8 * w) ys)))) rest_x
    ∙ ap (λ (zs : List ℕ). ordering_then (nat_cmp a b) (slice_cmp nat_cmp (drop (8 * (w + 1)) xs) zs)) rest_y

-- words that are the same
pub words-same : (w a b : ℕ) (xs ys : List ℕ) → 8 * w + 8 ≤ length xs → 8 * w + 8 ≤ length ys → AreBytes xs → AreBytes ys
    → a ≡ big_number 8 (take (length xs - 8 * w) (drop (8 * w) xs)) → b ≡ big_number 8 (take (length ys - 8 * w) (drop (8 * w) ys))
    → a ≡ b → slice_cmp nat_cmp xs ys ≡ slice_cmp nat_cmp (drop (8 * w) xs) (drop (8 * w) ys)
    → slice_cmp nat_cmp xs ys ≡ slice_cmp nat_cmp (drop (8 * (w + 1)) xs) (drop (8 * (w + 1)) ys)
words-same w a b xs ys in_xs in_ys small_x small_y is_a is_b same before =
    before ∙ word-step w a b xs ys in_xs in_ys small_x small_y is_a is_b
    ∙ ap (λ (o : Ordering). ordering_then o (slice_cmp nat_cmp (drop (8 * (w + 1)) xs) (drop (8 * (w + 1)) ys))) (tied a b same)

-- words that differ
pub words-differ : (w a b : ℕ) (xs ys : List ℕ) → 8 * w + 8 ≤ length xs → 8 * w + 8 ≤ length ys → AreBytes xs → AreBytes ys
    → a ≡ big_number 8 (take (length xs - 8 * w) (drop (8 * w) xs)) → b ≡ big_number 8 (take (length ys - 8 * w) (drop (8 * w) ys))
    → (a ≡ b → ⊥) → slice_cmp nat_cmp xs ys ≡ slice_cmp nat_cmp (drop (8 * w) xs) (drop (8 * w) ys) → nat_cmp a b ≡ slice_cmp nat_cmp xs ys
words-differ w a b xs ys in_xs in_ys small_x small_y is_a is_b other before =
    sym
    (before ∙ word-step w a b xs ys in_xs in_ys small_x small_y is_a is_b
    ∙ decided-by a b (nat_cmp a b) (slice_cmp nat_cmp (drop (8 * (w + 1)) xs) (drop (8 * (w + 1)) ys)) (ranked a b (nat_cmp a b) refl) other)

-- all words are the same
pub words-end : (w : ℕ) (xs ys : List ℕ) → length xs ≤ 8 * w → length ys ≤ 8 * w
    → slice_cmp nat_cmp xs ys ≡ slice_cmp nat_cmp (drop (8 * w) xs) (drop (8 * w) ys) → slice_cmp nat_cmp xs ys ≡ Equal
words-end w xs ys end_x end_y before =
    before ∙ ap (λ (zs : List ℕ). slice_cmp nat_cmp zs (drop (8 * w) ys)) (drop_all (8 * w) xs end_x)
    ∙ ap (λ (zs : List ℕ). slice_cmp nat_cmp [] zs) (drop_all (8 * w) ys end_y)
