-- What a header's bytes say, read part by part, and the bytes from what they say.
use Rattle.std.proofs.Common.{◌≡◌, ℕ, zero, suc, ◌+◌, ◌*◌, ◌^◌, ◌<◌, ◌≤◌, List, [], ◌∷◌, ◌++◌, length, take, drop, flat_map, refl, sym, ◌∙◌, ap, arith}
use Rattle.std.proofs.lemmas.List.{drop_at, append_assoc, drop-drop, length-drop}
use Rattle.std.proofs.Math.Seq.{take-add}
use Rattle.byteorder.specs.Endian.{little_number, little_bytes}
use Rattle.byteorder.specs.Numbers.{little_number-reads_back}
use Rattle.cola_cell.proofs.Numbers.{AreBytes, bytes-of-first, drop-bytes}
use Rattle.cola_layout.specs.declared.marks.Marks.{Marks}
use Rattle.cola_layout.specs.Marks.{marks_of}
use Rattle.cola_layout.specs.Header.{marks_bytes}
use Rattle.cola_layout.specs.Read.{marks_in, levels_in}

-- a mark is a number of 32 bits
pub record AreSmall (m : Marks) : Type 0 where
  pub visible : m.visible < 2 ^ 32
  pub shadow : m.shadow < 2 ^ 32
  pub own : m.own < 2 ^ 32
  pub incoming : m.incoming < 2 ^ 32
  pub sample : m.sample < 2 ^ 32

marks_from : ℕ → ℕ → ℕ → ℕ → ℕ → Marks
marks_from v s o i p = record { visible = v; shadow = s; own = o; incoming = i; sample = p }

marks-same_from : (v w s t o u i j p q : ℕ) → v ≡ w → s ≡ t → o ≡ u → i ≡ j → p ≡ q → marks_from v s o i p ≡ marks_from w t u j q
marks-same_from v w s t o u i j p q a b c d e = rw (a, b, c, d, e) refl

-- marks are equal where their five numbers are
pub marks-same : (m n : Marks) → m.visible ≡ n.visible → m.shadow ≡ n.shadow → m.own ≡ n.own → m.incoming ≡ n.incoming → m.sample ≡ n.sample → m ≡ n
unfolding marks_from
marks-same m n a b c d e = marks-same_from m.visible n.visible m.shadow n.shadow m.own n.own m.incoming n.incoming m.sample n.sample a b c d e

pub marks-length : (m : Marks) → length (marks_bytes m) ≡ 20
unfolding marks_bytes
marks-length m = refl

-- four bytes behind others
four-more : (n k : ℕ) (xs front block : List ℕ) → k ≡ n + 4 → take n xs ≡ front → take 4 (drop n xs) ≡ block → take k xs ≡ front ++ block
four-more n k xs front block e f b = rw (e, take-add, f, b) refl

-- the bytes of the marks that 20 bytes say are those
pub marks-bytes_in : (xs : List ℕ) → 20 ≤ length xs → AreBytes xs → marks_bytes (marks_in xs) ≡ take 20 xs
unfolding marks_bytes marks_in
marks-bytes_in xs fits small =
    let b1 : little_bytes 4 (little_number 4 xs) ≡ take 4 xs = bytes-of-first 4 xs (omega arith) small in
    let b2 : little_bytes 4 (little_number 4 (drop 4 xs)) ≡ take 4 (drop 4 xs) = bytes-of-first 4 (drop 4 xs) (rw length-drop (omega arith)) (drop-bytes 4 xs small) in
    let b3 : little_bytes 4 (little_number 4 (drop 8 xs)) ≡ take 4 (drop 8 xs) = bytes-of-first 4 (drop 8 xs) (rw length-drop (omega arith)) (drop-bytes 8 xs small) in
    let b4 : little_bytes 4 (little_number 4 (drop 12 xs)) ≡ take 4 (drop 12 xs) = bytes-of-first 4 (drop 12 xs) (rw length-drop (omega arith)) (drop-bytes 12 xs small) in
    let b5 : little_bytes 4 (little_number 4 (drop 16 xs)) ≡ take 4 (drop 16 xs) = bytes-of-first 4 (drop 16 xs) (rw length-drop (omega arith)) (drop-bytes 16 xs small) in
    let f2 = four-more 4 8 xs _ _ refl (sym b1) (sym b2) in
    let f3 = four-more 8 12 xs _ _ refl f2 (sym b3) in
    let f4 = four-more 12 16 xs _ _ refl f3 (sym b4) in
    sym (four-more 16 20 xs _ _ refl f4 (sym b5))

-- the marks that their bytes say are those
pub marks-in_bytes : (m : Marks) (rest : List ℕ) → AreSmall m → marks_in (marks_bytes m ++ rest) ≡ m
unfolding marks_bytes marks_in
marks-in_bytes m rest small =
    let sample_bytes = little_bytes 4 m.sample ++ rest in
    let incoming_bytes = little_bytes 4 m.incoming ++ sample_bytes in
    let own_bytes = little_bytes 4 m.own ++ incoming_bytes in
    let shadow_bytes = little_bytes 4 m.shadow ++ own_bytes in
    marks-same _ m
    (little_number-reads_back 4 m.visible shadow_bytes small.visible)
    (little_number-reads_back 4 m.shadow own_bytes small.shadow)
    (little_number-reads_back 4 m.own incoming_bytes small.own)
    (little_number-reads_back 4 m.incoming sample_bytes small.incoming)
    (little_number-reads_back 4 m.sample rest small.sample)

-- the bytes of the levels that bytes say are those
pub levels-bytes_in : (n : ℕ) (xs : List ℕ) → 20 * n ≤ length xs → AreBytes xs → flat_map marks_bytes (levels_in n xs) ≡ take (20 * n) xs
levels-bytes_in zero xs fits small = refl
levels-bytes_in (suc n) xs fits small =
    let more : 20 * suc n ≡ 20 + 20 * n = omega arith in
    let behind : 20 * n ≤ length (drop 20 xs) = rw length-drop (omega arith) in
    rw (more, take-add, marks-bytes_in xs (omega arith) small, levels-bytes_in n (drop 20 xs) behind (drop-bytes 20 xs small)) refl

-- the levels that their bytes say are those
pub levels-in_bytes : (levels : List Marks) (rest : List ℕ) → ((j : ℕ) → AreSmall (marks_of levels j)) →
    levels_in (length levels) (flat_map marks_bytes levels ++ rest) ≡ levels
levels-in_bytes [] rest small = refl
levels-in_bytes (m ∷ levels) rest small =
    let group : flat_map marks_bytes (m ∷ levels) ++ rest ≡ marks_bytes m ++ (flat_map marks_bytes levels ++ rest) = append_assoc (marks_bytes m) (flat_map marks_bytes levels) rest in
    let behind : drop 20 (marks_bytes m ++ (flat_map marks_bytes levels ++ rest)) ≡ flat_map marks_bytes levels ++ rest = drop_at (marks_bytes m) (flat_map marks_bytes levels ++ rest) 20 (marks-length m) in
    rw (group, marks-in_bytes m (flat_map marks_bytes levels ++ rest) (small 0), behind, levels-in_bytes levels rest (λ j. small (suc j))) refl

-- one level more
pub levels-in_more : (n : ℕ) (xs : List ℕ) → levels_in (suc n) xs ≡ levels_in n xs ++ marks_in (drop (20 * n) xs) ∷ []
levels-in_more zero xs = refl
levels-in_more (suc n) xs =
    let place : 20 + 20 * n ≡ 20 * suc n = omega arith in
    let same : drop (20 * n) (drop 20 xs) ≡ drop (20 * suc n) xs = drop-drop (20 * n) 20 xs ∙ ap (λ (k : ℕ). drop k xs) place in
    ap (λ (ms : List Marks). marks_in xs ∷ ms) (levels-in_more n (drop 20 xs)) ∙ ap (λ (ys : List ℕ). marks_in xs ∷ (levels_in n (drop 20 xs) ++ marks_in ys ∷ [])) same

pub levels-length_in : (n : ℕ) (xs : List ℕ) → length (levels_in n xs) ≡ n
levels-length_in zero xs = refl
levels-length_in (suc n) xs = ap suc (levels-length_in n (drop 20 xs))
