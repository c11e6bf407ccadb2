-- A journal that is written, read.
use Rattle.std.proofs.Common.{◌≡◌, ℕ, suc, ◌+◌, ◌-◌, ◌^◌, ◌<◌, ◌≤◌, Bool, true, false, List, [], ◌∷◌, ◌++◌, length, take, drop, codes, Option, Some, None, refl, sym, ◌∙◌, ap, subst, arith, append_assoc, length-append}
use Rattle.std.specs.Prelude.{nat_lt, if◌then◌else◌, ◌&&◌, ◌==◌, is_some, ◌↔◌}
use Rattle.std.proofs.lemmas.Bool.{le-ltb, eq-eqb, eqb-true, and_parts, and_from}
use Rattle.std.proofs.lemmas.List.{take_at, drop_at, drop-drop}
use Rattle.byteorder.specs.Endian.{little_bytes, little_number}
use Rattle.byteorder.specs.Numbers.{little_number-reads_back, length-bytes_low_first}
use Rattle.sha2.specs.Sha256.{sha256}
use Rattle.sha2.proofs.Facts256.{length-sha256}
use Rattle.cola_journal_bytes.specs.Format.{Piece, piece_head, piece_bytes, all_bytes, summed, journal_of, Fits, AllFit, piece_of, piece_at, joined, further, pieces_in, same_bytes, is_sealed, body, read_journal}

-- the same bytes
pub same_self : (xs : List ℕ) → same_bytes xs xs ≡ true
same_self [] = refl
same_self (x ∷ xs) = and_from (x == x) (same_bytes xs xs) (eq-eqb x x refl) (same_self xs)

pub same_is : (xs ys : List ℕ) → same_bytes xs ys ≡ true → xs ≡ ys
same_is [] [] e = refl
same_is [] (y ∷ ys) e = cc
same_is (x ∷ xs) [] e = cc
same_is (x ∷ xs) (y ∷ ys) e =
    let parts = and_parts (x == y) (same_bytes xs ys) e in
    let first = eqb-true x y parts.0 in let rest = same_is xs ys parts.1 in λ i. first i ∷ rest i

-- a test that is true exactly where they are the same is that
pub same_by : (b : Bool) (xs ys : List ℕ) → ((b ≡ true) ↔ (xs ≡ ys)) → b ≡ same_bytes xs ys
same_by true xs ys iff = sym (subst (λ (l : List ℕ). same_bytes xs l ≡ true) (iff.0 refl) (same_self xs))
same_by false xs ys iff = other (same_bytes xs ys) (λ e. iff.1 (same_is xs ys e))
  where
    other : (c : Bool) → (c ≡ true → false ≡ true) → false ≡ c
    other true no_way = no_way refl
    other false no_way = refl

length-head : (at count : ℕ) → length (piece_head at count) ≡ 16
length-head at count = length-append (little_bytes 8 at) (little_bytes 8 count) ∙ (omega (arith, length-bytes_low_first 0 8 at, length-bytes_low_first 0 8 count))

-- the piece at the front
read_piece : (piece : Piece) (rest : List ℕ) → Fits piece → piece_at (piece_bytes piece ++ rest) ≡ Some (piece, rest)
read_piece piece rest fits =
    let bytes = piece.bytes in
    let a = little_bytes 8 piece.at in
    let b = little_bytes 8 (length bytes) in
    let length_a : length a ≡ 8 = length-bytes_low_first 0 8 piece.at in
    let length_b : length b ≡ 8 = length-bytes_low_first 0 8 (length bytes) in
    let shape : piece_bytes piece ++ rest ≡ a ++ (b ++ (bytes ++ rest)) = append_assoc (a ++ b) bytes rest ∙ append_assoc a b (bytes ++ rest) in
    let long : 16 ≤ length (a ++ (b ++ (bytes ++ rest))) = omega (arith, length-append a (b ++ (bytes ++ rest)), length-append b (bytes ++ rest), length_a, length_b) in
    let at : little_number 8 (a ++ (b ++ (bytes ++ rest))) ≡ piece.at = little_number-reads_back 8 piece.at (b ++ (bytes ++ rest)) (omega (arith, fits.at)) in
    let behind : drop 8 (a ++ (b ++ (bytes ++ rest))) ≡ b ++ (bytes ++ rest) = drop_at a (b ++ (bytes ++ rest)) 8 length_a in
    let count : little_number 8 (drop 8 (a ++ (b ++ (bytes ++ rest)))) ≡ length bytes = ap (little_number 8) behind ∙ little_number-reads_back 8 (length bytes) (bytes ++ rest) (omega (arith, fits.count)) in
    let last : drop 16 (a ++ (b ++ (bytes ++ rest))) ≡ bytes ++ rest = sym (drop-drop 8 8 (a ++ (b ++ (bytes ++ rest)))) ∙ ap (drop 8) behind ∙ drop_at b (bytes ++ rest) 8 length_b in
    ap piece_at shape
    ∙ below_not (length (a ++ (b ++ (bytes ++ rest)))) 16 _ long
    ∙ ap (λ (n : ℕ). piece_of n (little_number 8 (drop 8 (a ++ (b ++ (bytes ++ rest))))) (drop 16 (a ++ (b ++ (bytes ++ rest))))) at
    ∙ ap (λ (n : ℕ). piece_of piece.at n (drop 16 (a ++ (b ++ (bytes ++ rest))))) count
    ∙ ap (λ (l : List ℕ). piece_of piece.at (length bytes) l) last
    ∙ below_not (length (bytes ++ rest)) (length bytes) _ (omega (arith, length-append bytes rest))
    ∙ (λ i. Some (record { at = piece.at; bytes = take_at bytes rest (length bytes) refl i }, drop_at bytes rest (length bytes) refl i))
  where
    below_not : {X : Type 0} (m n : ℕ) (x : Option X) → n ≤ m → (if nat_lt m n then None else x) ≡ x
    below_not m n x le = let is = le-ltb m n le in rw is refl

read_pieces : (pieces : List Piece) → AllFit pieces → pieces_in (length pieces) (all_bytes pieces) ≡ Some pieces
read_pieces [] fit = refl
read_pieces (piece ∷ pieces) fit =
    ap (λ (found : Option (Piece × List ℕ)). further found (pieces_in (length pieces))) (read_piece piece (all_bytes pieces) fit.0) ∙ ap (joined piece) (read_pieces pieces fit.1)

pub read_written : (pieces : List Piece) → AllFit pieces → length pieces < 2 ^ 64 → read_journal (journal_of pieces) ≡ Some pieces
read_written pieces fit few =
    let name = codes "COLAJRNL" in
    let count = little_bytes 8 (length pieces) in
    let all = all_bytes pieces in
    let before = summed pieces in
    let sum = sha256 before in
    let bytes = journal_of pieces in
    let length_count : length count ≡ 8 = length-bytes_low_first 0 8 (length pieces) in
    let length_sum : length sum ≡ 32 = length-sha256 before in
    let length_head : length (name ++ count) ≡ 16 = length-append name count ∙ (omega (arith, length_count)) in
    let length_before : length before ≡ 16 + length all = length-append (name ++ count) all ∙ (omega (arith, length_head)) in
    let length_bytes : length bytes ≡ 48 + length all = length-append before sum ∙ (omega (arith, length_before, length_sum)) in
    let shape : bytes ≡ name ++ (count ++ (all ++ sum)) = append_assoc (name ++ count) all sum ∙ append_assoc name count (all ++ sum) in
    let front : take 8 bytes ≡ name = ap (take 8) shape ∙ take_at name (count ++ (all ++ sum)) 8 refl in
    let behind : drop 8 bytes ≡ count ++ (all ++ sum) = ap (drop 8) shape ∙ drop_at name (count ++ (all ++ sum)) 8 refl in
    let last : drop 16 bytes ≡ all ++ sum = sym (drop-drop 8 8 bytes) ∙ ap (drop 8) behind ∙ drop_at count (all ++ sum) 8 length_count in
    let cut : length before ≡ length bytes - 32 = omega (arith, length_before, length_bytes) in
    let summed_is : take (length bytes - 32) bytes ≡ before = take_at before sum (length bytes - 32) cut in
    let sum_is : drop (length bytes - 32) bytes ≡ sum = drop_at before sum (length bytes - 32) cut in
    let number : little_number 8 (drop 8 bytes) ≡ length pieces = ap (little_number 8) behind ∙ little_number-reads_back 8 (length pieces) (all ++ sum) (omega (arith, few)) in
    let body_is : body bytes ≡ all = ap (take (length bytes - 48)) last ∙ take_at all sum (length bytes - 48) (omega (arith, length_bytes)) in
    let sealed : is_sealed bytes ≡ true =
    and_from (same_bytes (take 8 bytes) name) (same_bytes (drop (length bytes - 32) bytes) (sha256 (take (length bytes - 32) bytes)))
    (ap (λ (l : List ℕ). same_bytes l name) front ∙ same_self name)
    (ap (λ (l : List ℕ). same_bytes l (sha256 (take (length bytes - 32) bytes))) sum_is ∙ ap (λ (l : List ℕ). same_bytes sum (sha256 l)) summed_is ∙ same_self sum) in
    whole (length bytes) (is_sealed bytes) _ (omega (arith, length_bytes)) sealed
    ∙ ap (λ (n : ℕ). pieces_in n (body bytes)) number
    ∙ ap (pieces_in (length pieces)) body_is
    ∙ read_pieces pieces fit
  where
    whole : {X : Type 0} (m : ℕ) (b : Bool) (x : Option X) → 48 ≤ m → b ≡ true → (if nat_lt m 48 then None else (if b then x else None)) ≡ x
    whole m true x long is = let far = le-ltb m 48 long in rw far refl
    whole m false x long is = cc

-- one piece fewer is left
pub one_read : (n m : ℕ) (rest behind : List ℕ) (piece : Piece) → n ≡ suc m → piece_at rest ≡ Some (piece, behind) → is_some (pieces_in n rest) ≡ is_some (pieces_in m behind)
one_read n m rest behind piece is found =
    ap (λ (k : ℕ). is_some (pieces_in k rest)) is ∙ ap (λ (it : Option (Piece × List ℕ)). is_some (further it (pieces_in m))) found ∙ joins (pieces_in m behind)
  where
    joins : (pieces : Option (List Piece)) → is_some (joined piece pieces) ≡ is_some pieces
    joins None = refl
    joins (Some pieces) = refl

-- a journal is sealed where its name and its sum are found
pub sealed_by : (bytes front sum digest before : List ℕ) (a b : Bool) → a ≡ true → ((a ≡ true) ↔ (front ≡ codes "COLAJRNL")) → front ≡ take 8 bytes → ((b ≡ true) ↔ (sum ≡ digest)) →
    sum ≡ drop (length bytes - 32) bytes → digest ≡ sha256 before → before ≡ take (length bytes - 32) bytes → b ≡ is_sealed bytes
sealed_by bytes front sum digest before a b is_a iff_a front_is iff_b sum_is digest_is before_is =
    let name = codes "COLAJRNL" in
    let rest : Bool = same_bytes (drop (length bytes - 32) bytes) (sha256 (take (length bytes - 32) bytes)) in
    let first : same_bytes (take 8 bytes) name ≡ true = ap (λ (l : List ℕ). same_bytes l name) (sym front_is ∙ iff_a.0 is_a) ∙ same_self name in
    let second : b ≡ rest = same_by b sum digest iff_b ∙ ap (λ (l : List ℕ). same_bytes l digest) sum_is ∙ ap (λ (l : List ℕ). same_bytes (drop (length bytes - 32) bytes) l) (digest_is ∙ ap sha256 before_is) in
    second ∙ sym (ap (λ (t : Bool). t && rest) first)
