-- A journal that is read is the one that is written of its pieces.
use Rattle.std.proofs.Common.{◌≡◌, ℕ, zero, suc, ◌+◌, ◌-◌, ◌≤◌, Bool, true, false, List, [], ◌∷◌, ◌++◌, length, take, drop, codes, Option, Some, None, refl, sym, ◌∙◌, ap, subst, arith, append_assoc, length-drop}
use Rattle.std.specs.Prelude.{nat_lt, if◌then◌else◌}
use Rattle.std.proofs.lemmas.Bool.{ltb-false, and_parts}
use Rattle.std.proofs.lemmas.List.{take-append-drop, drop-drop, drop-take, take-take, length-take-le}
use Rattle.byteorder.specs.Endian.{little_bytes, little_number}
use Rattle.sha2.specs.Sha256.{sha256}
use Rattle.cola_cell.proofs.Numbers.{AreBytes, drop-bytes, take-bytes, bytes-of-first}
use Rattle.cola_journal_bytes.specs.Format.{Piece, piece_head, piece_bytes, all_bytes, summed, journal_of, piece_of, piece_at, joined, further, pieces_in, same_bytes, is_sealed, body, read_journal}
use Rattle.cola_journal_bytes.proofs.JournalLemmas.{same_is}

-- bytes are two numbers and what is behind them
two_numbers : (bytes : List ℕ) → AreBytes bytes → 16 ≤ length bytes → bytes ≡ piece_head (little_number 8 bytes) (little_number 8 (drop 8 bytes)) ++ drop 16 bytes
two_numbers bytes are long =
    let first = bytes-of-first 8 bytes (omega (arith, long)) are in
    let second = bytes-of-first 8 (drop 8 bytes) (omega (arith, long, length-drop 8 bytes)) (drop-bytes 8 bytes are) in
    sym (ap (λ (l : List ℕ). (l ++ little_bytes 8 (little_number 8 (drop 8 bytes))) ++ drop 16 bytes) first
    ∙ ap (λ (l : List ℕ). (take 8 bytes ++ l) ++ drop 16 bytes) second
    ∙ ap (λ (l : List ℕ). (take 8 bytes ++ take 8 (drop 8 bytes)) ++ l) (sym (drop-drop 8 8 bytes))
    ∙ append_assoc (take 8 bytes) (take 8 (drop 8 bytes)) (drop 8 (drop 8 bytes))
    ∙ ap (λ (l : List ℕ). take 8 bytes ++ l) (take-append-drop 8 (drop 8 bytes))
    ∙ take-append-drop 8 bytes)

-- a test that is not passed leaves the other way
pub other_way : {X : Type 0} (b : Bool) (x y : Option X) (found : X) → x ≡ None → (if b then x else y) ≡ Some found → (b ≡ false) × (y ≡ Some found)
other_way true x y found none is = absurd (cc (none, is))
other_way false x y found none is = (refl, is)

piece_is : (bytes : List ℕ) (found : Piece × List ℕ) → AreBytes bytes → piece_at bytes ≡ Some found → bytes ≡ piece_bytes found.0 ++ found.1
piece_is bytes found are is =
    let at = little_number 8 bytes in
    let count = little_number 8 (drop 8 bytes) in
    let rest = drop 16 bytes in
    let long = other_way (nat_lt (length bytes) 16) None (piece_of at count rest) found refl is in
    let enough : 16 ≤ length bytes = ltb-false (length bytes) 16 long.0 in
    let inside = other_way (nat_lt (length rest) count) None (Some (record { at = at; bytes = take count rest }, drop count rest)) found refl long.1 in
    let fits : count ≤ length rest = ltb-false (length rest) count inside.0 in
    let same : (record { at = at; bytes = take count rest }, drop count rest) ≡ found = cc (inside.1) in
    let count_is : length (take count rest) ≡ count = length-take-le count rest fits in
    two_numbers bytes are enough
    ∙ ap (λ (l : List ℕ). piece_head at count ++ l) (sym (take-append-drop count rest))
    ∙ sym (append_assoc (piece_head at count) (take count rest) (drop count rest))
    ∙ ap (λ (n : ℕ). (piece_head at n ++ take count rest) ++ drop count rest) (sym count_is)
    ∙ ap (λ (it : Piece × List ℕ). piece_bytes it.0 ++ it.1) same

pub record ArePieces (count : ℕ) (bytes : List ℕ) (pieces : List Piece) : Type 0 where
  pub many : length pieces ≡ count
  pub is : bytes ≡ all_bytes pieces

behind_bytes : (bytes front rest : List ℕ) → AreBytes bytes → bytes ≡ front ++ rest → AreBytes rest
behind_bytes bytes front rest are is = subst (λ (l : List ℕ). AreBytes l) (ap (drop (length front)) is ∙ drop_front front rest) (drop-bytes (length front) bytes are)
  where
    drop_front : (xs ys : List ℕ) → drop (length xs) (xs ++ ys) ≡ ys
    drop_front [] ys = refl
    drop_front (x ∷ xs) ys = drop_front xs ys

abbrev Further : ℕ → Type 0
Further count = (rest : List ℕ) (others : List Piece) → AreBytes rest → pieces_in count rest ≡ Some others → ArePieces count rest others

by_rest : (count : ℕ) (bytes : List ℕ) (pieces : List Piece) → AreBytes bytes → Further count → (found : Piece × List ℕ) → piece_at bytes ≡ Some found →
    (rest : Option (List Piece)) → pieces_in count found.1 ≡ rest → joined found.0 rest ≡ Some pieces → ArePieces (suc count) bytes pieces
by_rest count bytes pieces are next found first None rest_is whole = absurd (cc (whole))
by_rest count bytes pieces are next found first (Some others) rest_is whole =
    let split = piece_is bytes found are first in
    let further_are = next found.1 others (behind_bytes bytes (piece_bytes found.0) found.1 are split) rest_is in
    let same : (found.0 ∷ others) ≡ pieces = cc (whole) in
    subst (λ (l : List Piece). ArePieces (suc count) bytes l) same
    (record { many = ap suc further_are.many; is = split ∙ ap (λ (l : List ℕ). piece_bytes found.0 ++ l) further_are.is })

by_first : (count : ℕ) (bytes : List ℕ) (pieces : List Piece) → AreBytes bytes → Further count → (first : Option (Piece × List ℕ)) → piece_at bytes ≡ first → further first (pieces_in count) ≡ Some pieces → ArePieces (suc count) bytes pieces
by_first count bytes pieces are next None first whole = absurd (cc (whole))
by_first count bytes pieces are next (Some found) first whole = by_rest count bytes pieces are next found first (pieces_in count found.1) refl whole

pieces_are : (count : ℕ) (bytes : List ℕ) (pieces : List Piece) → AreBytes bytes → pieces_in count bytes ≡ Some pieces → ArePieces count bytes pieces
pieces_are zero [] pieces are is = let none : [] ≡ pieces = cc (is) in subst (λ (l : List Piece). ArePieces 0 [] l) none (record { many = refl; is = refl })
pieces_are zero (byte ∷ bytes) pieces are is = absurd (cc (is))
pieces_are (suc count) bytes pieces are is = by_first count bytes pieces are (λ rest others small read. pieces_are count rest others small read) (piece_at bytes) refl is

pub one_way : {X : Type 0} (b : Bool) (x y : Option X) (found : X) → y ≡ None → (if b then x else y) ≡ Some found → (b ≡ true) × (x ≡ Some found)
one_way true x y found none is = (refl, is)
one_way false x y found none is = absurd (cc (none, is))

pub read_is_written : (bytes : List ℕ) (pieces : List Piece) → AreBytes bytes → read_journal bytes ≡ Some pieces → bytes ≡ journal_of pieces
read_is_written bytes pieces are is =
    let many = little_number 8 (drop 8 bytes) in
    let name = codes "COLAJRNL" in
    let end = length bytes - 32 in
    let long = other_way (nat_lt (length bytes) 48) None (if is_sealed bytes then pieces_in many (body bytes) else None) pieces refl is in
    let enough : 48 ≤ length bytes = ltb-false (length bytes) 48 long.0 in
    let sealed = one_way (is_sealed bytes) (pieces_in many (body bytes)) None pieces refl long.1 in
    let seals = and_parts (same_bytes (take 8 bytes) name) (same_bytes (drop end bytes) (sha256 (take end bytes))) sealed.0 in
    let front : take 8 bytes ≡ name = same_is (take 8 bytes) name seals.0 in
    let sum : drop end bytes ≡ sha256 (take end bytes) = same_is (drop end bytes) (sha256 (take end bytes)) seals.1 in
    let found = pieces_are many (body bytes) pieces (take-bytes (length bytes - 48) (drop 16 bytes) (drop-bytes 16 bytes are)) sealed.1 in
    let number : take 8 (drop 8 bytes) ≡ little_bytes 8 many = sym (bytes-of-first 8 (drop 8 bytes) (omega (arith, enough, length-drop 8 bytes)) (drop-bytes 8 bytes are)) in
    let parts : take end bytes ≡ (take 8 bytes ++ take 8 (drop 8 bytes)) ++ body bytes =
    sym (take-append-drop 8 (take end bytes))
    ∙ ap (λ (l : List ℕ). l ++ drop 8 (take end bytes)) (take-take 8 end bytes (omega (arith, enough)))
    ∙ ap (λ (n : ℕ). take 8 bytes ++ drop 8 (take n bytes)) (eight end (omega (arith, enough)))
    ∙ ap (λ (l : List ℕ). take 8 bytes ++ l) (drop-take 8 (end - 8) bytes)
    ∙ ap (λ (l : List ℕ). take 8 bytes ++ l) (sym (take-append-drop 8 (take (end - 8) (drop 8 bytes))))
    ∙ ap (λ (l : List ℕ). take 8 bytes ++ (l ++ drop 8 (take (end - 8) (drop 8 bytes)))) (take-take 8 (end - 8) (drop 8 bytes) (omega (arith, enough)))
    ∙ ap (λ (n : ℕ). take 8 bytes ++ (take 8 (drop 8 bytes) ++ drop 8 (take n (drop 8 bytes)))) (more end (length bytes) enough refl)
    ∙ ap (λ (l : List ℕ). take 8 bytes ++ (take 8 (drop 8 bytes) ++ l)) (drop-take 8 (length bytes - 48) (drop 8 bytes))
    ∙ ap (λ (l : List ℕ). take 8 bytes ++ (take 8 (drop 8 bytes) ++ take (length bytes - 48) l)) (drop-drop 8 8 bytes)
    ∙ sym (append_assoc (take 8 bytes) (take 8 (drop 8 bytes)) (body bytes)) in
    let summed_is : take end bytes ≡ summed pieces =
    parts
    ∙ ap (λ (l : List ℕ). (l ++ take 8 (drop 8 bytes)) ++ body bytes) front
    ∙ ap (λ (l : List ℕ). (name ++ l) ++ body bytes) (number ∙ ap (little_bytes 8) (sym found.many))
    ∙ ap (λ (l : List ℕ). (name ++ little_bytes 8 (length pieces)) ++ l) found.is in
    sym (take-append-drop end bytes)
    ∙ ap (λ (l : List ℕ). take end bytes ++ l) sum
    ∙ ap (λ (l : List ℕ). l ++ sha256 l) summed_is
  where
    eight : (n : ℕ) → 8 ≤ n → n ≡ 8 + (n - 8)
    eight n long = omega (arith, long)

    more : (n m : ℕ) → 48 ≤ m → n ≡ m - 32 → n - 8 ≡ 8 + (m - 48)
    more n m long is = omega (arith, long, is)
