-- Which journals are to be applied.
use Rattle.std.proofs.Common.{◌≡◌, ℕ, zero, suc, ◌+◌, ◌≤◌, Bool, true, false, List, [], ◌∷◌, length, drop, Option, Some, None, refl, sym, ◌∙◌, ap, subst, arith}
use Rattle.std.specs.Prelude.{nat_lt, not, if◌then◌else◌, ◌==◌, ◌&&◌, ◌||◌, is_some}
use Rattle.std.proofs.lemmas.Bool.{eqb-true, and_parts, and_from, not-true, ltb-false, le-ltb, lt-ltb}
use Rattle.byteorder.specs.Endian.{little_number}
use Rattle.cola_journal.specs.Disk.{Pages}
use Rattle.cola_journal_bytes.specs.Format.{Piece, piece_at, joined, further, pieces_in, is_sealed, body, read_journal}
use Rattle.cola_journal_bytes.specs.Applied.{is_in, is_in_any, pages_of, has_header, applied, pages_read}
use Rattle.cola_journal_bytes.proofs.ReadLemmas.{one_way, other_way}

-- the first of some pieces
pub header_none : (count : ℕ) (bytes : List ℕ) (read : List Piece) → piece_at bytes ≡ None → pieces_in count bytes ≡ Some read → has_header read ≡ false
header_none zero [] read none is = let empty : [] ≡ read = cc (is) in ap has_header (sym empty)
header_none zero (byte ∷ bytes) read none is = absurd (cc (is))
header_none (suc count) bytes read none is =
    absurd (let nothing : None ≡ Some read = ap (λ (first : Option (Piece × List ℕ)). further first (pieces_in count)) (sym none) ∙ is in cc)

joined_header : (piece : Piece) (others : Option (List Piece)) (read : List Piece) → joined piece others ≡ Some read → has_header read ≡ ((piece.at == 0) && not (nat_lt (length piece.bytes) 512))
joined_header piece None read is = absurd (cc (is))
joined_header piece (Some others) read is = let same : (piece ∷ others) ≡ read = cc (is) in ap has_header (sym same)

pub header_some : (count : ℕ) (bytes : List ℕ) (read : List Piece) (found : Piece × List ℕ) → piece_at bytes ≡ Some found → pieces_in count bytes ≡ Some read →
    has_header read ≡ ((found.0.at == 0) && not (nat_lt (length found.0.bytes) 512))
header_some zero [] read found first is = absurd (cc (first))
header_some zero (byte ∷ bytes) read found first is = absurd (cc (is))
header_some (suc count) bytes read found first is =
    joined_header found.0 (pieces_in count found.1) read (ap (λ (it : Option (Piece × List ℕ)). further it (pieces_in count)) (sym first) ∙ is)

some_of : {X : Type 0} (it : Option X) → is_some it ≡ true → (found : X) × (it ≡ Some found)
some_of None is = absurd (cc (is))
some_of (Some found) is = (found, refl)

kept : {X : Type 0} (b : Bool) (x : X) → b ≡ is_some (if b then Some x else None)
kept true x = refl
kept false x = refl

-- a whole journal is applied by its first piece
pub whole_is : (bytes : List ℕ) (b : Bool) → is_some (read_journal bytes) ≡ true → ((count : ℕ) (read : List Piece) → pieces_in count (body bytes) ≡ Some read → b ≡ has_header read) → b ≡ is_some (pages_read bytes)
whole_is bytes b whole header =
    let found = some_of (read_journal bytes) whole in
    let many = little_number 8 (drop 8 bytes) in
    let long = other_way (nat_lt (length bytes) 48) None (if is_sealed bytes then pieces_in many (body bytes) else None) found.0 refl found.1 in
    let sealed = one_way (is_sealed bytes) (pieces_in many (body bytes)) None found.0 refl long.1 in
    header many found.0 sealed.1 ∙ kept (has_header found.0) (pages_of found.0) ∙ ap (λ (it : Option (List Piece)). is_some (applied it)) (sym found.1)

-- and no other is
pub none_is : (bytes : List ℕ) → is_some (read_journal bytes) ≡ false → false ≡ is_some (pages_read bytes)
none_is bytes none = by_read (read_journal bytes) none
  where
    by_read : (it : Option (List Piece)) → is_some it ≡ false → false ≡ is_some (applied it)
    by_read None is = refl
    by_read (Some read) is = absurd (cc (is))

-- it has the byte that says that the file is in use
pub has_14 : (bytes : List ℕ) (pages : Pages) → pages_read bytes ≡ Some pages → pages.has 14 ≡ true
has_14 bytes pages is = by_read (read_journal bytes) is
  where
    header_has : (read : List Piece) → has_header read ≡ true → is_in_any read 14 ≡ true
    header_has [] is = absurd (cc (is))
    header_has (piece ∷ pieces) is =
        let parts = and_parts (piece.at == 0) (not (nat_lt (length piece.bytes) 512)) is in
        let first : piece.at ≡ 0 = eqb-true piece.at 0 parts.0 in
        let long : 512 ≤ length piece.bytes = ltb-false (length piece.bytes) 512 (not-true (nat_lt (length piece.bytes) 512) parts.1) in
        let below : nat_lt 14 piece.at ≡ false = le-ltb 14 piece.at (omega (arith, first)) in
        let above : nat_lt 14 (piece.at + length piece.bytes) ≡ true = lt-ltb 14 (piece.at + length piece.bytes) (omega (arith, first, long)) in
        let inside : is_in 14 piece ≡ true = and_from (not (nat_lt 14 piece.at)) (nat_lt 14 (piece.at + length piece.bytes)) (ap not below) above in
        ap (λ (b : Bool). b || is_in_any pieces 14) inside

    by_read : (it : Option (List Piece)) → applied it ≡ Some pages → pages.has 14 ≡ true
    by_read None is = absurd (cc (is))
    by_read (Some read) is =
        let parts = one_way (has_header read) (Some (pages_of read)) None pages refl is in
        let same : pages_of read ≡ pages = cc (parts.1) in
        subst (λ (p : Pages). p.has 14 ≡ true) same (header_has read parts.0)
