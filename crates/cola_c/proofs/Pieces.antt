-- The marked pages of a store as pieces, one by one, and a piece that was read.
use Rattle.std.proofs.Common.{◌≡◌, ◌≢◌, ◌∙◌, ℕ, ◌+◌, ◌*◌, ◌<◌, ◌≤◌, false, List, [], ◌∷◌, ◌++◌, length, take, drop, slice_index, Some, None, refl, sym, ap, subst, append_assoc, eqb}
use Rattle.std.specs.Prelude.{nat_lt}
use Rattle.std.proofs.lemmas.Bool.{ltb-false, ne_eqb}
use Rattle.std.proofs.lemmas.List.{drop_more, drop_all, length-take-le}
use Rattle.byteorder.specs.Endian.{little_number}
use Rattle.cola_marks.specs.Pages.{page_of}
use Rattle.cola_journal_bytes.specs.Format.{Piece, piece_bytes, piece_of, piece_at, all_bytes}
use Rattle.cola_journal_bytes.proofs.ReadLemmas.{other_way}
use Rattle.cola_c.specs.Journal.{pieces_from, FindsPiece}

abbrev pub piece_from : List ℕ → ℕ → Piece
piece_from bytes page = record { at = 4096 * page; bytes = page_of bytes page }

pub by_mark : (mark page : ℕ) (marks bytes : List ℕ) → mark ≢ 0 → pieces_from page (mark ∷ marks) bytes ≡ piece_from bytes page ∷ pieces_from (page + 1) marks bytes
by_mark mark page marks bytes is = let test : eqb mark 0 ≡ false = ne_eqb mark 0 is in rw test refl

pub by_none : (mark page : ℕ) (marks bytes : List ℕ) → mark ≡ 0 → pieces_from page (mark ∷ marks) bytes ≡ pieces_from (page + 1) marks bytes
by_none mark page marks bytes is = rw is refl

-- a page with no mark is no piece, and one with a mark is the next one
pub passed : (page : ℕ) (marks bytes : List ℕ) → page < length marks → slice_index marks page ≡ 0 → pieces_from page (drop page marks) bytes ≡ pieces_from (page + 1) (drop (page + 1) marks) bytes
passed page marks bytes there clear =
    ap (λ (left : List ℕ). pieces_from page left bytes) (drop_more marks page 0 there) ∙ by_none (slice_index marks page) page (drop (page + 1) marks) bytes clear

pub taken : (page : ℕ) (marks bytes : List ℕ) → page < length marks → slice_index marks page ≢ 0 → pieces_from page (drop page marks) bytes ≡ piece_from bytes page ∷ pieces_from (page + 1) (drop (page + 1) marks) bytes
taken page marks bytes there is =
    ap (λ (left : List ℕ). pieces_from page left bytes) (drop_more marks page 0 there) ∙ by_mark (slice_index marks page) page (drop (page + 1) marks) bytes is

pub none_left : (page : ℕ) (marks bytes : List ℕ) → length marks ≤ page → pieces_from page (drop page marks) bytes ≡ []
none_left page marks bytes past = ap (λ (left : List ℕ). pieces_from page left bytes) (drop_all page marks past)

-- behind a piece that was written, what is left is that of the pages behind it
pub written_on : (front written : List ℕ) (page : ℕ) (marks bytes whole : List ℕ) → page < length marks → slice_index marks page ≢ 0 → written ≡ piece_bytes (piece_from bytes page) → front ++ all_bytes (pieces_from page (drop page marks) bytes) ≡ whole →
    (front ++ written) ++ all_bytes (pieces_from (page + 1) (drop (page + 1) marks) bytes) ≡ whole
written_on front written page marks bytes whole there is wrote so_far =
    let rest : List ℕ = all_bytes (pieces_from (page + 1) (drop (page + 1) marks) bytes) in
    append_assoc front written rest
    ∙ (ap (λ (w : List ℕ). front ++ (w ++ rest)) wrote
    ∙ (ap (λ (ps : List Piece). front ++ all_bytes ps) (sym (taken page marks bytes there is))
    ∙ so_far))

-- a piece that was read stands behind its head
pub found : (bytes : List ℕ) (it : Piece × List ℕ) (at count : ℕ) → piece_at bytes ≡ Some it → at ≡ it.0.at → count ≡ length it.0.bytes → FindsPiece bytes at count
found bytes it place many is place_is many_is =
    let at = little_number 8 bytes in
    let count = little_number 8 (drop 8 bytes) in
    let rest = drop 16 bytes in
    let long = other_way (nat_lt (length bytes) 16) None (piece_of at count rest) it refl is in
    let inside = other_way (nat_lt (length rest) count) None (Some (record { at = at; bytes = take count rest }, drop count rest)) it refl long.1 in
    let fits : count ≤ length rest = ltb-false (length rest) count inside.0 in
    let same : (record { at = at; bytes = take count rest }, drop count rest) ≡ it = cc (inside.1) in
    let count_is : length (take count rest) ≡ count = length-take-le count rest fits in
    let many_count : many ≡ count = many_is ∙ (ap (λ (p : Piece × List ℕ). length p.0.bytes) (sym same) ∙ count_is) in
    let place_at : place ≡ at = place_is ∙ ap (λ (p : Piece × List ℕ). p.0.at) (sym same) in
    subst (λ (n : ℕ). FindsPiece bytes place n) (sym many_count) (subst (λ (n : ℕ). FindsPiece bytes n count) (sym place_at) (is ∙ ap (λ (p : Piece × List ℕ). Some p) (sym same)))
