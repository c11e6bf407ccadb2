-- The marked pages of a closed store, over the file as it was, are the store.
use Rattle.std.proofs.Common.{◌≡◌, ◌≢◌, ⊎_elim, ◌∙◌, ℕ, suc, ◌+◌, ◌-◌, ◌*◌, ◌/◌, ◌%◌, ◌^◌, ◌<◌, ◌≤◌, Bool, true, false, List, [], ◌∷◌, length, drop, get_or, slice_index, Some, None, refl, sym, ap, subst, arith, length-drop, le_refl}
use Rattle.std.specs.Prelude.{nat_lt, not, if◌then◌else◌, ◌==◌, ◌&&◌, ◌||◌}
use Rattle.std.proofs.lemmas.Bool.{cases_lt, cases_eq, and_from, le-ltb, lt-ltb, eq-eqb}
use Rattle.std.proofs.lemmas.Nat.{div-add-mod', mod_below}
use Rattle.std.proofs.lemmas.List.{length-take, get_or-take, get_or-drop, get_or_past}
use Rattle.cola_marks.specs.Pages.{page_of, SameUnmarked}
use Rattle.cola_journal_bytes.specs.Format.{Piece, Fits, AllFit, journal_of, read_journal}
use Rattle.cola_journal_bytes.specs.Applied.{is_in, is_in_any, byte_of, pages_of, has_header, applied, pages_read}
use Rattle.cola_c.specs.Journal.{pieces_from, pieces_of}
use Rattle.cola_c.specs.Checkpoints.{IsToBeSaved, saved_pages, saved_journal, PagesAreTheStore}
use Rattle.cola_c.proofs.Pieces.{piece_from, by_mark, by_none}

-- Places of a page

long_page : (bytes : List ℕ) (page place : ℕ) → 4096 * page ≤ place → place < 4096 * page + 4096 → place < length bytes → place < 4096 * page + length (page_of bytes page)
long_page bytes page place from until there = omega (arith, length-take 4096 (drop (4096 * page) bytes), length-drop (4096 * page) bytes, from, until, there)

short_page : (bytes : List ℕ) (page : ℕ) → length (page_of bytes page) ≤ 4096
short_page bytes page = omega (arith, length-take 4096 (drop (4096 * page) bytes))

ended_page : (bytes : List ℕ) (page place : ℕ) → length bytes ≤ place → 4096 * page ≤ place → 4096 * page + length (page_of bytes page) ≤ place
ended_page bytes page place past from = omega (arith, length-take 4096 (drop (4096 * page) bytes), length-drop (4096 * page) bytes, past, from)

none_of : (b : Bool) → (b && false) ≡ false
none_of true = refl
none_of false = refl

in_page : (bytes : List ℕ) (page place : ℕ) → 4096 * page ≤ place → place < 4096 * page + 4096 → place < length bytes → is_in place (piece_from bytes page) ≡ true
in_page bytes page place from until there =
    let begun : nat_lt place (4096 * page) ≡ false = le-ltb place (4096 * page) from in
    let ended : nat_lt place (4096 * page + length (page_of bytes page)) ≡ true =
    lt-ltb place (4096 * page + length (page_of bytes page)) (long_page bytes page place from until there) in
    and_from (not (nat_lt place (4096 * page))) (nat_lt place (4096 * page + length (page_of bytes page))) (ap not begun) ended

before_page : (bytes : List ℕ) (page place : ℕ) → place < 4096 * page → is_in place (piece_from bytes page) ≡ false
before_page bytes page place below =
    let before : nat_lt place (4096 * page) ≡ true = lt-ltb place (4096 * page) below in
    ap (λ (b : Bool). not b && nat_lt place (4096 * page + length (page_of bytes page))) before

behind_page : (bytes : List ℕ) (page place : ℕ) → 4096 * page + length (page_of bytes page) ≤ place → is_in place (piece_from bytes page) ≡ false
behind_page bytes page place past =
    let ended : nat_lt place (4096 * page + length (page_of bytes page)) ≡ false = le-ltb place (4096 * page + length (page_of bytes page)) past in
    ap (λ (b : Bool). not (nat_lt place (4096 * page)) && b) ended ∙ none_of (not (nat_lt place (4096 * page)))

-- Places of the pieces

either_none : (b c : Bool) → b ≡ false → c ≡ false → (b || c) ≡ false
either_none true c out rest = absurd (cc out)
either_none false c out rest = rest

-- none of them begins before the first
pub none_before : (page : ℕ) (marks bytes : List ℕ) (place : ℕ) → place < 4096 * page → is_in_any (pieces_from page marks bytes) place ≡ false
none_before page [] bytes place below = refl
none_before page (mark ∷ marks) bytes place below =
    let rest : is_in_any (pieces_from (page + 1) marks bytes) place ≡ false = none_before (page + 1) marks bytes place (omega (arith, below)) in
    ⊎_elim
    (λ clear. ap (λ (ps : List Piece). is_in_any ps place) (by_none mark page marks bytes clear) ∙ rest)
    (λ set. ap (λ (ps : List Piece). is_in_any ps place) (by_mark mark page marks bytes set)
    ∙ either_none (is_in place (piece_from bytes page)) (is_in_any (pieces_from (page + 1) marks bytes) place) (before_page bytes page place below) rest)
    (cases_eq mark 0)

-- and none has a byte behind the last
pub none_past : (page : ℕ) (marks bytes : List ℕ) (place : ℕ) → length bytes ≤ place → is_in_any (pieces_from page marks bytes) place ≡ false
none_past page [] bytes place past = refl
none_past page (mark ∷ marks) bytes place past =
    let rest : is_in_any (pieces_from (page + 1) marks bytes) place ≡ false = none_past (page + 1) marks bytes place past in
    let first : is_in place (piece_from bytes page) ≡ false =
    ⊎_elim (λ below. before_page bytes page place below) (λ from. behind_page bytes page place (ended_page bytes page place past from)) (cases_lt place (4096 * page)) in
    ⊎_elim
    (λ clear. ap (λ (ps : List Piece). is_in_any ps place) (by_none mark page marks bytes clear) ∙ rest)
    (λ set. ap (λ (ps : List Piece). is_in_any ps place) (by_mark mark page marks bytes set)
    ∙ either_none (is_in place (piece_from bytes page)) (is_in_any (pieces_from (page + 1) marks bytes) place) first rest)
    (cases_eq mark 0)

-- The byte in a place

-- what stands in a place behind these pieces, where another byte stood before
abbrev over : List Piece → ℕ → ℕ → ℕ
over pieces other place = if is_in_any pieces place then byte_of pieces place else other

over_in : (piece : Piece) (pieces : List Piece) (other place : ℕ) → is_in place piece ≡ true → over (piece ∷ pieces) other place ≡ slice_index piece.bytes (place - piece.at)
over_in piece pieces other place is = by_test (is_in place piece) (is_in_any pieces place) is
  where
    by_test : (b c : Bool) → b ≡ true → (if b || c then (if b then slice_index piece.bytes (place - piece.at) else byte_of pieces place) else other) ≡ slice_index piece.bytes (place - piece.at)
    by_test true c is = refl
    by_test false c is = absurd (cc is)

over_out : (piece : Piece) (pieces : List Piece) (other place : ℕ) → is_in place piece ≡ false → over (piece ∷ pieces) other place ≡ over pieces other place
over_out piece pieces other place is = by_test (is_in place piece) (is_in_any pieces place) is
  where
    by_test : (b c : Bool) → b ≡ false → (if b || c then (if b then slice_index piece.bytes (place - piece.at) else byte_of pieces place) else other) ≡ (if c then byte_of pieces place else other)
    by_test true c is = absurd (cc is)
    by_test false c is = refl

over_none : (pieces : List Piece) (other place : ℕ) → is_in_any pieces place ≡ false → over pieces other place ≡ other
over_none pieces other place none = by_test (is_in_any pieces place) none
  where
    by_test : (b : Bool) → b ≡ false → (if b then byte_of pieces place else other) ≡ other
    by_test true none = absurd (cc none)
    by_test false none = refl

page_byte : (bytes : List ℕ) (page place : ℕ) → 4096 * page ≤ place → place < 4096 * page + 4096 → slice_index (page_of bytes page) (place - 4096 * page) ≡ slice_index bytes place
page_byte bytes page place from until =
    get_or-take 4096 (drop (4096 * page) bytes) (place - 4096 * page) 0 (omega (arith, from, until))
    ∙ get_or-drop (4096 * page) bytes (place - 4096 * page) 0
    ∙ ap (λ (n : ℕ). get_or bytes n 0) (omega (arith, from))

-- it is the store's, where that of a page with no mark is
pub byte_over : (page : ℕ) (marks now : List ℕ) (other place : ℕ) → 4096 * page ≤ place → place < length now → place < 4096 * (page + length marks) →
    (slice_index marks (place / 4096 - page) ≡ 0 → other ≡ slice_index now place) → over (pieces_from page marks now) other place ≡ slice_index now place
byte_over page [] now other place from there covered same = let none : place < 4096 * (page + 0) = covered in absurd (omega (arith, from, none))
byte_over page (mark ∷ marks) now other place from there covered same =
    let inside : place < 4096 * (page + suc (length marks)) = covered in
    let quotient = div-add-mod' place 4096 in
    let less = mod_below place 4096 (omega arith) in
    let on : 4096 * (page + 1) ≤ place → slice_index (mark ∷ marks) (place / 4096 - page) ≡ slice_index marks (place / 4096 - (page + 1)) =
    λ further. let next : place / 4096 - page ≡ suc (place / 4096 - (page + 1)) = omega (arith, quotient, less, further) in ap (λ (n : ℕ). slice_index (mark ∷ marks) n) next in
    let later : 4096 * (page + 1) ≤ place → over (pieces_from (page + 1) marks now) other place ≡ slice_index now place =
    λ further. byte_over (page + 1) marks now other place further there (omega (arith, inside)) (λ clear. same (on further ∙ clear)) in
    ⊎_elim
    (λ until.
    let here : place / 4096 - page ≡ 0 = omega (arith, quotient, less, from, until) in
    let first : slice_index (mark ∷ marks) (place / 4096 - page) ≡ mark = ap (λ (n : ℕ). slice_index (mark ∷ marks) n) here in
    ⊎_elim
    (λ clear. ap (λ (ps : List Piece). over ps other place) (by_none mark page marks now clear)
    ∙ over_none (pieces_from (page + 1) marks now) other place (none_before (page + 1) marks now place (omega (arith, until)))
    ∙ same (first ∙ clear))
    (λ set. ap (λ (ps : List Piece). over ps other place) (by_mark mark page marks now set)
    ∙ over_in (piece_from now page) (pieces_from (page + 1) marks now) other place (in_page now page place from until there)
    ∙ page_byte now page place from until)
    (cases_eq mark 0))
    (λ past.
    let further : 4096 * (page + 1) ≤ place = omega (arith, past) in
    ⊎_elim
    (λ clear. ap (λ (ps : List Piece). over ps other place) (by_none mark page marks now clear) ∙ later further)
    (λ set. ap (λ (ps : List Piece). over ps other place) (by_mark mark page marks now set)
    ∙ over_out (piece_from now page) (pieces_from (page + 1) marks now) other place (behind_page now page place (omega (arith, short_page now page, past)))
    ∙ later further)
    (cases_eq mark 0))
    (cases_lt place (4096 * page + 4096))

-- a page with no mark has the byte that it had
stood : (marks before now : List ℕ) (place : ℕ) → SameUnmarked marks before now → place / 4096 < length marks → slice_index marks (place / 4096) ≡ 0 → slice_index before place ≡ slice_index now place
stood marks before now place same there clear =
    let quotient = div-add-mod' place 4096 in
    let less = mod_below place 4096 (omega arith) in
    let page = place / 4096 in
    let found : (bytes : List ℕ) → get_or (page_of bytes page) (place % 4096) 0 ≡ get_or bytes place 0 =
    λ bytes. get_or-take 4096 (drop (4096 * page) bytes) (place % 4096) 0 less ∙ get_or-drop (4096 * page) bytes (place % 4096) 0
    ∙ ap (λ (n : ℕ). get_or bytes n 0) (omega (arith, quotient)) in
    sym (found before) ∙ sym (ap (λ (bytes : List ℕ). get_or bytes (place % 4096) 0) (same page there clear)) ∙ found now

pub pages_are_the_store : PagesAreTheStore
pages_are_the_store marks before now it place =
    let quotient = div-add-mod' place 4096 in
    let less = mod_below place 4096 (omega arith) in
    let from_first : place / 4096 ≡ place / 4096 - 0 = omega arith in
    ⊎_elim
    (λ there. byte_over 0 marks now (slice_index before place) place (omega arith) there (omega (arith, there, it.covered))
    (λ clear. stood marks before now place it.unmarked (omega (arith, quotient, less, there, it.covered))
    (ap (λ (n : ℕ). slice_index marks n) from_first ∙ clear)))
    (λ past. over_none (pieces_of marks now) (slice_index before place) place (none_past 0 marks now place past)
    ∙ get_or_past before place 0 (omega (arith, past, it.as_many)) ∙ sym (get_or_past now place 0 past))
    (cases_lt place (length now))

-- The journal

fit_from : (page : ℕ) (marks now : List ℕ) → 4096 * (page + length marks) < 2 ^ 64 → AllFit (pieces_from page marks now)
fit_from page [] now few = tt
fit_from page (mark ∷ marks) now few =
    let all : 4096 * (page + suc (length marks)) < 2 ^ 64 = few in
    let rest : AllFit (pieces_from (page + 1) marks now) = fit_from (page + 1) marks now (omega (arith, all)) in
    let one : Fits (piece_from now page) = record { at = omega (arith, all); count = omega (arith, short_page now page) } in
    ⊎_elim
    (λ clear. subst (λ (ps : List Piece). AllFit ps) (sym (by_none mark page marks now clear)) rest)
    (λ set. subst (λ (ps : List Piece). AllFit ps) (sym (by_mark mark page marks now set)) (one, rest))
    (cases_eq mark 0)

few_from : (page : ℕ) (marks now : List ℕ) → length (pieces_from page marks now) ≤ length marks
few_from page [] now = le_refl 0
few_from page (mark ∷ marks) now =
    let rest : length (pieces_from (page + 1) marks now) ≤ length marks = few_from (page + 1) marks now in
    let less : length (pieces_from page (mark ∷ marks) now) ≤ suc (length marks) =
    ⊎_elim
    (λ clear. let as_many : length (pieces_from page (mark ∷ marks) now) ≡ length (pieces_from (page + 1) marks now) = ap length (by_none mark page marks now clear) in
    omega (arith, as_many, rest))
    (λ set. let one_more : length (pieces_from page (mark ∷ marks) now) ≡ suc (length (pieces_from (page + 1) marks now)) = ap length (by_mark mark page marks now set) in
    omega (arith, one_more, rest))
    (cases_eq mark 0) in
    less

headed : (marks now : List ℕ) → slice_index marks 0 ≢ 0 → 512 ≤ length now → has_header (pieces_of marks now) ≡ true
headed [] now first long = absurd (first refl)
headed (mark ∷ marks) now first long =
    let size : 512 ≤ length (page_of now 0) = omega (arith, length-take 4096 (drop (4096 * 0) now), length-drop (4096 * 0) now, long) in
    ap has_header (by_mark mark 0 marks now first)
    ∙ and_from (4096 * 0 == 0) (not (nat_lt (length (page_of now 0)) 512)) (eq-eqb (4096 * 0) 0 (omega arith)) (ap not (le-ltb (length (page_of now 0)) 512 size))

applied_with : (pieces : List Piece) → has_header pieces ≡ true → applied (Some pieces) ≡ Some (pages_of pieces)
applied_with pieces is = by_test (has_header pieces) is
  where
    by_test : (b : Bool) → b ≡ true → (if b then Some (pages_of pieces) else None) ≡ Some (pages_of pieces)
    by_test true is = refl
    by_test false is = absurd (cc is)

pub journal_is_read : ((pieces : List Piece) → AllFit pieces → length pieces < 2 ^ 64 → read_journal (journal_of pieces) ≡ Some pieces) →
    (marks before now : List ℕ) → IsToBeSaved marks before now → pages_read (saved_journal marks now) ≡ Some (saved_pages marks now)
journal_is_read written marks before now it =
    let fit : AllFit (pieces_of marks now) = fit_from 0 marks now (omega (arith, it.inside, it.room)) in
    let few : length (pieces_of marks now) < 2 ^ 64 = omega (arith, few_from 0 marks now, it.inside, it.room) in
    ap applied (written (pieces_of marks now) fit few) ∙ applied_with (pieces_of marks now) (headed marks now it.first it.header)
