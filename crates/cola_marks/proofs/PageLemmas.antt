-- Pages that a write does not touch, and marks that are set.
use Rattle.std.proofs.Common.{◌≡◌, ◌⊎◌, inl, inr, ⊎_elim, ℕ, ◌+◌, ◌-◌, ◌*◌, ◌/◌, ◌%◌, ◌<◌, ◌≤◌, false, List, [], ◌∷◌, length, drop, get_or, refl, sym, ◌∙◌, ap, arith, zero, suc}
use Rattle.std.specs.Prelude.{not, ◌==◌, if◌then◌else◌}
use Rattle.std.proofs.lemmas.Bool.{cases_lt, cases_eq, ne_eqb}
use Rattle.std.proofs.lemmas.Nat.{div-add-mod', mod_below}
use Rattle.std.proofs.lemmas.List.{take-append-drop, get_or-drop, get_or-take, ext_get_or}
use Rattle.std.proofs.lemmas.List.Sums.{sum_by-set}
use Rattle.std.proofs.Math.ListN.{set}
use Rattle.cola_device.specs.Bytes.{splice}
use Rattle.cola_device.proofs.BytesLemmas.{part-splice_below, part-splice_above}
use Rattle.cola_marks.specs.Pages.{page_of, IsTouched, pages_touched, marked, MarksPages, MarksTouched}

-- a page that has none of the bytes lies before them or behind them, or there are none
pub out : (at count page : ℕ) → (IsTouched at count page → ⊥) → (count ≡ 0) ⊎ ((4096 * page + 4096 ≤ at) ⊎ (at + count ≤ 4096 * page))
out at count page none =
    ⊎_elim (λ zero. inl zero)
    (λ some. ⊎_elim
    (λ ends. ⊎_elim
    (λ begins. absurd (none (record { some = positive count some; begins = begins; ends = ends })))
    (λ above. inr (inr above)) (cases_lt (4096 * page) (at + count)))
    (λ below. inr (inl below)) (cases_lt at (4096 * page + 4096)))
    (cases_eq count 0)
  where
    positive : (n : ℕ) → (n ≡ 0 → ⊥) → 0 < n
    positive n some = omega (arith, some)

-- a page is touched or not
pub touched_or : (at count page : ℕ) → IsTouched at count page ⊎ (IsTouched at count page → ⊥)
touched_or at count page =
    ⊎_elim (λ some. ⊎_elim
    (λ begins. ⊎_elim
    (λ ends. inl (record { some = some; begins = begins; ends = ends }))
    (λ past. inr (λ touched. omega (arith, touched.ends, past))) (cases_lt at (4096 * page + 4096)))
    (λ past. inr (λ touched. omega (arith, touched.begins, past))) (cases_lt (4096 * page) (at + count)))
    (λ none. inr (λ touched. omega (arith, touched.some, none))) (cases_lt 0 count)

splice_none : (bytes left : List ℕ) (at : ℕ) → length left ≡ 0 → splice bytes at left ≡ bytes
splice_none bytes [] at none = take-append-drop at bytes
splice_none bytes (byte ∷ left) at none = absurd (omega (arith, none))

-- it keeps its bytes
pub page_stays : (bytes left : List ℕ) (at count page : ℕ) → at + count ≤ length bytes → length left ≡ count → (IsTouched at count page → ⊥) → page_of (splice bytes at left) page ≡ page_of bytes page
page_stays bytes left at count page inside as_many none =
    ⊎_elim (λ zero. ap (λ (b : List ℕ). page_of b page) (splice_none bytes left at (as_many ∙ zero)))
    (λ apart. ⊎_elim
    (λ below. part-splice_below bytes at left (4096 * page) 4096 (omega arith) below)
    (λ above. part-splice_above bytes at left (4096 * page) 4096 (omega arith) (omega (arith, as_many, above))) apart)
    (out at count page none)

touched_some : (at count : ℕ) → 0 < count → pages_touched at count ≡ (at % 4096 + count - 1) / 4096 + 1
touched_some at count some = let none : (count == 0) ≡ false = ne_eqb count 0 (λ zero. omega (arith, zero, some)) in rw none refl

-- a page is touched exactly where it is one of so many
pub inside_of : (at count page : ℕ) → IsTouched at count page → (at / 4096 ≤ page) × (page < at / 4096 + pages_touched at count)
inside_of at zero page touched = absurd (omega (arith, touched.some))
inside_of at (suc count) page touched =
    let quotient = div-add-mod' at 4096 in
    let more = div-add-mod' (at % 4096 + suc count - 1) 4096 in
    let less = mod_below (at % 4096 + suc count - 1) 4096 (omega arith) in
    let few = mod_below at 4096 (omega arith) in
    let is = touched_some at (suc count) (omega arith) in
    (omega (arith, quotient, few, touched.ends), omega (arith, quotient, more, less, is, touched.begins))

pub outside_of : (at count page : ℕ) → (IsTouched at count page → ⊥) → (page < at / 4096) ⊎ (at / 4096 + pages_touched at count ≤ page)
outside_of at zero page none = ⊎_elim (λ below. inl below) (λ above. inr (omega (arith, above))) (cases_lt page (at / 4096))
outside_of at (suc count) page none =
    let quotient = div-add-mod' at 4096 in
    let more = div-add-mod' (at % 4096 + suc count - 1) 4096 in
    let less = mod_below (at % 4096 + suc count - 1) 4096 (omega arith) in
    let few = mod_below at 4096 (omega arith) in
    let is = touched_some at (suc count) (omega arith) in
    ⊎_elim (λ zero. absurd (omega (arith, zero)))
    (λ apart. ⊎_elim (λ below. inl (omega (arith, quotient, few, below))) (λ above. inr (omega (arith, quotient, more, less, is, above))) apart)
    (out at (suc count) page none)

pub touched_by : (at count first end : ℕ) (before now : List ℕ) → first ≡ at / 4096 → end ≡ at / 4096 + pages_touched at count → MarksPages first end before now → MarksTouched at count before now
touched_by at count first end before now is ends marks =
    record {
      many = marks.many;
      touched = λ page there touched. let range = inside_of at count page touched in marks.inside page (omega (arith, is, range)) (omega (arith, ends, range)) there;
      others = λ page none. ⊎_elim (λ below. marks.below page (omega (arith, is, below))) (λ above. marks.above page (omega (arith, ends, above))) (outside_of at count page none);
    }

-- one mark more is set
pub one_marked : (marks : List ℕ) (page : ℕ) → page < length marks → marked (set marks page 1) ≤ marked marks + 1
one_marked marks page there =
    let sums = sum_by-set (λ mark. if not (mark == 0) then 1 else 0) marks page 1 0 there in omega (arith, sums)

-- pages tell the bytes
pub pages_tell : (file now : List ℕ) (many : ℕ) → length file ≡ length now → length now ≤ 4096 * many → ((page : ℕ) → page < many → page_of file page ≡ page_of now page) → file ≡ now
pages_tell file now many same covered pages =
    ext_get_or 0 file now same (λ place there. let quotient = div-add-mod' place 4096 in
    let rest = mod_below place 4096 (omega arith) in
    let page = place / 4096 in
    let found : (bytes : List ℕ) → get_or (page_of bytes page) (place % 4096) 0 ≡ get_or bytes place 0 =
    λ bytes. get_or-take 4096 (drop (4096 * page) bytes) (place % 4096) 0 rest ∙ get_or-drop (4096 * page) bytes (place % 4096) 0
    ∙ ap (λ (n : ℕ). get_or bytes n 0) (omega (arith, quotient)) in
    sym (found file) ∙ ap (λ (bytes : List ℕ). get_or bytes (place % 4096) 0) (pages page (omega (arith, quotient, rest, there, same, covered))) ∙ found now)

-- how many pages a write touches at most
pub at_most_17 : (at count : ℕ) → count ≤ 65536 → pages_touched at count ≤ 17
at_most_17 at zero few = omega arith
at_most_17 at (suc count) few =
    let more = div-add-mod' (at % 4096 + suc count - 1) 4096 in
    let less = mod_below at 4096 (omega arith) in
    let is = touched_some at (suc count) (omega arith) in
    omega (arith, more, less, is, few)

pub at_most_one : (at count : ℕ) → at % 4096 + count ≤ 4096 → pages_touched at count ≤ 1
at_most_one at zero few = omega arith
at_most_one at (suc count) few =
    let more = div-add-mod' (at % 4096 + suc count - 1) 4096 in
    let is = touched_some at (suc count) (omega arith) in
    omega (arith, more, is, few)
