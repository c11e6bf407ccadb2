-- Pairs that are ahead of a cursor, and rows.
use Rattle.std.proofs.Common.{◌≡◌, ◌∙◌, refl, sym, ap, subst, ℕ, zero, suc, ◌+◌, ◌-◌, ◌<◌, ◌≤◌, Bool, true, false, cond, not, ◌&&◌, List, [], ◌∷◌, ◌++◌, length, get_or, take, drop, map, filter, All, Option, Some, arith, inl, inr, ◌⊎◌, eqb, leb}
use Rattle.std.proofs.lemmas.Bool.{and_parts, leb-true, eqb-true}
use Rattle.std.proofs.lemmas.List.{take_at, length-append, length-take, length-map, get_or-map, get_or-take, get_or_default, take-map}
use Rattle.std.proofs.lemmas.List.Elements.{All-head, All-tail, All-get_or, All-map, All-weaker, filter_passes}
use Rattle.std.proofs.lemmas.List.Kept.{AllPairs-filter}
use Rattle.std.proofs.lemmas.Slice.Eq.{bytes_eq-Decides}
use Rattle.std.specs.Cmp.{nat_cmp_is}
use Rattle.std.specs.declared.cmp.Ordering.{Ordering}
use Rattle.std.specs.declared.cmp.Ordering.TheVariants.{Less, Equal, Greater}
use Rattle.std.specs.Cmp.Lexicographic.{slice_cmp}
use Rattle.std.specs.Ordering.{is_eq, is_lt, is_le, nat_cmp, ordering_then, ordering_reverse}
use Rattle.std.specs.Str.{bytes_eq}
use Rattle.std.specs.FinMap as finite
use Rattle.cola_spec.specs.Map.{Shape, Map, IsMap, EntryFits, pair_of, key_cmp, pairs, pairs_between, is_from, is_before}
use Rattle.cola_spec.specs.Laws.{Rises}
use Rattle.cola_spec.proofs.OrderLaws.{ties_alone}
use Rattle.cola_spec.proofs.RangeLaws.{pairs_rise}
use Rattle.cola_table.proofs.FlatMap.{key_cmp-total}
use Rattle.cola_handle.specs.declared.cursor.Cursor.{Cursor}
use Rattle.cola_handle.specs.declared.cursor.Row.{Row}
use Rattle.cola_handle.specs.Cursors.{Pair, row_pair, from_of, until_of, end_at, end_of, was_given, not_given, first_key, is_void, is_ahead, ahead, IsGoodRow, HaveFirst, IsBehind, Moves}

-- The order of keys

not_same : (a b : List ℕ) → (key_cmp b a ≡ Equal → ⊥) → bytes_eq a b ≡ false
not_same a b apart =
    elim (bytes_eq a b) as (λ t. bytes_eq a b ≡ t → t ≡ false) [
      | true ↦ λ t. absurd (apart ((ties_alone b a).1 (sym ((bytes_eq-Decides a b).0 t))))
      | false ↦ λ _. refl
    ] refl

-- the same bytes tie, and no others
pub same_ties : (a b : List ℕ) → bytes_eq a b ≡ is_eq (key_cmp b a)
same_ties a b =
    elim (key_cmp b a) as (λ o. key_cmp b a ≡ o → bytes_eq a b ≡ is_eq o) [
      | Less ↦ λ p. not_same a b (λ e. cc)
      | Equal ↦ λ p. (bytes_eq-Decides a b).1 (sym ((ties_alone b a).0 p))
      | Greater ↦ λ p. not_same a b (λ e. cc)
    ] refl

-- what is above a key from `from` on is above `from`
over : (from key other : List ℕ) → is_le (key_cmp from key) ≡ true → key_cmp key other ≡ Less → key_cmp from other ≡ Less
over from key other le less =
    elim (key_cmp from key) as (λ o. key_cmp from key ≡ o → is_le o ≡ true → key_cmp from other ≡ Less) [
      | Less ↦ λ p _. key_cmp-total.trans from key other p less
      | Equal ↦ λ p _. key_cmp-total.congr from key other p ∙ less
      | Greater ↦ λ p le. absurd (cc)
    ] refl le

-- Filters

-- two filters are one by the test that is both, where it is at each element
pub filter_both : {X : Type 0} (P : X → Type 0) (p q both : X → Bool) → ((x : X) → P x → both x ≡ (p x && q x)) → (xs : List X) → All P xs → filter q (filter p xs) ≡ filter both xs
filter_both P p q both is [] all = refl
filter_both P p q both is (x ∷ xs) all =
    let later : filter q (filter p xs) ≡ filter both xs = filter_both P p q both is xs (All-tail P x xs all) in
    elim (p x) as (λ b. both x ≡ (b && q x) → filter q (cond b (x ∷ filter p xs) (filter p xs)) ≡ cond (both x) (x ∷ filter both xs) (filter both xs)) [
      | true ↦ λ e. rw (e, later) refl
      | false ↦ λ e. rw (e, later) refl
    ] (is x (All-head P x xs all))

-- the key of a pair is above this one
abbrev is_above : List ℕ → Pair → Bool
is_above key pair = is_lt (key_cmp key pair.0)

rises-head : (x : Pair) (xs : List Pair) → Rises (x ∷ xs) → All (λ y. key_cmp x.0 y.0 ≡ Less) xs
rises-head x xs rises = λ k d within. rises 0 (suc k) d (omega arith) (omega arith)

rises-tail : (x : Pair) (xs : List Pair) → Rises (x ∷ xs) → Rises xs
rises-tail x xs rises = λ i j d lt within. rises (suc i) (suc j) d (omega arith) (omega arith)

all_kept : {X : Type 0} (p : X → Bool) (xs : List X) → All (λ x. p x ≡ true) xs → filter p xs ≡ xs
all_kept p [] all = refl
all_kept p (x ∷ xs) all = rw (All-head (λ x. p x ≡ true) x xs all, all_kept p xs (All-tail (λ x. p x ≡ true) x xs all)) refl

above_first : (key : List ℕ) (xs : List Pair) → All (λ y. key_cmp key y.0 ≡ Less) xs → filter (is_above key) xs ≡ xs
above_first key xs all = all_kept (is_above key) xs (λ k d within. ap is_lt (all k d within))

-- of pairs whose keys rise those above one of them are those that follow it
pub filter-above : (xs : List Pair) (place : ℕ) (d : Pair) → Rises xs → place < length xs → filter (is_above (get_or xs place d).0) xs ≡ drop (suc place) xs
filter-above [] place d rises within = absurd (omega arith)
filter-above (x ∷ xs) zero d rises within =
    let itself : key_cmp x.0 x.0 ≡ Equal = (ties_alone x.0 x.0).1 refl in
    rw itself (above_first x.0 xs (rises-head x xs rises))
filter-above (x ∷ xs) (suc place) d rises within =
    let below : key_cmp x.0 (get_or xs place d).0 ≡ Less = rises-head x xs rises place d (omega arith) in
    let above : key_cmp (get_or xs place d).0 x.0 ≡ Greater = key_cmp-total.antisymm (get_or xs place d).0 x.0 ∙ ap ordering_reverse below in
    rw above (filter-above xs place d (rises-tail x xs rises) (omega arith))

-- What is ahead of a cursor

empty_least : (bytes : List ℕ) → is_le (slice_cmp nat_cmp [] bytes) ≡ true
empty_least [] = refl
empty_least (byte ∷ bytes) = refl

zero_least : (byte : ℕ) (bytes : List ℕ) → is_le (key_cmp (0 ∷ []) (byte ∷ bytes)) ≡ true
zero_least zero bytes = empty_least bytes
zero_least (suc byte) bytes = ap (λ o. is_le (ordering_then o (slice_cmp nat_cmp [] bytes))) (sym (nat_cmp_is 0 (suc byte) Less (omega arith)))

first_some : (bytes : List ℕ) → 1 ≤ length bytes → first_key bytes ≡ bytes
first_some [] some = absurd (omega arith)
first_some (byte ∷ bytes) some = refl

by_order : (behind before : Bool) (o : Ordering) → ((cond behind (is_lt o) (is_le o)) && before) ≡ ((is_le o && before) && not (behind && is_eq o))
by_order true true Less = refl
by_order true true Equal = refl
by_order true true Greater = refl
by_order true false Less = refl
by_order true false Equal = refl
by_order true false Greater = refl
by_order false true Less = refl
by_order false true Equal = refl
by_order false true Greater = refl
by_order false false Less = refl
by_order false false Equal = refl
by_order false false Greater = refl

from_first : (behind before : Bool) (from key : List ℕ) → 1 ≤ length key → ((cond behind (is_lt (key_cmp from key)) (is_le (key_cmp from key))) && before) ≡ ((is_le (key_cmp (first_key from) key) && before) && not (behind && is_eq (key_cmp from key)))
from_first behind before [] [] some = absurd (omega arith)
from_first behind before [] (byte ∷ bytes) some = rw (zero_least byte bytes) (by_order behind before Less)
from_first behind before (first ∷ from) key some = by_order behind before (key_cmp (first ∷ from) key)

-- what is ahead is the interval from the cursor's key on, without the key that was given
pub not_given-between : (m : Map) (cursor : Cursor) → All (λ pair. 1 ≤ length pair.0) (pairs m) → not_given cursor (pairs_between m (first_key (from_of cursor)) (end_of cursor)) ≡ ahead m cursor
not_given-between m cursor some =
    filter_both (λ (pair : Pair). 1 ≤ length pair.0) (λ pair. is_from (first_key (from_of cursor)) pair.0 && is_before (end_of cursor) pair.0) (λ pair. not (was_given cursor pair.0)) (λ pair. is_ahead cursor pair.0)
    (λ pair long. from_first cursor.behind (is_before (end_of cursor) pair.0) (from_of cursor) pair.0 long) (pairs m) some

le_when : (behind before : Bool) (o : Ordering) → (cond behind (is_lt o) (is_le o) && before) ≡ true → is_le o ≡ true
le_when true before Less h = refl
le_when false before Less h = refl
le_when true before Equal h = refl
le_when false before Equal h = refl
le_when true before Greater h = absurd (cc)
le_when false before Greater h = absurd (cc)

and_less : (behind before : Bool) → (before ≡ ((cond behind true true && before) && true))
and_less true true = refl
and_less true false = refl
and_less false true = refl
and_less false false = refl

and_false : (b : Bool) → false ≡ (b && false)
and_false true = refl
and_false false = refl

above_both : (behind before : Bool) (from key other : List ℕ) → is_le (key_cmp from key) ≡ true → (is_lt (key_cmp key other) && before) ≡ ((cond behind (is_lt (key_cmp from other)) (is_le (key_cmp from other)) && before) && is_lt (key_cmp key other))
above_both behind before from key other le =
    elim (key_cmp key other) as (λ o. key_cmp key other ≡ o → (is_lt o && before) ≡ ((cond behind (is_lt (key_cmp from other)) (is_le (key_cmp from other)) && before) && is_lt o)) [
      | Less ↦ λ p. rw (over from key other le p) (and_less behind before)
      | Equal ↦ λ p. and_false _
      | Greater ↦ λ p. and_false _
    ] refl

-- where a cursor stands behind the key of a pair that was ahead, what follows that pair is ahead
pub ahead-behind : (m : Map) (old new : Cursor) (place : ℕ) (d : Pair) → place < length (ahead m old) → from_of new ≡ (get_or (ahead m old) place d).0 → new.behind ≡ true → end_of new ≡ end_of old → ahead m new ≡ drop (suc place) (ahead m old)
ahead-behind m old new place d within from behind end =
    let key : List ℕ = (get_or (ahead m old) place d).0 in
    let passes : is_ahead old key ≡ true = All-get_or (λ (pair : Pair). is_ahead old pair.0 ≡ true) (ahead m old) place d within (filter_passes (λ (pair : Pair). is_ahead old pair.0) (pairs m)) in
    let le : is_le (key_cmp (from_of old) key) ≡ true = le_when old.behind (is_before (end_of old) key) (key_cmp (from_of old) key) passes in
    let both : (pair : Pair) → Unit {0} → is_ahead new pair.0 ≡ (is_ahead old pair.0 && is_above key pair) = λ pair _.
    ap (λ (k : List ℕ). (cond new.behind (is_lt (key_cmp k pair.0)) (is_le (key_cmp k pair.0))) && is_before (end_of new) pair.0) from
    ∙ ap (λ (b : Bool). (cond b (is_lt (key_cmp key pair.0)) (is_le (key_cmp key pair.0))) && is_before (end_of new) pair.0) behind
    ∙ ap (λ (e : Option (List ℕ)). is_lt (key_cmp key pair.0) && is_before e pair.0) end
    ∙ above_both old.behind (is_before (end_of old) pair.0) (from_of old) key pair.0 le in
    sym (filter_both (λ (pair : Pair). Unit {0}) (λ pair. is_ahead old pair.0) (is_above key) (λ pair. is_ahead new pair.0) both (pairs m) (λ k d' w. tt))
    ∙ filter-above (ahead m old) place d (AllPairs-filter (λ a b. key_cmp a.0 b.0 ≡ Less) (λ pair. is_ahead old pair.0) (pairs m) (pairs_rise m)) within

none_kept : {X : Type 0} (p : X → Bool) → ((x : X) → p x ≡ false) → (xs : List X) → filter p xs ≡ []
none_kept p none [] = refl
none_kept p none (x ∷ xs) = rw (none x) (none_kept p none xs)

below_empty : (key : List ℕ) → is_lt (key_cmp key []) ≡ false
below_empty [] = refl
below_empty (byte ∷ bytes) = refl

-- nothing is ahead of a cursor whose upper end is the empty one
pub ahead-void : (m : Map) (cursor : Cursor) → is_void cursor ≡ true → ahead m cursor ≡ []
ahead-void m cursor void =
    let parts = and_parts cursor.bounded (eqb cursor.until_len 0) void in
    let none : cursor.until_len ≡ 0 = eqb-true cursor.until_len 0 parts.1 in
    let empty : end_of cursor ≡ Some [] = ap (λ (b : Bool). end_at b (until_of cursor)) parts.0 ∙ ap (λ (n : ℕ). Some (take n cursor.until)) none in
    let out : (pair : Pair) → is_ahead cursor pair.0 ≡ false = λ pair.
    let from : Bool = cond cursor.behind (is_before (Some pair.0) (from_of cursor)) (is_from (from_of cursor) pair.0) in
    ap (λ (e : Option (List ℕ)). from && is_before e pair.0) empty ∙ ap (λ (b : Bool). from && b) (below_empty pair.0) ∙ sym (and_false from) in
    none_kept (λ (pair : Pair). is_ahead cursor pair.0) out (pairs m)

-- each key of a map of a shape has a byte
pub keys_have_bytes : (shape : Shape) (m : Map) → IsMap shape m → All (λ pair. 1 ≤ length pair.0) (pairs m)
keys_have_bytes shape m is =
    All-map (λ (pair : Pair). 1 ≤ length pair.0) pair_of (finite.entries m.entries)
    (All-weaker (EntryFits shape m.last) (λ entry. 1 ≤ length entry.0) (λ entry fits. leb-true 1 (length entry.0) (and_parts (leb 1 (length entry.0)) (leb (length entry.0) shape.key_limit) fits.key_fits).0) (finite.entries m.entries) is.fitting)

-- Rows

length_given : (rows : List Row) (given : ℕ) → given ≤ length rows → length (map row_pair (take given rows)) ≡ given
length_given rows given few = omega (arith, length-map (take given rows) row_pair, length-take given rows)

-- rows with a front of a list have its first pairs, where nothing is behind the front or all rows are given
pub front_first : (all rest : List Pair) (rows : List Row) (given : ℕ) → all ≡ map row_pair (take given rows) ++ rest → given ≤ length rows → (rest ≡ []) ⊎ (length rows ≤ given) → HaveFirst all rows given
front_first all rest rows given whole few done =
    let front : List Pair = map row_pair (take given rows) in
    let many : length front ≡ given = length_given rows given few in
    let size : length all ≡ given + length rest = ap length whole ∙ length-append front rest ∙ ap (λ n. n + length rest) many in
    record {
      number = elim done [
        | inl none ↦ let no : length rest ≡ 0 = ap length none in omega arith
        | inr full ↦ omega arith
      ];
      pairs_are = sym (ap (take given) whole ∙ take_at front rest given many);
    }

no_row : Row
no_row = record { key_len = 0; value_len = 0; key = []; value = [] }

-- the rows that were given have the first of the pairs ahead, and where the cursor stands then the others are ahead
pub next_given : (m : Map) (old new : Cursor) (rows : List Row) (given : ℕ) → HaveFirst (ahead m old) rows given → Moves old new rows given → ahead m new ≡ drop given (ahead m old)
next_given m old new rows zero first moves = ap (ahead m) (moves.none refl)
next_given m old new rows (suc place) first moves =
    let within : place < length (ahead m old) = omega (arith, first.number) in
    let in_rows : place < length rows = omega (arith, first.number) in
    let last : suc place - 1 ≡ place = omega arith in
    let behind : IsBehind old new (get_or rows place no_row) = subst (λ (i : ℕ). IsBehind old new (get_or rows i no_row)) last (moves.last (omega arith) no_row) in
    let none : Pair = row_pair no_row in
    let same : row_pair (get_or rows place no_row) ≡ get_or (ahead m old) place none =
    sym (get_or-map row_pair rows place no_row none in_rows) ∙ sym (get_or-take (suc place) (map row_pair rows) place none (omega arith))
    ∙ ap (λ (ps : List Pair). get_or ps place none) (take-map row_pair (suc place) rows ∙ first.pairs_are) ∙ get_or-take (suc place) (ahead m old) place none (omega arith) in
    ahead-behind m old new place none within (behind.from_is ∙ ap (λ (p : Pair). p.0) same) behind.is_behind behind.end_is

-- where no row is wanted or nothing is ahead, none has the first of what is ahead
pub none_first : (ps : List Pair) (rows : List Row) → (length rows ≡ 0) ⊎ (ps ≡ []) → HaveFirst ps rows 0
none_first ps rows none = record {
  number = elim none [
    | inl unwanted ↦ omega arith
    | inr done ↦ let empty : length ps ≡ 0 = ap length done in omega arith
  ];
  pairs_are = refl;
}

-- the last of rows that are good is good
pub last_good : (rows : List Row) (given : ℕ) (d : Row) → 0 < given → given ≤ length rows → All IsGoodRow (take given rows) → IsGoodRow (get_or rows (given - 1) d)
last_good rows given d some few good =
    subst IsGoodRow (get_or-take given rows (given - 1) d (omega arith)) (good (given - 1) d (omega (arith, length-take given rows)))

-- what a walk from the cursor's key on gives, without the key that was given, is ahead of the cursor
pub walked-ahead : (shape : Shape) (m : Map) (cursor : Cursor) (low : List ℕ) (high : Option (List ℕ)) → IsMap shape m → low ≡ first_key (from_of cursor) → high ≡ end_of cursor → not_given cursor (pairs_between m low high) ≡ ahead m cursor
walked-ahead shape m cursor low high is low_is high_is =
    ap (λ (l : List ℕ). not_given cursor (pairs_between m l high)) low_is ∙ ap (λ (h : Option (List ℕ)). not_given cursor (pairs_between m (first_key (from_of cursor)) h)) high_is
    ∙ not_given-between m cursor (keys_have_bytes shape m is)

-- a cursor that went behind the last row that was given
pub moved : (old new : Cursor) (rows : List Row) (given : ℕ) (d : Row) → 0 < given → given ≤ length rows → IsBehind old new (get_or rows (given - 1) d) → Moves old new rows given
moved old new rows given d some few behind = record {
  none = λ zero. absurd (omega arith);
  last = λ _ e. subst (IsBehind old new) (get_or_default rows (given - 1) d e (omega arith)) behind;
}

-- a cursor that stays where none was
pub stayed : (cursor : Cursor) (rows : List Row) (given : ℕ) → given ≡ 0 → Moves cursor cursor rows given
stayed cursor rows given none = record { none = λ _. refl; last = λ some. absurd (omega arith) }
