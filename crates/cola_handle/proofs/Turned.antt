-- Pairs that are behind a cursor, and rows.
use Rattle.std.proofs.Common.{◌≡◌, ◌∙◌, refl, sym, ap, subst, ℕ, zero, suc, ◌+◌, ◌-◌, ◌<◌, ◌≤◌, Bool, true, false, cond, not, ◌&&◌, ◌||◌, List, [], ◌∷◌, ◌++◌, length, get_or, take, drop, map, filter, reverse, All, Option, Some, None, arith, eqb}
use Rattle.std.proofs.lemmas.Bool.{and_parts, eqb-true}
use Rattle.std.proofs.lemmas.List.{append-nil, append_assoc, append_cancel_left, append_cancel_right, reverse-append, reverse-reverse, take-append-drop, length-reverse, get_or-reverse, get_or-map, get_or-take, get_or_default, take-map}
use Rattle.std.proofs.lemmas.List.Elements.{All-head, All-tail, All-get_or, filter_passes}
use Rattle.std.proofs.lemmas.List.Kept.{AllPairs-filter}
use Rattle.std.specs.declared.cmp.Ordering.{Ordering}
use Rattle.std.specs.declared.cmp.Ordering.TheVariants.{Less, Equal, Greater}
use Rattle.std.specs.Ordering.{is_lt, is_le, ordering_reverse}
use Rattle.cola_spec.specs.Map.{Map, key_cmp, pairs, is_before}
use Rattle.cola_spec.specs.Laws.{Rises}
use Rattle.cola_spec.proofs.RangeLaws.{pairs_rise}
use Rattle.cola_table.proofs.FlatMap.{key_cmp-total}
use Rattle.cola_store.specs.Backward.{pairs_back}
use Rattle.cola_handle.specs.declared.cursor.Cursor.{Cursor}
use Rattle.cola_handle.specs.declared.cursor.Row.{Row}
use Rattle.cola_handle.specs.Cursors.{Pair, row_pair, from_of, until_of, end_at, end_of, is_void, is_ahead, ahead, HaveFirst}
use Rattle.cola_handle.specs.Behind.{is_behind, behind, pairs_below, bound_of, is_first, greatest, HasBytes, IsSetLast, IsAtRow, Turns, HaveBehind}
use Rattle.cola_handle.proofs.Rows.{filter_both}
use Rattle.cola_handle.proofs.Dividing.{is_up_to, is_under, under, and_true, up-to, below-place, at-place, all_left, divided, filter-under, drop-reversed, turned-back, up-to-greatest}

abbrev pub no_pair : Pair
no_pair = ([], [])

and-swap : (a b : Bool) → (a && b) ≡ (b && a)
and-swap true true = refl
and-swap true false = refl
and-swap false true = refl
and-swap false false = refl

any : (xs : List Pair) → All (λ pair. Unit {0}) xs
any xs = λ k d within. tt

same_filter : (p q : Pair → Bool) → ((x : Pair) → p x ≡ q x) → (xs : List Pair) → filter p xs ≡ filter q xs
same_filter p q same [] = refl
same_filter p q same (x ∷ xs) = rw (same x, same_filter p q same xs) refl

-- what is behind a cursor are the pairs up to its bound
pub behind-bound : (m : Map) (cursor : Cursor) → pairs_back m None (bound_of cursor) ≡ behind m cursor
behind-bound m cursor = ap reverse (same_filter _ (λ (pair : Pair). is_behind cursor pair.0) (λ pair. up-to cursor.behind (from_of cursor) (end_of cursor) pair.0) (pairs m))

-- Dividing

over-place : (given : Bool) (from key : List ℕ) → cond given (is_lt (key_cmp from key)) (is_le (key_cmp from key)) ≡ not (is_up_to given from key)
over-place given from key =
    ap (λ (o : Ordering). cond given (is_lt o) (is_le o)) (key_cmp-total.antisymm from key)
    ∙ elim (key_cmp key from) as (λ o. cond given (is_lt (ordering_reverse o)) (is_le (ordering_reverse o)) ≡ not (cond given (is_le o) (is_lt o))) [
      | Less ↦ elim given as (λ b. cond b false false ≡ not (cond b true true)) [ true ↦ refl | false ↦ refl ]
      | Equal ↦ elim given as (λ b. cond b false true ≡ not (cond b true false)) [ true ↦ refl | false ↦ refl ]
      | Greater ↦ elim given as (λ b. cond b true true ≡ not (cond b false false)) [ true ↦ refl | false ↦ refl ]
    ]

behind-below : (m : Map) (cursor : Cursor) → filter (λ pair. is_behind cursor pair.0) (pairs m) ≡ filter (λ pair. is_up_to cursor.behind (from_of cursor) pair.0) (pairs_below m (end_of cursor))
behind-below m cursor =
    sym (filter_both (λ (pair : Pair). Unit {0}) (λ pair. is_before (end_of cursor) pair.0) (λ pair. is_up_to cursor.behind (from_of cursor) pair.0) (λ pair. is_behind cursor pair.0)
    (λ pair _. and-swap (is_up_to cursor.behind (from_of cursor) pair.0) (is_before (end_of cursor) pair.0)) (pairs m) (any (pairs m)))

ahead-below : (m : Map) (cursor : Cursor) → ahead m cursor ≡ filter (λ pair. not (is_up_to cursor.behind (from_of cursor) pair.0)) (pairs_below m (end_of cursor))
ahead-below m cursor =
    sym (filter_both (λ (pair : Pair). Unit {0}) (λ pair. is_before (end_of cursor) pair.0) (λ pair. not (is_up_to cursor.behind (from_of cursor) pair.0)) (λ pair. is_ahead cursor pair.0)
    (λ pair _. ap (λ (b : Bool). b && is_before (end_of cursor) pair.0) (over-place cursor.behind (from_of cursor) pair.0)
    ∙ and-swap (not (is_up_to cursor.behind (from_of cursor) pair.0)) (is_before (end_of cursor) pair.0)) (pairs m) (any (pairs m)))

rises-below : (m : Map) (end : Option (List ℕ)) → Rises (pairs_below m end)
rises-below m end = AllPairs-filter (λ a b. key_cmp a.0 b.0 ≡ Less) (λ pair. is_before end pair.0) (pairs m) (pairs_rise m)

-- the pairs below the upper end are those behind a cursor, from the last on, and those ahead of it
pub parts : (m : Map) (cursor : Cursor) → reverse (behind m cursor) ++ ahead m cursor ≡ pairs_below m (end_of cursor)
parts m cursor =
    let p : Pair → Bool = λ pair. is_up_to cursor.behind (from_of cursor) pair.0 in
    ap (λ (ps : List Pair). ps ++ ahead m cursor) (reverse-reverse (filter (λ (pair : Pair). is_behind cursor pair.0) (pairs m)) ∙ behind-below m cursor)
    ∙ ap (λ (ps : List Pair). filter p (pairs_below m (end_of cursor)) ++ ps) (ahead-below m cursor)
    ∙ divided p (λ x y less h. below-place cursor.behind (from_of cursor) x.0 (under x.0 y.0 (from_of cursor) less (at-place cursor.behind (from_of cursor) y.0 h))) (pairs_below m (end_of cursor)) (rises-below m (end_of cursor))

-- Nothing is behind

none_below : (bytes : List ℕ) → 1 ≤ length bytes → key_cmp bytes [] ≡ Greater
none_below [] some = absurd (omega arith)
none_below (byte ∷ bytes) some = refl

and_none : (b : Bool) → (b && false) ≡ false
and_none true = refl
and_none false = refl

first-start : (given : Bool) (end : Option (List ℕ)) (key : List ℕ) → 1 ≤ length key → (is_up_to given [] key && is_before end key) ≡ false
first-start true end key some = rw (none_below key some) refl
first-start false end key some = rw (none_below key some) refl

-- where the cursor stands before all keys, or none is below its upper end, nothing is behind
pub behind-first : (m : Map) (cursor : Cursor) → All (λ pair. 1 ≤ length pair.0) (pairs m) → is_first cursor ≡ true → behind m cursor ≡ []
behind-first m cursor some first =
    elim (eqb cursor.from_len 0) as (λ b. eqb cursor.from_len 0 ≡ b → (b || is_void cursor) ≡ true → behind m cursor ≡ []) [
      | true ↦ λ e _.
          let empty : from_of cursor ≡ [] = ap (λ (n : ℕ). take n cursor.from) (eqb-true cursor.from_len 0 e) in
          ap reverse (all_left (λ (pair : Pair). is_behind cursor pair.0) (pairs m) (λ k d within.
          ap (λ (from : List ℕ). is_up_to cursor.behind from (get_or (pairs m) k d).0 && is_before (end_of cursor) (get_or (pairs m) k d).0) empty
          ∙ first-start cursor.behind (end_of cursor) (get_or (pairs m) k d).0 (some k d within)))
      | false ↦ λ _ void.
          let both = and_parts cursor.bounded (eqb cursor.until_len 0) void in
          let empty : end_of cursor ≡ Some [] = ap (λ (b : Bool). end_at b (until_of cursor)) both.0 ∙ ap (λ (n : ℕ). Some (take n cursor.until)) (eqb-true cursor.until_len 0 both.1) in
          ap reverse (all_left (λ (pair : Pair). is_behind cursor pair.0) (pairs m) (λ k d within.
          let key = (get_or (pairs m) k d).0 in
          let up : Bool = is_up_to cursor.behind (from_of cursor) key in
          ap (λ (end : Option (List ℕ)). up && is_before end key) empty ∙ ap (λ (o : Ordering). up && is_lt o) (none_below key (some k d within)) ∙ and_none up))
    ] refl first

-- Rows that were given

at-row : (given before : Bool) (from key other : List ℕ) → is_le (key_cmp key from) ≡ true → (is_lt (key_cmp other key) && before) ≡ ((is_up_to given from other && before) && is_lt (key_cmp other key))
at-row given before from key other le =
    elim (key_cmp other key) as (λ o. key_cmp other key ≡ o → (is_lt o && before) ≡ ((is_up_to given from other && before) && is_lt o)) [
      | Less ↦ λ p. rw (below-place given from other (under other key from p le)) (and_true before)
      | Equal ↦ λ p. sym (and_none _)
      | Greater ↦ λ p. sym (and_none _)
    ] refl

-- where a cursor stands before the key of a pair that was behind, what followed that pair is behind
pub behind-turned : (m : Map) (old new : Cursor) (place : ℕ) → place < length (behind m old) → from_of new ≡ (get_or (behind m old) place no_pair).0 → new.behind ≡ false → end_of new ≡ end_of old → behind m new ≡ drop (suc place) (behind m old)
behind-turned m old new place within from not_behind end =
    let whole : List Pair = filter (λ (pair : Pair). is_behind old pair.0) (pairs m) in
    let many : length (behind m old) ≡ length whole = length-reverse whole in
    let i : ℕ = length whole - suc place in
    let inside : i < length whole = omega (arith, many, within) in
    let step : length whole - 1 - place ≡ i = omega arith in
    let key : List ℕ = (get_or whole i no_pair).0 in
    let is : from_of new ≡ key = from ∙ ap (λ (p : Pair). p.0) (get_or-reverse whole place no_pair (omega (arith, many, within)) ∙ ap (λ (n : ℕ). get_or whole n no_pair) step) in
    let passes : is_behind old key ≡ true = All-get_or (λ (pair : Pair). is_behind old pair.0 ≡ true) whole i no_pair inside (filter_passes (λ (pair : Pair). is_behind old pair.0) (pairs m)) in
    let le : is_le (key_cmp key (from_of old)) ≡ true = at-place old.behind (from_of old) key (and_parts (is_up_to old.behind (from_of old) key) (is_before (end_of old) key) passes).0 in
    let both : (pair : Pair) → Unit {0} → is_behind new pair.0 ≡ (is_behind old pair.0 && is_under key pair) = λ pair _.
    ap (λ (k : List ℕ). is_up_to new.behind k pair.0 && is_before (end_of new) pair.0) is
    ∙ ap (λ (b : Bool). is_up_to b key pair.0 && is_before (end_of new) pair.0) not_behind
    ∙ ap (λ (e : Option (List ℕ)). is_lt (key_cmp pair.0 key) && is_before e pair.0) end
    ∙ at-row old.behind (is_before (end_of old) pair.0) (from_of old) key pair.0 le in
    let fewer : filter (λ (pair : Pair). is_behind new pair.0) (pairs m) ≡ take i whole =
    sym (filter_both (λ (pair : Pair). Unit {0}) (λ pair. is_behind old pair.0) (is_under key) (λ pair. is_behind new pair.0) both (pairs m) (any (pairs m)))
    ∙ filter-under whole i no_pair (AllPairs-filter (λ a b. key_cmp a.0 b.0 ≡ Less) (λ pair. is_behind old pair.0) (pairs m) (pairs_rise m)) inside in
    ap reverse fewer ∙ sym (drop-reversed whole (suc place) (omega (arith, many, within)))

no_row : Row
no_row = record { key_len = 0; value_len = 0; key = []; value = [] }

-- what is behind once rows were given, and the upper end
left-behind : (m : Map) (old new : Cursor) (rows : List Row) (given : ℕ) → HaveFirst (behind m old) rows given → Turns old new rows given → (behind m new ≡ drop given (behind m old)) × (end_of new ≡ end_of old)
left-behind m old new rows zero first turns = (ap (behind m) (turns.none refl), ap end_of (turns.none refl))
left-behind m old new rows (suc place) first turns =
    let within : place < length (behind m old) = omega (arith, first.number) in
    let in_rows : place < length rows = omega (arith, first.number) in
    let last : suc place - 1 ≡ place = omega arith in
    let row : IsAtRow old new (get_or rows place no_row) = subst (λ (i : ℕ). IsAtRow old new (get_or rows i no_row)) last (turns.last (omega arith) no_row) in
    let none : Pair = row_pair no_row in
    let same : row_pair (get_or rows place no_row) ≡ get_or (behind m old) place none =
    sym (get_or-map row_pair rows place no_row none in_rows) ∙ sym (get_or-take (suc place) (map row_pair rows) place none (omega arith))
    ∙ ap (λ (ps : List Pair). get_or ps place none) (take-map row_pair (suc place) rows ∙ first.pairs_are) ∙ get_or-take (suc place) (behind m old) place none (omega arith) in
    (behind-turned m old new place within (row.from_is ∙ ap (λ (p : Pair). p.0) (same ∙ get_or_default (behind m old) place none no_pair within)) row.not_behind row.end_is, row.end_is)

-- the rows that were given have the first of the pairs behind; the others are behind then, and those that were given ahead
pub have-behind : (m : Map) (old new : Cursor) (rows : List Row) (given : ℕ) → HaveFirst (behind m old) rows given → Turns old new rows given → HaveBehind m old new rows given
have-behind m old new rows given first turns =
    let left = left-behind m old new rows given first turns in
    let now : reverse (drop given (behind m old)) ++ ahead m new ≡ pairs_below m (end_of old) =
    ap (λ (ps : List Pair). reverse ps ++ ahead m new) (sym left.0) ∙ parts m new ∙ ap (pairs_below m) left.1 in
    record { first = first; left = left.0; back = turned-back given (behind m old) (ahead m old) (ahead m new) (pairs_below m (end_of old)) (parts m old) now }

-- a cursor that went before the last row that was given
pub turned : (old new : Cursor) (rows : List Row) (given : ℕ) (d : Row) → 0 < given → given ≤ length rows → IsAtRow old new (get_or rows (given - 1) d) → Turns old new rows given
turned old new rows given d some few row = record {
  none = λ zero. absurd (omega arith);
  last = λ _ e. subst (IsAtRow old new) (get_or_default rows (given - 1) d e (omega arith)) row;
}

-- a cursor that stays where none was
pub turned-none : (cursor : Cursor) (rows : List Row) (given : ℕ) → given ≡ 0 → Turns cursor cursor rows given
turned-none cursor rows given none = record { none = λ _. refl; last = λ some. absurd (omega arith) }

-- Behind the last key

set-before : (m : Map) (high : List ℕ) (cursor : Cursor) → IsSetLast high true cursor → (pair : Pair) → is_behind cursor pair.0 ≡ is_before (Some high) pair.0
set-before m high cursor set pair =
    ap (λ (b : Bool). is_up_to b (from_of cursor) pair.0 && is_before (end_of cursor) pair.0) set.behind_is
    ∙ ap (λ (from : List ℕ). is_lt (key_cmp pair.0 from) && is_before (end_of cursor) pair.0) set.from_is
    ∙ ap (λ (end : Option (List ℕ)). is_lt (key_cmp pair.0 high) && is_before end pair.0) set.end_is
    ∙ elim (is_lt (key_cmp pair.0 high)) as (λ b. (b && b) ≡ b) [ true ↦ refl | false ↦ refl ]

all_same : (p q : Pair → Bool) (xs : List Pair) → All (λ x. p x ≡ q x) xs → filter p xs ≡ filter q xs
all_same p q [] same = refl
all_same p q (x ∷ xs) same = rw (All-head (λ x. p x ≡ q x) x xs same, all_same p q xs (All-tail (λ x. p x ≡ q x) x xs same)) refl

-- behind a cursor that was set behind the last key are all pairs below its upper end
pub behind-last : (m : Map) (high : List ℕ) (bounded : Bool) (cursor : Cursor) → HasBytes m → IsSetLast high bounded cursor → behind m cursor ≡ reverse (pairs_below m (end_at bounded high))
behind-last m high true cursor bytes set = ap reverse (same_filter (λ pair. is_behind cursor pair.0) (λ pair. is_before (Some high) pair.0) (set-before m high cursor set) (pairs m))
behind-last m high false cursor bytes set =
    ap reverse (all_same (λ pair. is_behind cursor pair.0) (λ pair. is_before None pair.0) (pairs m) (λ k d within.
    let key : List ℕ = (get_or (pairs m) k d).0 in
    ap (λ (b : Bool). is_up_to b (from_of cursor) key && is_before (end_of cursor) key) set.behind_is
    ∙ ap (λ (from : List ℕ). is_le (key_cmp key from) && is_before (end_of cursor) key) set.from_is
    ∙ ap (λ (end : Option (List ℕ)). is_le (key_cmp key greatest) && is_before end key) set.end_is
    ∙ ap (λ (b : Bool). b && true) (up-to-greatest 40 key (bytes k d within).0 (bytes k d within).1)))

-- and none is ahead
pub none-ahead : (m : Map) (high : List ℕ) (bounded : Bool) (cursor : Cursor) → HasBytes m → IsSetLast high bounded cursor → ahead m cursor ≡ []
none-ahead m high bounded cursor bytes set =
    let whole : List Pair = pairs_below m (end_at bounded high) in
    append_cancel_left whole (ahead m cursor) []
    (ap (λ (ps : List Pair). ps ++ ahead m cursor) (sym (reverse-reverse whole) ∙ ap reverse (sym (behind-last m high bounded cursor bytes set)))
    ∙ parts m cursor ∙ ap (pairs_below m) set.end_is ∙ sym (append-nil whole))

-- what a rising step gave is behind then
pub given-behind : (m : Map) (old new : Cursor) (given : ℕ) → end_of new ≡ end_of old → ahead m new ≡ drop given (ahead m old) → behind m new ≡ reverse (take given (ahead m old)) ++ behind m old
given-behind m old new given end left =
    let front : List Pair = take given (ahead m old) in
    let rest : List Pair = drop given (ahead m old) in
    let same : reverse (behind m new) ≡ reverse (behind m old) ++ front = append_cancel_right (reverse (behind m new)) (reverse (behind m old) ++ front) rest
    (ap (λ (ps : List Pair). reverse (behind m new) ++ ps) (sym left) ∙ parts m new ∙ ap (pairs_below m) end ∙ sym (parts m old)
    ∙ ap (λ (ps : List Pair). reverse (behind m old) ++ ps) (sym (take-append-drop given (ahead m old))) ∙ sym (append_assoc (reverse (behind m old)) front rest)) in
    sym (reverse-reverse (behind m new)) ∙ ap reverse same ∙ reverse-append (reverse (behind m old)) front ∙ ap (λ (ps : List Pair). reverse front ++ ps) (reverse-reverse (behind m old))
