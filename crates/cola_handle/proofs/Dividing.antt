-- The pairs before a place in the order of the keys, and those behind it.
use Rattle.std.proofs.Common.{◌≡◌, ◌∙◌, refl, sym, ap, subst, ℕ, zero, suc, ◌+◌, ◌-◌, ◌<◌, ◌≤◌, Bool, true, false, cond, not, ◌&&◌, List, [], ◌∷◌, ◌++◌, length, get_or, take, drop, filter, reverse, replicate, All, Option, Some, None, inl, inr, arith}
use Rattle.std.proofs.lemmas.List.{append_assoc, append_cancel_left, reverse-append, length-reverse, length-drop, drop_at, take-append-drop}
use Rattle.std.proofs.lemmas.List.Elements.{All-head, All-tail}
use Rattle.std.specs.declared.cmp.Ordering.{Ordering}
use Rattle.std.specs.declared.cmp.Ordering.TheVariants.{Less, Equal, Greater}
use Rattle.std.proofs.lemmas.Bool.{cases_lt}
use Rattle.std.specs.Cmp.{nat_cmp_is}
use Rattle.std.specs.Ordering.{is_lt, is_le, nat_cmp, ordering_then, ordering_reverse}
use Rattle.std.specs.declared.ops.Bound.TheVariants.{Included, Excluded}
use Rattle.cola_spec.specs.Map.{key_cmp, is_before}
use Rattle.cola_spec.specs.Laws.{Rises}
use Rattle.cola_spec.proofs.OrderLaws.{ties_alone}
use Rattle.cola_table.proofs.FlatMap.{key_cmp-total}
use Rattle.cola_reverse.specs.Falling.{up_to}
use Rattle.cola_handle.specs.Behind.{bound_at}
use Rattle.cola_handle.specs.Cursors.{Pair}

-- The order of keys

-- what is above a key from `from` on is above `from`
over : (from key other : List ℕ) → is_le (key_cmp from key) ≡ true → key_cmp key other ≡ Less → key_cmp from other ≡ Less
over from key other le less =
    elim (key_cmp from key) as (λ o. key_cmp from key ≡ o → is_le o ≡ true → key_cmp from other ≡ Less) [
      | Less ↦ λ p _. key_cmp-total.trans from key other p less
      | Equal ↦ λ p _. key_cmp-total.congr from key other p ∙ less
      | Greater ↦ λ p le. absurd (cc)
    ] refl le

-- what is below a key up to `from` is below `from`
pub under : (key until from : List ℕ) → key_cmp key until ≡ Less → is_le (key_cmp until from) ≡ true → key_cmp key from ≡ Less
under key until from less le =
    elim (key_cmp until from) as (λ o. key_cmp until from ≡ o → is_le o ≡ true → key_cmp key from ≡ Less) [
      | Less ↦ λ p _. key_cmp-total.trans key until from less p
      | Equal ↦ λ p _. subst (λ (k : List ℕ). key_cmp key k ≡ Less) ((ties_alone until from).0 p) less
      | Greater ↦ λ p le. absurd (cc)
    ] refl le

pub and_true : (b : Bool) → b ≡ (b && true)
and_true true = refl
and_true false = refl

and_false : (b : Bool) → false ≡ (b && false)
and_false true = refl
and_false false = refl

-- the keys before a place: those below its key, and that key where it was given
abbrev pub is_up_to : Bool → List ℕ → List ℕ → Bool
is_up_to given from key = cond given (is_le (key_cmp key from)) (is_lt (key_cmp key from))

to-bound : (given : Bool) (from key : List ℕ) → up_to key_cmp (cond given (Included from) (Excluded from)) key ≡ is_up_to given from key
to-bound true from key = refl
to-bound false from key = refl

pub below-place : (given : Bool) (from key : List ℕ) → key_cmp key from ≡ Less → is_up_to given from key ≡ true
below-place true from key less = ap is_le less
below-place false from key less = ap is_lt less

pub at-place : (given : Bool) (from key : List ℕ) → is_up_to given from key ≡ true → is_le (key_cmp key from) ≡ true
at-place true from key h = h
at-place false from key h =
    elim (key_cmp key from) as (λ o. is_lt o ≡ true → is_le o ≡ true) [
      | Less ↦ λ _. refl
      | Equal ↦ λ e. absurd (cc)
      | Greater ↦ λ e. absurd (cc)
    ] h

-- the upper end is the lesser
end-first : (given : Bool) (from until key : List ℕ) → is_le (key_cmp until from) ≡ true → is_lt (key_cmp key until) ≡ (is_up_to given from key && is_lt (key_cmp key until))
end-first given from until key le =
    elim (key_cmp key until) as (λ o. key_cmp key until ≡ o → is_lt o ≡ (is_up_to given from key && is_lt o)) [
      | Less ↦ λ p. rw (below-place given from key (under key until from p le)) refl
      | Equal ↦ λ p. and_false _
      | Greater ↦ λ p. and_false _
    ] refl

-- the place is the lesser
place-first : (given : Bool) (from until key : List ℕ) → is_le (key_cmp until from) ≡ false → is_up_to given from key ≡ (is_up_to given from key && is_lt (key_cmp key until))
place-first given from until key gt =
    let less : key_cmp from until ≡ Less = key_cmp-total.antisymm from until ∙ elim (key_cmp until from) as (λ o. is_le o ≡ false → ordering_reverse o ≡ Less) [
      | Less ↦ λ e. absurd (cc)
      | Equal ↦ λ e. absurd (cc)
      | Greater ↦ λ e. refl
    ] gt in
    elim (is_up_to given from key) as (λ b. is_up_to given from key ≡ b → b ≡ (b && is_lt (key_cmp key until))) [
      | true ↦ λ e. sym (ap is_lt (over key from until (at-place given from key e) less))
      | false ↦ λ e. refl
    ] refl

bound-some : (given : Bool) (from until key : List ℕ) (first : Bool) → is_le (key_cmp until from) ≡ first → up_to key_cmp (cond first (Excluded until) (cond given (Included from) (Excluded from))) key ≡ (is_up_to given from key && is_lt (key_cmp key until))
bound-some given from until key true e = end-first given from until key e
bound-some given from until key false e = to-bound given from key ∙ place-first given from until key e

-- the bound of what is behind a place
pub up-to : (given : Bool) (from : List ℕ) (end : Option (List ℕ)) (key : List ℕ) → up_to key_cmp (bound_at given from end) key ≡ (is_up_to given from key && is_before end key)
up-to given from None key = to-bound given from key ∙ and_true _
up-to given from (Some until) key = bound-some given from until key (is_le (key_cmp until from)) refl

-- Lists

rises-head : (x : Pair) (xs : List Pair) → Rises (x ∷ xs) → All (λ y. key_cmp x.0 y.0 ≡ Less) xs
rises-head x xs rises = λ k d within. rises 0 (suc k) d (omega arith) (omega arith)

rises-tail : (x : Pair) (xs : List Pair) → Rises (x ∷ xs) → Rises xs
rises-tail x xs rises = λ i j d lt within. rises (suc i) (suc j) d (omega arith) (omega arith)

all_kept : {X : Type 0} (p : X → Bool) (xs : List X) → All (λ x. p x ≡ true) xs → filter p xs ≡ xs
all_kept p [] all = refl
all_kept p (x ∷ xs) all = rw (All-head (λ x. p x ≡ true) x xs all, all_kept p xs (All-tail (λ x. p x ≡ true) x xs all)) refl

pub all_left : {X : Type 0} (p : X → Bool) (xs : List X) → All (λ x. p x ≡ false) xs → filter p xs ≡ []
all_left p [] all = refl
all_left p (x ∷ xs) all = rw (All-head (λ x. p x ≡ false) x xs all) (all_left p xs (All-tail (λ x. p x ≡ false) x xs all))

not-true : (b : Bool) → (b ≡ true → ⊥) → b ≡ false
not-true true h = absurd (h refl)
not-true false h = refl

-- pairs whose keys rise are those before a place and those behind it
pub divided : (p : Pair → Bool) → ((x y : Pair) → key_cmp x.0 y.0 ≡ Less → p y ≡ true → p x ≡ true) → (xs : List Pair) → Rises xs → filter p xs ++ filter (λ x. not (p x)) xs ≡ xs
divided p closed [] rises = refl
divided p closed (x ∷ xs) rises =
    elim (p x) as (λ b. p x ≡ b → cond b (x ∷ filter p xs) (filter p xs) ++ cond (not b) (x ∷ filter (λ y. not (p y)) xs) (filter (λ y. not (p y)) xs) ≡ x ∷ xs) [
      | true ↦ λ e. ap (λ (ys : List Pair). x ∷ ys) (divided p closed xs (rises-tail x xs rises))
      | false ↦ λ e.
          let out : All (λ y. p y ≡ false) xs = λ k d within. not-true (p (get_or xs k d)) (λ t. cc (e, closed x (get_or xs k d) (rises-head x xs rises k d within) t)) in
          let kept : All (λ y. not (p y) ≡ true) xs = λ k d within. ap not (out k d within) in
          rw (all_left p xs out, all_kept (λ y. not (p y)) xs kept) refl
    ] refl

-- the key of a pair is below this one
abbrev pub is_under : List ℕ → Pair → Bool
is_under key pair = is_lt (key_cmp pair.0 key)

-- of pairs whose keys rise those below one of them are those before it
pub filter-under : (xs : List Pair) (place : ℕ) (d : Pair) → Rises xs → place < length xs → filter (is_under (get_or xs place d).0) xs ≡ take place xs
filter-under [] place d rises within = absurd (omega arith)
filter-under (x ∷ xs) zero d rises within =
    let itself : key_cmp x.0 x.0 ≡ Equal = (ties_alone x.0 x.0).1 refl in
    let above : (y : Pair) → key_cmp x.0 y.0 ≡ Less → is_under x.0 y ≡ false = λ y less. ap is_lt (key_cmp-total.antisymm y.0 x.0 ∙ ap ordering_reverse less) in
    rw itself (all_left (is_under x.0) xs (λ k d' w. above (get_or xs k d') (rises-head x xs rises k d' w)))
filter-under (x ∷ xs) (suc place) d rises within =
    let below : key_cmp x.0 (get_or xs place d).0 ≡ Less = rises-head x xs rises place d (omega arith) in
    rw below (ap (λ (ys : List Pair). x ∷ ys) (filter-under xs place d (rises-tail x xs rises) (omega arith)))

-- the first of a list, reversed, are the last of the reversed one
pub drop-reversed : {X : Type 0} (xs : List X) (n : ℕ) → n ≤ length xs → drop n (reverse xs) ≡ reverse (take (length xs - n) xs)
drop-reversed xs n le =
    let k : ℕ = length xs - n in
    let many : length (reverse (drop k xs)) ≡ n = length-reverse (drop k xs) ∙ length-drop k xs ∙ omega (arith, le) in
    ap (λ (ys : List _). drop n (reverse ys)) (sym (take-append-drop k xs)) ∙ ap (drop n) (reverse-append (take k xs) (drop k xs)) ∙ drop_at (reverse (drop k xs)) (reverse (take k xs)) n many

-- what stands before the same list
pub turned-back : {X : Type 0} (given : ℕ) (back old new whole : List X) → reverse back ++ old ≡ whole → reverse (drop given back) ++ new ≡ whole → new ≡ reverse (take given back) ++ old
turned-back given back old new whole a b =
    append_cancel_left (reverse (drop given back)) new (reverse (take given back) ++ old)
    (b ∙ sym a ∙ ap (λ (ys : List _). reverse ys ++ old) (sym (take-append-drop given back)) ∙ ap (λ (ys : List _). ys ++ old) (reverse-append (take given back) (drop given back)) ∙ append_assoc (reverse (drop given back)) (reverse (take given back)) old)

-- The greatest key

empty_least : (bytes : List ℕ) → is_le (key_cmp [] bytes) ≡ true
empty_least [] = refl
empty_least (byte ∷ bytes) = refl

byte-then : (byte : ℕ) (o : Ordering) → byte < 256 → is_le o ≡ true → is_le (ordering_then (nat_cmp byte 255) o) ≡ true
byte-then byte o small le =
    elim (cases_lt byte 255) [
      | inl less ↦ ap (λ (n : Ordering). is_le (ordering_then n o)) (sym (nat_cmp_is byte 255 Less less))
      | inr more ↦ ap (λ (n : Ordering). is_le (ordering_then n o)) (sym (nat_cmp_is byte 255 Equal (omega arith))) ∙ le
    ]

-- no key of so many bytes is above as many bytes of 255
pub up-to-greatest : (n : ℕ) (key : List ℕ) → length key ≤ n → All (λ byte. byte < 256) key → is_le (key_cmp key (replicate n 255)) ≡ true
up-to-greatest n [] few bytes = empty_least (replicate n 255)
up-to-greatest zero (byte ∷ key) few bytes = absurd (omega arith)
up-to-greatest (suc n) (byte ∷ key) few bytes =
    byte-then byte (key_cmp key (replicate n 255)) (All-head (λ b. b < 256) byte key bytes) (up-to-greatest n key (omega arith) (All-tail (λ b. b < 256) byte key bytes))
