-- The laws of what is read by ranges.
use Rattle.std.proofs.Common.{ℕ, ◌≡◌, ◌<◌, ◌↔◌, Bool, true, false, cond, T, refl, sym, ◌∙◌, ap, subst, List, [], ◌∷◌, length, take, Option, Some, None, option_map, All, Contains, filter, map, arith, ◌&&◌, length-take, inl, inr}
use Rattle.std.proofs.lemmas.Bool.{and_parts, and_from}
use Rattle.std.proofs.lemmas.List.{get_or-take}
use Rattle.std.proofs.lemmas.List.Elements.{All-cons, All-nil, All-contains, All-contains_itself, All-filter, All-weaker, Contains-append_right, Contains-append_left, Contains-append_cases, Contains-push, Contains-push_cases, filter_passes}
use Rattle.std.proofs.lemmas.List.Kept.{AllPairs-cons, AllPairs-filter}
use Rattle.std.specs.declared.cmp.Ordering.{Ordering}
use Rattle.std.specs.declared.cmp.Ordering.TheVariants.{Less, Equal, Greater}
use Rattle.std.specs.Ordering.{is_eq, is_lt}
use Rattle.std.specs.FinMap as finite
use Rattle.std.specs.FinMap.Entries.{find, below_all, is_sorted}
use Rattle.cola_spec.specs.Map.{Stored, Map, key_cmp, value_of, pairs, pair_of, pairs_between, is_from, is_before, scan}
use Rattle.cola_spec.specs.Laws.{Rises}
use Rattle.cola_spec.proofs.Entries.{same_key}
use Rattle.cola_spec.proofs.MapLaws.{tied_key}

abbrev Entry : Type 0
Entry = List ℕ × Stored

abbrev Row : Type 0
Row = List ℕ × List ℕ

abbrev valued : Option Stored → Option (List ℕ)
valued found = option_map (λ s. s.value) found

-- Lists in order

first_of : (a b : Bool) → T (a && b) → T a
first_of true b h = tt
first_of false b h = h

rest_of : (a b : Bool) → T (a && b) → T b
rest_of true b h = h
rest_of false b h = absurd h

less_when : (o : Ordering) → T (is_lt o) → o ≡ Less
less_when Less h = refl
less_when Equal h = absurd h
less_when Greater h = absurd h

all_above : (key : List ℕ) (es : List Entry) → T (below_all key_cmp key es) → All (λ (row : Row). key_cmp key row.0 ≡ Less) (map pair_of es)
all_above key [] h = All-nil (λ (row : Row). key_cmp key row.0 ≡ Less)
all_above key (e ∷ es) h =
    All-cons (λ (row : Row). key_cmp key row.0 ≡ Less) (pair_of e) (map pair_of es) (less_when _ (first_of _ _ h)) (all_above key es (rest_of _ _ h))

rising : (es : List Entry) → T (is_sorted key_cmp es) → Rises (map pair_of es)
rising [] h = λ i j d lt within. absurd (omega arith)
rising (e ∷ es) h = AllPairs-cons (λ a b. key_cmp a.0 b.0 ≡ Less) (pair_of e) (map pair_of es) (all_above e.0 es (first_of _ _ h)) (rising es (rest_of _ _ h))

-- The rows of a list in order are what its keys have

here : {X : Type 0} (x : X) (xs : List X) → Contains (x ∷ xs) x
here x xs = Contains-append_left (x ∷ []) xs x (Contains-push [] x)

later : {X : Type 0} (first x : X) (xs : List X) → Contains xs x → Contains (first ∷ xs) x
later first x xs h = Contains-append_right (first ∷ []) xs x h

absent_below : (key : List ℕ) (es : List Entry) → T (below_all key_cmp key es) → find key_cmp key es ≡ None
absent_below key [] h = refl
absent_below key (e ∷ es) h = ap (λ o. cond (is_eq o) (Some e.1) (find key_cmp key es)) (less_when _ (first_of _ _ h)) ∙ absent_below key es (rest_of _ _ h)

IsFound : List Entry → Row → Type 0
IsFound es row = valued (find key_cmp row.0 es) ≡ Some row.1

found_later : (e : Entry) (es : List Entry) → T (below_all key_cmp e.0 es) → (row : Row) → valued (find key_cmp row.0 es) ≡ Some row.1 → valued (find key_cmp row.0 (e ∷ es)) ≡ Some row.1
found_later e es below row h =
    elim (key_cmp row.0 e.0) as (λ o. key_cmp row.0 e.0 ≡ o → valued (cond (is_eq o) (Some e.1) (find key_cmp row.0 es)) ≡ Some row.1) [
      | Less ↦ λ _. h
      | Equal ↦ λ tie.
          let absent : valued (find key_cmp row.0 es) ≡ None = ap (λ k. valued (find key_cmp k es)) (same_key row.0 e.0 tie) ∙ ap valued (absent_below e.0 es below) in
          let never : None ≡ Some row.1 = sym absent ∙ h in
          cc
      | Greater ↦ λ _. h
    ] refl

all_found : (es : List Entry) → T (is_sorted key_cmp es) → All (λ (row : Row). valued (find key_cmp row.0 es) ≡ Some row.1) (map pair_of es)
all_found [] h = All-nil (λ (row : Row). valued (find key_cmp row.0 []) ≡ Some row.1)
all_found (e ∷ es) h =
    All-cons (λ (row : Row). valued (find key_cmp row.0 (e ∷ es)) ≡ Some row.1) (pair_of e) (map pair_of es)
    (ap (λ b. valued (cond b (Some e.1) (find key_cmp e.0 es))) (tied_key e.0))
    (All-weaker (λ (row : Row). valued (find key_cmp row.0 es) ≡ Some row.1) (λ (row : Row). valued (find key_cmp row.0 (e ∷ es)) ≡ Some row.1) (found_later e es (first_of _ _ h)) (map pair_of es) (all_found es (rest_of _ _ h)))

listed_when_found : (es : List Entry) (row : Row) → valued (find key_cmp row.0 es) ≡ Some row.1 → Contains (map pair_of es) row
listed_when_found [] row h = cc
listed_when_found (e ∷ es) row h =
    elim (key_cmp row.0 e.0) as (λ o. key_cmp row.0 e.0 ≡ o → valued (cond (is_eq o) (Some e.1) (find key_cmp row.0 es)) ≡ Some row.1 → Contains (map pair_of (e ∷ es)) row) [
      | Less ↦ λ _ is. later (pair_of e) row (map pair_of es) (listed_when_found es row is)
      | Equal ↦ λ tie is.
          let value : e.1.value ≡ row.1 = cc in
          let same : pair_of e ≡ row = (λ i. (sym (same_key row.0 e.0 tie) i, value i)) in
          subst (Contains (map pair_of (e ∷ es))) same (here (pair_of e) (map pair_of es))
      | Greater ↦ λ _ is. later (pair_of e) row (map pair_of es) (listed_when_found es row is)
    ] refl h

pub pairs_are_found : (m : Map) (row : List ℕ × List ℕ) → Contains (pairs m) row ↔ (value_of m row.0 ≡ Some row.1)
pairs_are_found m row =
    let es = finite.entries m.entries in
    let same : value_of m row.0 ≡ valued (find key_cmp row.0 es) = ap valued (finite.get-entries m.entries row.0) in (
      λ h. same ∙ All-contains (λ (row : Row). valued (find key_cmp row.0 es) ≡ Some row.1) (map pair_of es) row (all_found es (finite.entries_sorted m.entries)) h,
      λ h. listed_when_found es row (sym same ∙ h),
    )

pub pairs_rise : (m : Map) → Rises (pairs m)
pairs_rise m = rising (finite.entries m.entries) (finite.entries_sorted m.entries)

-- The rows of an interval

kept_by : {X : Type 0} (p : X → Bool) (xs : List X) (x : X) → Contains xs x → p x ≡ true → Contains (filter p xs) x
kept_by p [] x h passes = absurd (omega (arith, h.1))
kept_by p (y ∷ ys) x h passes =
    elim (Contains-append_cases (y ∷ []) ys x h) [
      | inl first ↦ elim (Contains-push_cases [] y x first) [
        | inl none ↦ absurd (omega (arith, none.1))
        | inr same ↦ subst (λ b. Contains (cond b (y ∷ filter p ys) (filter p ys)) x) (sym (ap p same ∙ passes)) (subst (Contains (y ∷ filter p ys)) same (here y (filter p ys)))
      ]
      | inr rest ↦
          let kept = kept_by p ys x rest passes in
          elim (p y) as (λ b. Contains (cond b (y ∷ filter p ys) (filter p ys)) x) [ true ↦ later y x (filter p ys) kept | false ↦ kept ]
    ]

pub interval_is_exact : (m : Map) (low : List ℕ) (high : Option (List ℕ)) (row : List ℕ × List ℕ)
    → Contains (pairs_between m low high) row ↔ ((value_of m row.0 ≡ Some row.1) × (is_from low row.0 ≡ true) × (is_before high row.0 ≡ true))
interval_is_exact m low high row =
    let test : Row → Bool = λ pair. is_from low pair.0 && is_before high pair.0 in (
      λ h.
          let listed = All-contains (Contains (pairs m)) (filter test (pairs m)) row (All-filter test (Contains (pairs m)) (pairs m) (All-contains_itself (pairs m))) h in
          let passes = and_parts _ _ (All-contains (λ x. test x ≡ true) (filter test (pairs m)) row (filter_passes test (pairs m)) h) in
          ((pairs_are_found m row).0 listed, passes.0, passes.1),
      λ h. kept_by test (pairs m) row ((pairs_are_found m row).1 h.0) (and_from _ _ h.1 h.2),
    )

pub interval_rises : (m : Map) (low : List ℕ) (high : Option (List ℕ)) → Rises (pairs_between m low high)
interval_rises m low high = AllPairs-filter (λ a b. key_cmp a.0 b.0 ≡ Less) (λ pair. is_from low pair.0 && is_before high pair.0) (pairs m) (pairs_rise m)

rises_taken : (n : ℕ) (rows : List Row) → Rises rows → Rises (take n rows)
rises_taken n rows h i j d lt within =
    let both : (j < n) × (j < length rows) = (omega (arith, length-take n rows), omega (arith, length-take n rows)) in
    let before : i < n = omega (arith, both.0) in
    rw (get_or-take n rows i d before, get_or-take n rows j d both.0) (h i j d lt both.1)

pub scan_rises : (m : Map) (low : List ℕ) (most : ℕ) → Rises (scan m low most)
scan_rises m low most = rises_taken most (pairs_between m low None) (interval_rises m low None)
