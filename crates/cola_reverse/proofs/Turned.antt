-- Lists and runs from the other end, in the order turned round.
use Rattle.std.proofs.Common.{◌≡◌, ℕ, Bool, true, false, cond, T, List, [], ◌∷◌, ◌++◌, refl, sym, ap, subst, ◌∙◌, Less, Equal, Greater, Ordering, Some, None, Option, map, reverse}
use Rattle.std.proofs.lemmas.List.{reverse-reverse}
use Rattle.std.proofs.lemmas.Grind.{reverse_onto}
use Rattle.std.specs.Option.{option_or}
use Rattle.std.specs.Ordering.{is_lt, is_eq, eq_by_cmp, flip_args, ordering_then}
use Rattle.std.specs.Cmp.{IsTotalOrder, back_total, eq_by_cmp_equiv}
use Rattle.std.specs.FinMap.{find, is_sorted, IsAntisymmetric}
use Rattle.std.specs.FinMap.Entries.{same_entries, below_all}
use Rattle.std.specs.List.{AllByRecursion}
use Rattle.std.specs.List.Sorted.{IsStrictlySortedBy}
use Rattle.cola_runs.specs.Cells.{Cell, Entry, Look, Item, place_cmp, IsRising}
use Rattle.cola_runs.specs.Seen.{seen, holds, answer, value_of}
use Rattle.cola_pairs.specs.Live.{items, live}
use Rattle.cola_pairs.proofs.Order.{both, first, second, less, equal, passed, all_change}
use Rattle.cola_pairs.proofs.Entries.{find_append, find_items}
use Rattle.cola_pairs.proofs.LivePairs.{place_keys, live_find, live_rises, keeps_ties}
use Rattle.cola_pairs.specs.Walk.{KeysOnward}
use Rattle.cola_reverse.specs.Falling.{IsFalling}

-- ---- lists from the other end

module _ {X : Type 0} where
  pub reverse_first : (x : X) (xs : List X) → reverse (x ∷ xs) ≡ reverse xs ++ (x ∷ [])
  reverse_first x xs = reverse_onto xs x []

  all_append : (P : X → Type 0) (xs ys : List X) → AllByRecursion P xs → AllByRecursion P ys → AllByRecursion P (xs ++ ys)
  all_append P [] ys h k = k
  all_append P (x ∷ xs) ys h k = (h.0, all_append P xs ys h.1 k)

  pub all_reverse : (P : X → Type 0) (xs : List X) → AllByRecursion P xs → AllByRecursion P (reverse xs)
  all_reverse P [] h = tt
  all_reverse P (x ∷ xs) h = subst (AllByRecursion P) (sym (reverse_first x xs)) (all_append P (reverse xs) (x ∷ []) (all_reverse P xs h.1) (h.0, tt))

  module _ (R : X → X → Ordering) where
    sorted_last : (xs : List X) (y : X) → IsStrictlySortedBy R xs → AllByRecursion (λ x. R x y ≡ Less) xs → IsStrictlySortedBy R (xs ++ (y ∷ []))
    unfolding IsStrictlySortedBy
    sorted_last [] y h a = (tt, tt)
    sorted_last (x ∷ xs) y h a = (all_append (λ z. R x z ≡ Less) xs (y ∷ []) h.0 (a.0, tt), sorted_last xs y h.1 a.1)

  pub sorted_reverse : (R : X → X → Ordering) (xs : List X) → IsStrictlySortedBy R xs → IsStrictlySortedBy (flip_args R) (reverse xs)
  unfolding IsStrictlySortedBy
  sorted_reverse R [] h = tt
  sorted_reverse R (x ∷ xs) h =
      subst (IsStrictlySortedBy (flip_args R)) (sym (reverse_first x xs)) (sorted_last (flip_args R) (reverse xs) x (sorted_reverse R xs h.1) (all_reverse (λ y. R x y ≡ Less) xs h.0))

  pub all_map_reverse : (P : List X → Type 0) (Q : List X → Type 0) → ((xs : List X) → P xs → Q (reverse xs)) → (xss : List (List X)) → AllByRecursion P xss → AllByRecursion Q (map reverse xss)
  all_map_reverse P Q f [] h = tt
  all_map_reverse P Q f (xs ∷ xss) h = (f xs h.0, all_map_reverse P Q f xss h.1)

  pub map_reverse_twice : (xss : List (List X)) → map reverse (map reverse xss) ≡ xss
  map_reverse_twice [] = refl
  map_reverse_twice (xs ∷ xss) = ap (λ z. z ∷ map reverse (map reverse xss)) (reverse-reverse xs) ∙ ap (λ z. xs ∷ z) (map_reverse_twice xss)

-- ---- sorted pairs

module _ {K X : Type 0} {cmp : K → K → Ordering} (o : IsTotalOrder cmp) where
  -- what is above y is above what ties with y
  none_beside : (q y : K) (es : List (K × X)) → cmp q y ≡ Equal → T (below_all cmp y es) → find cmp q es ≡ None
  none_beside q y [] p h = refl
  none_beside q y (e ∷ es) p h =
      ap (λ r. cond (is_eq r) (Some e.1) (find cmp q es)) (o.congr q y e.0 p ∙ less _ (first _ _ h)) ∙ none_beside q y es p (second _ _ h)

module _ {K X : Type 0} where
  module _ (R : K → K → Ordering) where
    below_last : (x : K) (es : List (K × X)) (e : K × X) → T (below_all R x es) → R x e.0 ≡ Less → T (below_all R x (es ++ (e ∷ [])))
    below_last x [] e h p = both _ _ (passed _ (ap is_lt p)) tt
    below_last x (f ∷ es) e h p = both _ _ (first _ _ h) (below_last x es e (second _ _ h) p)

    pairs_last : (es : List (K × X)) (e : K × X) → T (is_sorted R es) → AllByRecursion (λ f. R f.0 e.0 ≡ Less) es → T (is_sorted R (es ++ (e ∷ [])))
    pairs_last [] e h a = tt
    pairs_last (f ∷ es) e h a = both _ _ (below_last f.0 es e (first _ _ h) a.0) (pairs_last es e (second _ _ h) a.1)

    pub below_each : (x : K) (es : List (K × X)) → T (below_all R x es) → AllByRecursion (λ f. R x f.0 ≡ Less) es
    below_each x [] h = tt
    below_each x (f ∷ es) h = (less _ (first _ _ h), below_each x es (second _ _ h))

  pub pairs_reverse : (R : K → K → Ordering) (es : List (K × X)) → T (is_sorted R es) → T (is_sorted (flip_args R) (reverse es))
  pairs_reverse R [] h = tt
  pairs_reverse R (e ∷ es) h =
      subst (λ z. T (is_sorted (flip_args R) z)) (sym (reverse_first e es))
      (pairs_last (flip_args R) (reverse es) e (pairs_reverse R es (second _ _ h)) (all_reverse (λ f. R e.0 f.0 ≡ Less) es (below_each R e.0 es (first _ _ h))))

  module _ {R : K → K → Ordering} (o : IsTotalOrder R) (q : K) where
    or_last : (a : Option X) (b : Bool) (v : X) → (b ≡ true → a ≡ None) → option_or a (cond b (Some v) None) ≡ cond b (Some v) a
    or_last None true v f = refl
    or_last None false v f = refl
    or_last (Some x) true v f = let g = f refl in cc
    or_last (Some x) false v f = refl

    -- of sorted pairs each key has one: the same from either end
    pub find_reverse : (es : List (K × X)) → T (is_sorted R es) → find (flip_args R) q (reverse es) ≡ find R q es
    find_reverse [] h = refl
    find_reverse (e ∷ es) h =
        ap (find (flip_args R) q) (reverse_first e es)
        ∙ find_append (flip_args R) q (reverse es) (e ∷ [])
        ∙ ap (λ a. option_or a (cond (eq_by_cmp R e.0 q) (Some e.1) None)) (find_reverse es (second _ _ h))
        ∙ ap (λ b. option_or (find R q es) (cond b (Some e.1) None)) ((eq_by_cmp_equiv o).symm e.0 q)
        ∙ or_last (find R q es) (eq_by_cmp R q e.0) e.1 (λ t. none_beside o q e.0 es (equal _ t) (first _ _ h))

-- ---- runs

append_none : {X : Type 0} (xs : List X) → xs ++ [] ≡ xs
append_none [] = refl
append_none (x ∷ xs) = ap (λ z. x ∷ z) (append_none xs)

item_less : (r : Ordering) → ordering_then r Equal ≡ Less → r ≡ Less
item_less Less p = refl
item_less Equal p = cc
item_less Greater p = cc

module _ {K V : Type 0} where
  items_append : (cells more : List (Cell K V)) → items (cells ++ more) ≡ items cells ++ items more
  items_append [] more = refl
  items_append (Look x l ∷ cells) more = items_append cells more
  items_append (Entry x i y l ∷ cells) more = ap (λ z. (x, i) ∷ z) (items_append cells more)

  pub items_reverse : (cells : List (Cell K V)) → items (reverse cells) ≡ reverse (items cells)
  items_reverse [] = refl
  items_reverse (Look x l ∷ cells) = ap items (reverse_first (Look x l) cells) ∙ items_append (reverse cells) (Look x l ∷ []) ∙ append_none (items (reverse cells)) ∙ items_reverse cells
  items_reverse (Entry x i y l ∷ cells) =
      ap items (reverse_first (Entry x i y l) cells) ∙ items_append (reverse cells) (Entry x i y l ∷ [])
      ∙ ap (λ z. z ++ ((x, i) ∷ [])) (items_reverse cells) ∙ sym (reverse_first (x, i) (items cells))

  module _ (cmp : K → K → Ordering) where
    below_items : (x : K) (i : Item V) (y : Bool) (l : ℕ) (cells : List (Cell K V)) → AllByRecursion (λ d. place_cmp cmp (Entry x i y l) d ≡ Less) cells → T (below_all cmp x (items cells))
    below_items x i y l [] h = tt
    below_items x i y l (Look z m ∷ cells) h = below_items x i y l cells h.1
    below_items x i y l (Entry z j w m ∷ cells) h = both _ _ (passed _ (ap is_lt (item_less (cmp x z) h.0))) (below_items x i y l cells h.1)

    pub sorted_items : (cells : List (Cell K V)) → IsRising cmp cells → T (is_sorted cmp (items cells))
    unfolding IsStrictlySortedBy
    sorted_items [] h = tt
    sorted_items (Look x l ∷ cells) h = sorted_items cells h.1
    sorted_items (Entry x i y l ∷ cells) h = both _ _ (below_items x i y l cells h.0) (sorted_items cells h.1)

  module _ {cmp : K → K → Ordering} (o : IsTotalOrder cmp) where
    pub falling_onward : (run : List (Cell K V)) → IsFalling cmp run → KeysOnward (flip_args cmp) run
    unfolding IsStrictlySortedBy
    falling_onward [] h = tt
    falling_onward (c ∷ cells) h = (all_change (λ d p. place_keys o d c p) cells h.0, falling_onward cells h.1)

    seen_reverse : (q : K) (run : List (Cell K V)) → IsRising cmp run → holds (seen (flip_args cmp) q (reverse run)) ≡ holds (seen cmp q run)
    seen_reverse q run h =
        sym (find_items (flip_args cmp) q (reverse run)) ∙ ap (find (flip_args cmp) q) (items_reverse run)
        ∙ find_reverse o q (items run) (sorted_items cmp run h) ∙ find_items cmp q run

    pub answer_reverse : (q : K) (runs : List (List (Cell K V))) → AllByRecursion (IsRising cmp) runs → answer (flip_args cmp) q (map reverse runs) ≡ answer cmp q runs
    answer_reverse q [] h = refl
    answer_reverse q (run ∷ runs) h =
        ap (λ a. option_or a (answer (flip_args cmp) q (map reverse runs))) (seen_reverse q run h.0) ∙ ap (option_or (holds (seen cmp q run))) (answer_reverse q runs h.1)

    -- the live pairs of the runs from the other end, in the order turned round, are the live pairs from the other end
    pub live_reverse : IsAntisymmetric cmp → (within : K → Bool) (runs : List (List (Cell K V))) → AllByRecursion (IsRising cmp) runs →
        live (flip_args cmp) within (map reverse runs) ≡ reverse (live cmp within runs)
    live_reverse same within runs h =
        let back = back_total o in
        let alike : IsAntisymmetric (flip_args cmp) = λ x y e. sym (same y x e) in
        same_entries (flip_args cmp) back alike (live (flip_args cmp) within (map reverse runs)) (reverse (live cmp within runs))
        (live_rises back within (map reverse runs)) (pairs_reverse cmp (live cmp within runs) (live_rises o within runs))
        (λ q. live_find back within (map reverse runs) (keeps_ties back within (map reverse runs) alike) q
        ∙ ap (λ a. cond (within q) (value_of a) None) (answer_reverse q runs h)
        ∙ sym (live_find o within runs (keeps_ties o within runs same) q)
        ∙ sym (find_reverse o q (live cmp within runs) (live_rises o within runs)))
