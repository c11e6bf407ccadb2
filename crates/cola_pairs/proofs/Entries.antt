-- Lists of entries and of pairs, and what they have of a key.
use Rattle.std.proofs.Common.{◌≡◌, Bool, true, false, cond, T, List, [], ◌∷◌, ◌++◌, refl, sym, ap, ◌∙◌, Less, Equal, Ordering, Some, None, Option}
use Rattle.std.specs.Ordering.{is_lt, is_eq, eq_by_cmp}
use Rattle.std.specs.Option.{option_or}
use Rattle.std.specs.Cmp.{IsTotalOrder, tied_itself}
use Rattle.std.specs.FinMap.{find, is_sorted}
use Rattle.std.specs.FinMap.Entries.{below_all, is_sorted-put, find-put}
use Rattle.cola_runs.specs.Cells.{Item, Value, Tombstone, Cell, Entry, Look}
use Rattle.cola_runs.specs.Seen.{seen, holds, flagged, answer, value_of}
use Rattle.cola_pairs.specs.Live.{items, entries, with_answer, values, placed}
use Rattle.cola_pairs.proofs.Order.{by_bool, both, first, second, less, equal, passed}

module _ {K X : Type 0} (cmp : K → K → Ordering) (q : K) where
  pub find_append : (es fs : List (K × X)) → find cmp q (es ++ fs) ≡ option_or (find cmp q es) (find cmp q fs)
  find_append [] fs = refl
  find_append (e ∷ es) fs =
      by_bool (λ b. cond b (Some e.1) (find cmp q (es ++ fs)) ≡ option_or (cond b (Some e.1) (find cmp q es)) (find cmp q fs)) refl (find_append es fs) (eq_by_cmp cmp q e.0)

module _ {V : Type 0} where
  pub holds_flagged : (y : Bool) (i : Item V) → holds (flagged y i) ≡ Some i
  holds_flagged true i = refl
  holds_flagged false i = refl

module _ {K V : Type 0} (cmp : K → K → Ordering) (q : K) where
  pub find_items : (run : List (Cell K V)) → find cmp q (items run) ≡ holds (seen cmp q run)
  find_items [] = refl
  find_items (Look k l ∷ cells) = find_items cells
  find_items (Entry k i y l ∷ cells) =
      by_bool (λ b. cond b (Some i) (find cmp q (items cells)) ≡ holds (cond b (flagged y i) (seen cmp q cells))) (sym (holds_flagged y i)) (find_items cells) (is_eq (cmp q k))

  pub find_entries : (runs : List (List (Cell K V))) → find cmp q (entries runs) ≡ answer cmp q runs
  find_entries [] = refl
  find_entries (run ∷ runs) = find_append cmp q (items run) (entries runs) ∙ ap (λ x. option_or x (find cmp q (entries runs))) (find_items run) ∙ ap (option_or (holds (seen cmp q run))) (find_entries runs)

module _ {K V : Type 0} {cmp : K → K → Ordering} (o : IsTotalOrder cmp) where
  pub sorted_placed : (es : List (K × Item V)) → T (is_sorted cmp (placed cmp es))
  sorted_placed [] = tt
  sorted_placed (e ∷ es) = is_sorted-put cmp o e.0 e.1 (placed cmp es) (sorted_placed es)

  pub find_placed : (q : K) (es : List (K × Item V)) → find cmp q (placed cmp es) ≡ find cmp q es
  find_placed q [] = refl
  find_placed q (e ∷ es) = find-put cmp o q e.0 e.1 (placed cmp es) ∙ ap (cond (eq_by_cmp cmp q e.0) (Some e.1)) (find_placed q es)

module _ {K X : Type 0} {cmp : K → K → Ordering} (o : IsTotalOrder cmp) where
  -- what is above y is above what ties with y
  none_beside : (q y : K) (es : List (K × X)) → cmp q y ≡ Equal → T (below_all cmp y es) → find cmp q es ≡ None
  none_beside q y [] p h = refl
  none_beside q y (e ∷ es) p h =
      ap (λ r. cond (is_eq r) (Some e.1) (find cmp q es)) (o.congr q y e.0 p ∙ less _ (first _ _ h)) ∙ none_beside q y es p (second _ _ h)

module _ {K V : Type 0} (cmp : K → K → Ordering) where
  below_with : (x k : K) (i : Item V) (es : List (K × V)) → T (is_lt (cmp x k)) → T (below_all cmp x es) → T (below_all cmp x (with_answer k (Some i) es))
  below_with x k (Value v) es p h = both _ _ p h
  below_with x k Tombstone es p h = h

  below_values : (x : K) (es : List (K × Item V)) → T (below_all cmp x es) → T (below_all cmp x (values es))
  below_values x [] h = tt
  below_values x (e ∷ es) h = below_with x e.0 e.1 (values es) (first _ _ h) (below_values x es (second _ _ h))

  -- the pairs with that of a key that is below them all
  pub sorted_with : (k : K) (a : Option (Item V)) (es : List (K × V)) → T (below_all cmp k es) → T (is_sorted cmp es) → T (is_sorted cmp (with_answer k a es))
  sorted_with k None es p h = h
  sorted_with k (Some (Value v)) es p h = both _ _ p h
  sorted_with k (Some Tombstone) es p h = h

  pub sorted_values : (es : List (K × Item V)) → T (is_sorted cmp es) → T (is_sorted cmp (values es))
  sorted_values [] h = tt
  sorted_values (e ∷ es) h = sorted_with e.0 (Some e.1) (values es) (below_values e.0 es (first _ _ h)) (sorted_values es (second _ _ h))

  -- what the pairs have once a key's pair stands before them
  pub find_with : (q k : K) (a : Option (Item V)) (es : List (K × V)) → find cmp q (with_answer k a es) ≡ cond (eq_by_cmp cmp q k) (option_or (value_of a) (find cmp q es)) (find cmp q es)
  find_with q k None es = by_bool (λ b. find cmp q es ≡ cond b (find cmp q es) (find cmp q es)) refl refl (eq_by_cmp cmp q k)
  find_with q k (Some (Value v)) es = refl
  find_with q k (Some Tombstone) es = by_bool (λ b. find cmp q es ≡ cond b (find cmp q es) (find cmp q es)) refl refl (eq_by_cmp cmp q k)

module _ {K V : Type 0} {cmp : K → K → Ordering} (o : IsTotalOrder cmp) where
  value_or : (i : Item V) → option_or (value_of (Some i)) None ≡ value_of (Some i)
  value_or (Value v) = refl
  value_or Tombstone = refl

  pub find_values : (q : K) (es : List (K × Item V)) → T (is_sorted cmp es) → find cmp q (values es) ≡ value_of (find cmp q es)
  find_values q [] h = refl
  find_values q (e ∷ es) h =
      find_with cmp q e.0 (Some e.1) (values es)
      ∙ by_bool (λ b. eq_by_cmp cmp q e.0 ≡ b → cond b (option_or (value_of (Some e.1)) (find cmp q (values es))) (find cmp q (values es)) ≡ value_of (cond b (Some e.1) (find cmp q es)))
      (λ t. ap (option_or (value_of (Some e.1))) (find_values q es (second _ _ h) ∙ ap value_of (none_beside o q e.0 es (equal _ t) (first _ _ h))) ∙ value_or e.1)
      (λ t. find_values q es (second _ _ h))
      (eq_by_cmp cmp q e.0) refl

module _ {K X : Type 0} {cmp : K → K → Ordering} (o : IsTotalOrder cmp) where
  found_first : (e : K × X) (es : List (K × X)) → find cmp e.0 (e ∷ es) ≡ Some e.1
  found_first e es = ap (λ r. cond (is_eq r) (Some e.1) (find cmp e.0 es)) (tied_itself o e.0)

  -- a list in which no key is found is empty
  pub nothing_found : (es : List (K × X)) → ((q : K) → find cmp q es ≡ None) → es ≡ []
  nothing_found [] h = refl
  nothing_found (e ∷ es) h = let f = sym (found_first e es) ∙ h e.0 in cc

  -- a key that is below each key that is found is below all
  pub below_found : (k : K) (es : List (K × X)) → ((q : K) (v : X) → find cmp q es ≡ Some v → cmp k q ≡ Less) → T (below_all cmp k es)
  below_found k [] h = tt
  below_found k (e ∷ es) h =
      both _ _ (passed _ (ap is_lt (h e.0 e.1 (found_first e es))))
      (below_found k es (λ q v f.
      by_bool (λ b. eq_by_cmp cmp q e.0 ≡ b → cmp k q ≡ Less)
      (λ t. h q e.1 (ap (λ b. cond b (Some e.1) (find cmp q es)) t))
      (λ t. h q v (ap (λ b. cond b (Some e.1) (find cmp q es)) t ∙ f))
      (eq_by_cmp cmp q e.0) refl))
