-- Plain entries set into a list, and lists that are made entry by entry.
use Rattle.std.proofs.Common.{◌≡◌, ◌≢◌, ℕ, zero, suc, ◌+◌, ◌≤◌, ◌<◌, Bool, true, false, cond, List, [], ◌∷◌, ◌++◌, refl, sym, ap, ◌∙◌, subst, Less, Equal, Greater, Ordering, length, drop, take, set, get_or, map, filter, arith, add-one, append_assoc, Some}
use Rattle.std.specs.List.{slice_get}
use Rattle.std.specs.Ordering.{is_eq, is_gt}
use Rattle.std.specs.FinMap.{put}
use Rattle.std.specs.FinMap.Entries.{by_order}
use Rattle.cola_plain_runs.specs.declared.cells.PlainItem.{PlainItem}
use Rattle.cola_plain_runs.specs.declared.cells.PlainCell.{PlainCell}
use Rattle.cola_runs.specs.Cells.{Item, Value, Tombstone, Cell, Entry, Look}
use Rattle.cola_plain_runs.specs.Runs.{as_item, as_run}
use Rattle.cola_pairs.specs.Live.{items, entries, placed, with_answer, values, live}
use Rattle.std.proofs.lemmas.List.Elements.{filter-append}
use Rattle.cola_pairs.proofs.Order.{by_bool}
use Rattle.cola_plain_runs.specs.Pairs.{as_entry, as_entries}

-- ---- a list from an index on

module _ {X Y : Type 0} (f : X → Y) where
  mapped_from_suc : (xs : List X) (i : ℕ) (x : X) → i < length xs → x ≡ get_or xs i x → drop i (map f xs) ≡ f x ∷ drop (suc i) (map f xs)
  mapped_from_suc [] i x h e = absurd (omega arith)
  mapped_from_suc (y ∷ xs) zero x h e = ap (λ z. f z ∷ map f xs) (sym e)
  mapped_from_suc (y ∷ xs) (suc i) x h e = mapped_from_suc xs i x (omega arith) e

  pub mapped_from : (xs : List X) (i : ℕ) (x : X) → i < length xs → x ≡ get_or xs i x → drop i (map f xs) ≡ f x ∷ drop (i + 1) (map f xs)
  mapped_from xs i x h e = rw add-one (mapped_from_suc xs i x h e)

  pub mapped_end : (xs : List X) (i : ℕ) → length xs ≤ i → drop i (map f xs) ≡ []
  mapped_end [] zero h = refl
  mapped_end [] (suc i) h = refl
  mapped_end (x ∷ xs) zero h = absurd (omega arith)
  mapped_end (x ∷ xs) (suc i) h = mapped_end xs i (omega arith)

  mapped_set : (xs : List X) (at : ℕ) (v : X) → at < length xs → map f (set xs at v) ≡ take at (map f xs) ++ (f v ∷ drop (suc at) (map f xs))
  mapped_set [] at v h = absurd (omega arith)
  mapped_set (x ∷ xs) zero v h = refl
  mapped_set (x ∷ xs) (suc at) v h = ap (λ z. f x ∷ z) (mapped_set xs at v (omega arith))

  mapped_insert : (xs : List X) (at : ℕ) (v : X) → map f (take at xs ++ (v ∷ drop at xs)) ≡ take at (map f xs) ++ (f v ∷ drop at (map f xs))
  mapped_insert xs zero v = refl
  mapped_insert [] (suc at) v = refl
  mapped_insert (x ∷ xs) (suc at) v = ap (λ z. f x ∷ z) (mapped_insert xs at v)

module _ {X : Type 0} where
  take_one_more : (i : ℕ) (xs : List X) (x : X) (rest : List X) → drop i xs ≡ x ∷ rest → take (suc i) xs ≡ take i xs ++ (x ∷ [])
  take_one_more zero [] x rest e = cc
  take_one_more zero (y ∷ xs) x rest e = cc
  take_one_more (suc i) [] x rest e = cc
  take_one_more (suc i) (y ∷ xs) x rest e = ap (λ z. y ∷ z) (take_one_more i xs x rest e)

pub is_greater : (r : Ordering) → is_gt r ≡ true → r ≡ Greater
is_greater Less e = cc
is_greater Equal e = cc
is_greater Greater e = refl

pub not_greater : (r : Ordering) → is_gt r ≡ false → r ≢ Greater
not_greater Less e f = cc
not_greater Equal e f = cc
not_greater Greater e f = cc

below : (r : Ordering) → (r ≡ Greater → ⊥) → is_eq r ≡ false → r ≡ Less
below Less f g = refl
below Equal f g = cc
below Greater f g = absurd (f refl)

-- ---- an item in its place

module _ {K V : Type 0} (cmp : K → K → Ordering) where
  pub seat_next : (k : K) (v : Item V) (e : K × Item V) (es whole : List (K × Item V)) (i : ℕ) → drop i es ≡ e ∷ drop (i + 1) es → cmp k e.0 ≡ Greater →
      whole ≡ take i es ++ put cmp k v (drop i es) → whole ≡ take (i + 1) es ++ put cmp k v (drop (i + 1) es)
  seat_next k v e es whole i d g h =
      let behind : put cmp k v (drop i es) ≡ e ∷ put cmp k v (drop (i + 1) es) =
      ap (put cmp k v) d ∙ ap (λ r. by_order r ((k, v) ∷ e ∷ drop (i + 1) es) ((e.0, v) ∷ drop (i + 1) es) (e ∷ put cmp k v (drop (i + 1) es))) g in
      let front : take (i + 1) es ≡ take i es ++ (e ∷ []) = ap (λ m. take m es) (add-one i) ∙ take_one_more i es e (drop (i + 1) es) d in
      h ∙ ap (λ z. take i es ++ z) behind ∙ sym (append_assoc (take i es) (e ∷ []) (put cmp k v (drop (i + 1) es))) ∙ ap (λ z. z ++ put cmp k v (drop (i + 1) es)) (sym front)

  pub set_over : (xs : List (K × PlainItem V)) (at : ℕ) (k : K) (v : PlainItem V) (x : K × PlainItem V) → at < length xs → x ≡ get_or xs at x → cmp k x.0 ≡ Equal →
      put cmp k (as_item v) (as_entries xs) ≡ take at (as_entries xs) ++ put cmp k (as_item v) (drop at (as_entries xs)) →
      as_entries (set xs at (x.0, v)) ≡ put cmp k (as_item v) (as_entries xs)
  set_over xs at k v x h e g f =
      let tail : List (K × Item V) = drop (at + 1) (as_entries xs) in
      let over : put cmp k (as_item v) (drop at (as_entries xs)) ≡ (x.0, as_item v) ∷ tail =
      ap (put cmp k (as_item v)) (mapped_from as_entry xs at x h e) ∙ ap (λ r. by_order r ((k, as_item v) ∷ as_entry x ∷ tail) ((x.0, as_item v) ∷ tail) (as_entry x ∷ put cmp k (as_item v) tail)) g in
      mapped_set as_entry xs at (x.0, v) h ∙ ap (λ m. take at (as_entries xs) ++ ((x.0, as_item v) ∷ drop m (as_entries xs))) (sym (add-one at)) ∙ ap (λ z. take at (as_entries xs) ++ z) (sym over) ∙ sym f

  insert_here : (xs : List (K × PlainItem V)) (at : ℕ) (k : K) (v : Item V) → ((e : K × PlainItem V) → slice_get xs at ≡ Some e → cmp k e.0 ≡ Less) →
      put cmp k v (drop at (as_entries xs)) ≡ (k, v) ∷ drop at (as_entries xs)
  insert_here [] zero k v h = refl
  insert_here [] (suc at) k v h = refl
  insert_here (x ∷ xs) zero k v h = ap (λ r. by_order r ((k, v) ∷ as_entry x ∷ as_entries xs) ((x.0, v) ∷ as_entries xs) (as_entry x ∷ put cmp k v (as_entries xs))) (h x refl)
  insert_here (x ∷ xs) (suc at) k v h = insert_here xs at k v h

  pub inserted : (xs ys : List (K × PlainItem V)) (at : ℕ) (k : K) (v : PlainItem V) → ys ≡ take at xs ++ ((k, v) ∷ drop at xs) →
      ((e : K × PlainItem V) → slice_get xs at ≡ Some e → cmp k e.0 ≢ Greater) → ((e : K × PlainItem V) → slice_get xs at ≡ Some e → is_eq (cmp k e.0) ≡ false) →
      put cmp k (as_item v) (as_entries xs) ≡ take at (as_entries xs) ++ put cmp k (as_item v) (drop at (as_entries xs)) → as_entries ys ≡ put cmp k (as_item v) (as_entries xs)
  inserted xs ys at k v e g h f =
      ap as_entries e ∙ mapped_insert as_entry xs at (k, v) ∙ ap (λ z. take at (as_entries xs) ++ z) (sym (insert_here xs at k (as_item v) (λ d i. below (cmp k d.0) (g d i) (h d i)))) ∙ sym f

  -- ---- one cell more of a run

  module _ (within : K → Bool) where
    abbrev kept : List (Cell K V) → List (K × Item V)
    kept cells = filter (λ e. within e.0) (items cells)

    pub cell_sets : (k : K) (i : Item V) (y : Bool) (l : ℕ) (es now before : List (K × Item V)) → within k ≡ true →
        before ≡ placed cmp es → now ≡ put cmp k i before → now ≡ placed cmp (kept (Entry k i y l ∷ []) ++ es)
    cell_sets k i y l es now before w b n = n ∙ ap (put cmp k i) b ∙ ap (λ t. placed cmp (cond t ((k, i) ∷ []) [] ++ es)) (sym w)

    pub cell_skips : (k : K) (i : Item V) (y : Bool) (l : ℕ) (es before : List (K × Item V)) → within k ≡ false →
        before ≡ placed cmp es → before ≡ placed cmp (kept (Entry k i y l ∷ []) ++ es)
    cell_skips k i y l es before w b = b ∙ ap (λ t. placed cmp (cond t ((k, i) ∷ []) [] ++ es)) (sym w)

    kept_cons : (c : Cell K V) (cells : List (Cell K V)) → kept (c ∷ []) ++ kept cells ≡ kept (c ∷ cells)
    kept_cons (Look k l) cells = refl
    kept_cons (Entry k i y l) cells = by_bool (λ t. cond t ((k, i) ∷ []) [] ++ kept cells ≡ cond t ((k, i) ∷ kept cells) (kept cells)) refl refl (within k)

    -- one cell more of a run
    pub run_next : (c : Cell K V) (cells all : List (Cell K V)) (es now : List (K × Item V)) → all ≡ c ∷ cells →
        now ≡ placed cmp (kept (c ∷ []) ++ (kept cells ++ es)) → now ≡ placed cmp (kept all ++ es)
    run_next c cells all es now a n =
        n ∙ ap (placed cmp) (sym (append_assoc (kept (c ∷ [])) (kept cells) es) ∙ ap (λ z. z ++ es) (kept_cons c cells ∙ ap kept (sym a)))

    -- one run more
    pub runs_next : (run : List (Cell K V)) (runs all : List (List (Cell K V))) (now : List (K × Item V)) → all ≡ run ∷ runs →
        now ≡ placed cmp (kept run ++ filter (λ e. within e.0) (entries runs)) → now ≡ placed cmp (filter (λ e. within e.0) (entries all))
    runs_next run runs all now a n =
        n ∙ ap (placed cmp) (sym (filter-append (λ e. within e.0) (items run) (entries runs)) ∙ ap (λ z. filter (λ e. within e.0) (entries z)) (sym a))

-- ---- the pairs of entries

module _ {K V : Type 0} where
  pub pairs_take : (e : K × Item V) (v : V) (es all : List (K × Item V)) (made now whole : List (K × V)) → all ≡ e ∷ es → e.1 ≡ Value v → now ≡ made ++ (e.0, v) ∷ [] →
      made ++ values all ≡ whole → now ++ values es ≡ whole
  pairs_take e v es all made now whole a i n h =
      ap (λ z. z ++ values es) n ∙ append_assoc made ((e.0, v) ∷ []) (values es) ∙ ap (λ x. made ++ with_answer e.0 (Some x) (values es)) (sym i) ∙ ap (λ z. made ++ values z) (sym a) ∙ h

  pub pairs_skip : (e : K × Item V) (es all : List (K × Item V)) (made now whole : List (K × V)) → all ≡ e ∷ es → e.1 ≡ Tombstone → now ≡ made →
      made ++ values all ≡ whole → now ++ values es ≡ whole
  pairs_skip e es all made now whole a i n h =
      ap (λ z. z ++ values es) n ∙ ap (λ x. made ++ with_answer e.0 (Some x) (values es)) (sym i) ∙ ap (λ z. made ++ values z) (sym a) ∙ h

pub append_none : {X : Type 0} (xs : List X) → xs ++ [] ≡ xs
append_none [] = refl
append_none (x ∷ xs) = ap (λ z. x ∷ z) (append_none xs)

-- ---- the same of an equal list

module _ {K V : Type 0} (cmp : K → K → Ordering) (k : K) where
  pub seat_of_same : (v : Item V) (at : ℕ) (xs ys : List (K × PlainItem V)) → xs ≡ ys → put cmp k v (as_entries xs) ≡ take at (as_entries xs) ++ put cmp k v (drop at (as_entries xs)) →
      put cmp k v (as_entries ys) ≡ take at (as_entries ys) ++ put cmp k v (drop at (as_entries ys))
  seat_of_same v at xs ys e h = subst (λ (z : List (K × PlainItem V)). put cmp k v (as_entries z) ≡ take at (as_entries z) ++ put cmp k v (drop at (as_entries z))) e h

  pub stops_of_same : (at : ℕ) (xs ys : List (K × PlainItem V)) → xs ≡ ys → ((e : K × PlainItem V) → slice_get xs at ≡ Some e → cmp k e.0 ≢ Greater) →
      (e : K × PlainItem V) → slice_get ys at ≡ Some e → cmp k e.0 ≢ Greater
  stops_of_same at xs ys e h d f = h d (ap (λ z. slice_get z at) e ∙ f)

-- two reads of one place
pub same_at : {X : Type 0} (xs : List X) (at : ℕ) (x y : X) → at < length xs → x ≡ get_or xs at x → y ≡ get_or xs at y → x ≡ y
same_at [] at x y h e f = absurd (omega arith)
same_at (z ∷ xs) zero x y h e f = e ∙ sym f
same_at (z ∷ xs) (suc at) x y h e f = same_at xs at x y (omega arith) e f

pub past_end : {X : Type 0} (xs : List X) (at : ℕ) (x : X) → length xs ≤ at → slice_get xs at ≡ Some x → ⊥
past_end [] at x h e = cc
past_end (z ∷ xs) zero x h e = absurd (omega arith)
past_end (z ∷ xs) (suc at) x h e = past_end xs at x (omega arith) e

module _ {K V : Type 0} (cmp : K → K → Ordering) (within : K → Bool) where
  -- the run that was set, as the list that its `Vec` has
  pub run_of_same : (xs ys : List (PlainCell K V)) (now es : List (K × Item V)) → xs ≡ ys → now ≡ placed cmp (filter (λ e. within e.0) (items (as_run xs)) ++ es) →
      now ≡ placed cmp (filter (λ e. within e.0) (items (as_run ys)) ++ es)
  run_of_same xs ys now es e h = h ∙ ap (λ z. placed cmp (filter (λ x. within x.0) (items (as_run z)) ++ es)) e

  -- where all runs are set, the values are the live pairs
  pub all_set : (left : ℕ) (xs ys : List (K × PlainItem V)) (runs : List (List (Cell K V))) (pairs : List (K × V)) → left ≤ 0 → xs ≡ ys →
      as_entries ys ≡ placed cmp (filter (λ e. within e.0) (entries (drop left runs))) → pairs ≡ values (as_entries xs) → pairs ≡ live cmp within runs
  unfolding live
  all_set zero xs ys runs pairs l e h p = p ∙ ap values (ap as_entries e ∙ h)
  all_set (suc n) xs ys runs pairs l e h p = absurd (omega arith)
