-- How many items, young items and lookahead cells a weave has.
use Rattle.std.proofs.Common.{◌≡◌, ℕ, suc, ◌+◌, ◌≤◌, Bool, true, false, cond, List, [], ◌∷◌, refl, sym, ap, ◌∙◌, subst, Less, Greater, Ordering, map, length, arith}
use Rattle.std.specs.Ordering.{match_ordering, ordering_then}
use Rattle.std.specs.List.{AllByRecursion, filter}
use Rattle.std.specs.List.Sorted.{IsStrictlySortedBy}
use Rattle.cola_runs.specs.Cells.{Cell, Entry, Look, place_cmp, look_keys, count_looks, count_items, count_young}
use Rattle.cola_runs.specs.Weave.{Part, own_items, is_wanted, taken, taken_own, taken_incoming, stays, look_at, relinked, set_cell, set_cells, unlinked, weave}
use Rattle.cola_runs.proofs.Order.{by_bool, by_ordering, match_three}

-- ---- any count of cells by a weight

module _ {K V : Type 0} where
  -- the sum of a weight over the cells
  abbrev pub weigh : (Cell K V → ℕ) → List (Cell K V) → ℕ
  weigh f [] = 0
  weigh f (c ∷ cells) = f c + weigh f cells

  -- an item weighs one
  abbrev pub item_weight : Cell K V → ℕ
  item_weight (Entry k i y l) = 1
  item_weight (Look k l) = 0

  -- a young item weighs one
  abbrev pub young_weight : Cell K V → ℕ
  young_weight (Entry k i true l) = 1
  young_weight (Entry k i false l) = 0
  young_weight (Look k l) = 0

  pub weigh_items : (cells : List (Cell K V)) → weigh item_weight cells ≡ count_items cells
  weigh_items [] = refl
  weigh_items (Entry k i y l ∷ cells) = let rest = weigh_items cells in omega arith
  weigh_items (Look k l ∷ cells) = let rest = weigh_items cells in omega arith

  pub weigh_young : (cells : List (Cell K V)) → weigh young_weight cells ≡ count_young cells
  weigh_young [] = refl
  weigh_young (Entry k i true l ∷ cells) = let rest = weigh_young cells in omega arith
  weigh_young (Entry k i false l ∷ cells) = let rest = weigh_young cells in omega arith
  weigh_young (Look k l ∷ cells) = let rest = weigh_young cells in omega arith

  pub weigh_filter : (f : Cell K V → ℕ) (p : Cell K V → Bool) (cells : List (Cell K V)) → weigh f (filter p cells) ≤ weigh f cells
  weigh_filter f p [] = omega arith
  weigh_filter f p (c ∷ cells) =
      let rest = weigh_filter f p cells in
      by_bool (λ w. weigh f (cond w (c ∷ filter p cells) (filter p cells)) ≤ f c + weigh f cells) (omega arith) (omega arith) (p c)

  pub length_counts : (cells : List (Cell K V)) → length cells ≡ count_items cells + count_looks cells
  length_counts [] = refl
  length_counts (Entry k i y l ∷ cells) = let rest = length_counts cells in omega arith
  length_counts (Look k l ∷ cells) = let rest = length_counts cells in omega arith

  pub young_among_items : (cells : List (Cell K V)) → count_young cells ≤ count_items cells
  young_among_items [] = omega arith
  young_among_items (Entry k i true l ∷ cells) = let rest = young_among_items cells in omega arith
  young_among_items (Entry k i false l ∷ cells) = let rest = young_among_items cells in omega arith
  young_among_items (Look k l ∷ cells) = young_among_items cells

  pub looks_are_keys : (cells : List (Cell K V)) → count_looks cells ≡ length (look_keys cells)
  looks_are_keys [] = refl
  looks_are_keys (Entry k i y l ∷ cells) = looks_are_keys cells
  looks_are_keys (Look k l ∷ cells) = ap suc (looks_are_keys cells)

  -- what is counted does not depend on links
  pub relinked_items : (n : ℕ) (cells : List (Cell K V)) → count_items (relinked n cells) ≡ count_items cells
  relinked_items n [] = refl
  relinked_items n (Entry k i y l ∷ cells) = ap suc (relinked_items n cells)
  relinked_items n (Look k l ∷ cells) = relinked_items (suc n) cells

  pub relinked_young : (n : ℕ) (cells : List (Cell K V)) → count_young (relinked n cells) ≡ count_young cells
  relinked_young n [] = refl
  relinked_young n (Entry k i true l ∷ cells) = ap suc (relinked_young n cells)
  relinked_young n (Entry k i false l ∷ cells) = relinked_young n cells
  relinked_young n (Look k l ∷ cells) = relinked_young (suc n) cells

  pub relinked_keys : (n : ℕ) (cells : List (Cell K V)) → look_keys (relinked n cells) ≡ look_keys cells
  relinked_keys n [] = refl
  relinked_keys n (Entry k i y l ∷ cells) = relinked_keys n cells
  relinked_keys n (Look k l ∷ cells) = ap (λ keys. k ∷ keys) (relinked_keys (suc n) cells)

  -- the counts of what is taken
  pub taken_all_items : (y : Bool) (cells : List (Cell K V)) → weigh item_weight (taken (λ _. true) y cells) ≡ count_items cells
  taken_all_items y [] = refl
  taken_all_items y (Entry k i x l ∷ cells) = let rest = taken_all_items y cells in omega arith
  taken_all_items y (Look k l ∷ cells) = taken_all_items y cells

  pub taken_all_young : (y : Bool) (cells : List (Cell K V)) → weigh young_weight (taken (λ _. true) y cells) ≡ cond y (count_items cells) 0
  taken_all_young true [] = refl
  taken_all_young false [] = refl
  taken_all_young true (Entry k i x l ∷ cells) = let rest = taken_all_young true cells in omega arith
  taken_all_young false (Entry k i x l ∷ cells) = let rest = taken_all_young false cells in omega arith
  taken_all_young y (Look k l ∷ cells) = taken_all_young y cells

  pub taken_old : (wanted : Bool → Bool) (cells : List (Cell K V)) → weigh young_weight (taken wanted false cells) ≡ 0
  taken_old wanted [] = refl
  taken_old wanted (Entry k i x l ∷ cells) =
      let rest = taken_old wanted cells in
      by_bool (λ w. weigh young_weight (cond w (Entry k i false 0 ∷ taken wanted false cells) (taken wanted false cells)) ≡ 0) (omega arith) rest (wanted x)
  taken_old wanted (Look k l ∷ cells) = taken_old wanted cells

  taken_own_by : (only : Bool) (cells : List (Cell K V)) → weigh item_weight (taken (λ y. cond only y true) false cells) ≡ cond only (count_young cells) (count_items cells)
  taken_own_by true [] = refl
  taken_own_by false [] = refl
  taken_own_by true (Entry k i true l ∷ cells) = let rest = taken_own_by true cells in omega arith
  taken_own_by true (Entry k i false l ∷ cells) = taken_own_by true cells
  taken_own_by false (Entry k i y l ∷ cells) = let rest = taken_own_by false cells in omega arith
  taken_own_by only (Look k l ∷ cells) = taken_own_by only cells

module _ {K V : Type 0} (cmp : K → K → Ordering) (f : Cell K V → ℕ) where
  -- what is set in may take another cell's place
  pub weigh_set : (c : Cell K V) (cells : List (Cell K V)) → weigh f (set_cell cmp c cells) ≤ f c + weigh f cells
  weigh_set c [] = omega arith
  weigh_set c (d ∷ cells) =
      let rest = weigh_set c cells in
      by_ordering (λ r. weigh f (match_ordering r (c ∷ d ∷ cells) (c ∷ cells) (d ∷ set_cell cmp c cells)) ≤ f c + (f d + weigh f cells))
      (omega arith) (omega arith) (omega arith) (place_cmp cmp c d)

  pub weigh_sets : (cells base : List (Cell K V)) → weigh f (set_cells cmp cells base) ≤ weigh f cells + weigh f base
  weigh_sets [] base = omega arith
  weigh_sets (c ∷ cells) base = let rest = weigh_sets cells base in let here = weigh_set c (set_cells cmp cells base) in omega arith

-- ---- lookahead cells

module _ {K V : Type 0} (cmp : K → K → Ordering) where
  -- a lookahead cell set below all others comes first among them
  look_set : (k : K) (l : ℕ) (cells : List (Cell K V)) → AllByRecursion (λ q. cmp k q ≡ Less) (look_keys cells) → look_keys (set_cell cmp (Look k l) cells) ≡ k ∷ look_keys cells
  look_set k l [] h = refl
  look_set k l (Entry k' i y m ∷ cells) h =
      let rest = look_set k l cells h in
      by_ordering (λ r. look_keys (match_ordering (ordering_then r Greater) (Look k l ∷ Entry k' i y m ∷ cells) (Look k l ∷ cells) (Entry k' i y m ∷ set_cell cmp (Look k l) cells)) ≡ k ∷ look_keys cells)
      refl rest rest (cmp k k')
  look_set k l (Look k' m ∷ cells) h = rw h.0 refl

  look_sets : (keys : List K) (cells : List (Cell K V)) → look_keys cells ≡ [] → IsStrictlySortedBy cmp keys → look_keys (set_cells cmp (map look_at keys) cells) ≡ keys
  unfolding IsStrictlySortedBy
  look_sets [] cells e h = e
  look_sets (k ∷ keys) cells e h =
      let rest = look_sets keys cells e h.1 in
      look_set k 0 (set_cells cmp (map look_at keys) cells) (subst (AllByRecursion (λ q. cmp k q ≡ Less)) (sym rest) h.0) ∙ ap (λ z. k ∷ z) rest

  -- a list of items alone
  no_looks_set : (c : Cell K V) (cells : List (Cell K V)) → look_keys (c ∷ []) ≡ [] → look_keys cells ≡ [] → look_keys (set_cell cmp c cells) ≡ []
  no_looks_set c [] e f = e
  no_looks_set (Look k l) (d ∷ cells) e f = cc
  no_looks_set (Entry k i y l) (Look k' m ∷ cells) e f = cc
  no_looks_set (Entry k i y l) (Entry k' j x m ∷ cells) e f =
      let rest = no_looks_set (Entry k i y l) cells e f in
      match_three (λ z. look_keys z ≡ []) (place_cmp {V = V} cmp (Entry k i y l) (Entry k' j x m)) (Entry k i y l ∷ Entry k' j x m ∷ cells) (Entry k i y l ∷ cells) (Entry k' j x m ∷ set_cell cmp (Entry k i y l) cells)
      (λ _. f) (λ _. f) (λ _. rest)

  no_looks_sets : (wanted : Bool → Bool) (y : Bool) (cells base : List (Cell K V)) → look_keys base ≡ [] → look_keys (set_cells cmp (taken wanted y cells) base) ≡ []
  no_looks_sets wanted y [] base e = e
  no_looks_sets wanted y (Look k l ∷ cells) base e = no_looks_sets wanted y cells base e
  no_looks_sets wanted y (Entry k i x l ∷ cells) base e =
      let rest = no_looks_sets wanted y cells base e in
      by_bool (λ w. look_keys (set_cells cmp (cond w (Entry k i y 0 ∷ taken wanted y cells) (taken wanted y cells)) base) ≡ [])
      (no_looks_set (Entry k i y 0) (set_cells cmp (taken wanted y cells) base) refl rest) rest (wanted x)

no_looks_taken : {K V : Type 0} (wanted : Bool → Bool) (y : Bool) (cells : List (Cell K V)) → look_keys (taken wanted y cells) ≡ []
no_looks_taken wanted y [] = refl
no_looks_taken wanted y (Look k l ∷ cells) = no_looks_taken wanted y cells
no_looks_taken wanted y (Entry k i x l ∷ cells) =
    let rest = no_looks_taken wanted y cells in
    by_bool (λ w. look_keys (cond w (Entry k i y 0 ∷ taken wanted y cells) (taken wanted y cells)) ≡ []) rest rest (wanted x)

no_looks_filter : {K V : Type 0} (p : Cell K V → Bool) (cells : List (Cell K V)) → look_keys cells ≡ [] → look_keys (filter p cells) ≡ []
no_looks_filter p [] e = refl
no_looks_filter p (Look k l ∷ cells) e = cc
no_looks_filter p (Entry k i y l ∷ cells) e =
    let rest = no_looks_filter p cells e in
    by_bool (λ w. look_keys (cond w (Entry k i y l ∷ filter p cells) (filter p cells)) ≡ []) rest rest (p (Entry k i y l))

weigh_looks : {K V : Type 0} (f : Cell K V → ℕ) → ((k : K) (l : ℕ) → f (Look k l) ≡ 0) → (keys : List K) → weigh f (map look_at keys) ≡ 0
weigh_looks f z [] = refl
weigh_looks f z (k ∷ keys) = let rest = weigh_looks f z keys in let here = z k 0 in omega arith

module _ {K V : Type 0} (cmp : K → K → Ordering) (part : Part) (own incoming : List (Cell K V)) (keys : List K) where
  pub keys_unlinked : IsStrictlySortedBy cmp keys → look_keys (unlinked cmp part own incoming keys) ≡ keys
  unfolding unlinked
  keys_unlinked h =
      let items : List (Cell K V) = set_cells cmp (taken_incoming part incoming) (taken_own part own) in
      let no_looks : look_keys items ≡ [] = no_looks_sets cmp (λ _. true) part.marks_young incoming (taken_own part own) (no_looks_taken (is_wanted part) false own) in
      look_sets cmp keys (filter (stays part) items) (no_looks_filter (stays part) items no_looks) h

  -- the lookahead cells of a weave are the sample
  pub keys_weave : IsStrictlySortedBy cmp keys → look_keys (weave cmp part own incoming keys) ≡ keys
  unfolding weave
  keys_weave h = relinked_keys 0 (unlinked cmp part own incoming keys) ∙ keys_unlinked h

  unlinked_weight : (f : Cell K V → ℕ) → ((k : K) (l : ℕ) → f (Look k l) ≡ 0) →
      weigh f (unlinked cmp part own incoming keys) ≤ weigh f (taken_incoming part incoming) + weigh f (taken_own part own)
  unfolding unlinked
  unlinked_weight f z =
      let items : List (Cell K V) = set_cells cmp (taken_incoming part incoming) (taken_own part own) in
      let a = weigh_sets cmp f (map look_at keys) (filter (stays part) items) in
      let b = weigh_looks f z keys in
      let c = weigh_filter f (stays part) items in
      let d = weigh_sets cmp f (taken_incoming part incoming) (taken_own part own) in
      omega arith

  -- at most the items that the part takes
  pub items_weave : count_items (weave cmp part own incoming keys) ≤ own_items part own + count_items incoming
  unfolding weave
  items_weave =
      let w = unlinked_weight item_weight (λ k l. refl) in
      let a = weigh_items (unlinked cmp part own incoming keys) in
      let b = relinked_items 0 (unlinked cmp part own incoming keys) in
      let c = taken_all_items part.marks_young incoming in
      let d = taken_own_by {K = K} {V = V} part.only_young own in
      omega arith

  -- only incoming items are young, and only where the part marks them
  pub young_weave : count_young (weave cmp part own incoming keys) ≤ cond part.marks_young (count_items incoming) 0
  unfolding weave
  young_weave =
      let w = unlinked_weight young_weight (λ k l. refl) in
      let a = weigh_young (unlinked cmp part own incoming keys) in
      let b = relinked_young 0 (unlinked cmp part own incoming keys) in
      let c = taken_all_young part.marks_young incoming in
      let d = taken_old {K = K} {V = V} (is_wanted part) own in
      omega arith

  pub looks_weave : IsStrictlySortedBy cmp keys → count_looks (weave cmp part own incoming keys) ≡ length keys
  looks_weave h = looks_are_keys (weave cmp part own incoming keys) ∙ ap length (keys_weave h)

  -- a weave has at most the cells of its sources that it takes
  pub length_weave : IsStrictlySortedBy cmp keys → length (weave cmp part own incoming keys) ≤ own_items part own + count_items incoming + length keys
  length_weave h =
      let a = length_counts (weave cmp part own incoming keys) in
      let b = looks_weave h in
      let c = items_weave in
      omega arith
