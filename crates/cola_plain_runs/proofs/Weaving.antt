-- Plain cells set into a list, and lists that are made cell by cell.
use Rattle.std.proofs.Common.{◌≡◌, ◌≢◌, ℕ, zero, suc, ◌+◌, ◌-◌, ◌*◌, ◌%◌, ◌≤◌, ◌<◌, Bool, true, false, cond, List, [], ◌∷◌, ◌++◌, refl, sym, ap, ◌∙◌, subst, Less, Equal, Greater, Ordering, length, drop, take, set, get_or, map, arith, add-one, append_assoc, Some, Result, Ok, Err, IfOk}
use Rattle.std.specs.List.{filter, slice_get}
use Rattle.std.specs.Ordering.{is_eq, is_gt, match_ordering}
use Rattle.cola_plain_runs.specs.declared.cells.PlainCell.{PlainCell}
use Rattle.cola_runs.specs.Cells.{Cell, Entry, Look, key_of, is_look, place_cmp, every_eighth}
use Rattle.cola_runs.specs.Weave.{Part, is_wanted, taken, taken_own, taken_incoming, unlinked, weave, stays, look_at, relinked, set_cell, set_cells}
use Rattle.cola_plain_runs.specs.Runs.{as_cell, as_run, linked_to}
use Rattle.cola_plain_runs.proofs.Lists.{run_length}
use Rattle.cola_runs.proofs.Order.{by_bool, by_ordering}

module _ {X : Type 0} where
  take_one_more : (i : ℕ) (xs : List X) (x : X) (rest : List X) → drop i xs ≡ x ∷ rest → take (suc i) xs ≡ take i xs ++ (x ∷ [])
  take_one_more zero [] x rest e = cc
  take_one_more zero (y ∷ xs) x rest e = cc
  take_one_more (suc i) [] x rest e = cc
  take_one_more (suc i) (y ∷ xs) x rest e = ap (λ z. y ∷ z) (take_one_more i xs x rest e)

-- what is seen of an answer that is not `Greater`
below : (r : Ordering) → (r ≡ Greater → ⊥) → is_eq r ≡ false → r ≡ Less
below Less f g = refl
below Equal f g = cc
below Greater f g = absurd (f refl)

module _ {K V : Type 0} (cmp : K → K → Ordering) where
  -- a cell before the place stays in front
  pub seat_next : (c d : Cell K V) (run whole : List (Cell K V)) (i : ℕ) → drop i run ≡ d ∷ drop (i + 1) run → place_cmp cmp c d ≡ Greater →
      whole ≡ take i run ++ set_cell cmp c (drop i run) → whole ≡ take (i + 1) run ++ set_cell cmp c (drop (i + 1) run)
  seat_next c d run whole i e g h =
      let behind : set_cell cmp c (drop i run) ≡ d ∷ set_cell cmp c (drop (i + 1) run) =
      ap (set_cell cmp c) e ∙ ap (λ r. match_ordering r (c ∷ d ∷ drop (i + 1) run) (c ∷ drop (i + 1) run) (d ∷ set_cell cmp c (drop (i + 1) run))) g in
      let front : take (i + 1) run ≡ take i run ++ (d ∷ []) = ap (λ m. take m run) (add-one i) ∙ take_one_more i run d (drop (i + 1) run) e in
      h ∙ ap (λ z. take i run ++ z) behind ∙ sym (append_assoc (take i run) (d ∷ []) (set_cell cmp c (drop (i + 1) run))) ∙ ap (λ z. z ++ set_cell cmp c (drop (i + 1) run)) (sym front)

  run_set : (xs : List (PlainCell K V)) (at : ℕ) (v : PlainCell K V) → at < length xs → as_run (set xs at v) ≡ take at (as_run xs) ++ (as_cell v ∷ drop (suc at) (as_run xs))
  run_set [] at v h = absurd (omega arith)
  run_set (x ∷ xs) zero v h = refl
  run_set (x ∷ xs) (suc at) v h = ap (λ z. as_cell x ∷ z) (run_set xs at v (omega arith))

  run_insert : (xs : List (PlainCell K V)) (at : ℕ) (v : PlainCell K V) → as_run (take at xs ++ (v ∷ drop at xs)) ≡ take at (as_run xs) ++ (as_cell v ∷ drop at (as_run xs))
  run_insert xs zero v = refl
  run_insert [] (suc at) v = refl
  run_insert (x ∷ xs) (suc at) v = ap (λ z. as_cell x ∷ z) (run_insert xs at v)

  -- a cell in the place of one that it ties with
  pub set_over : (xs : List (PlainCell K V)) (at : ℕ) (v x : PlainCell K V) → at < length xs → drop at (as_run xs) ≡ as_cell x ∷ drop (at + 1) (as_run xs) → place_cmp cmp (as_cell v) (as_cell x) ≡ Equal →
      set_cell cmp (as_cell v) (as_run xs) ≡ take at (as_run xs) ++ set_cell cmp (as_cell v) (drop at (as_run xs)) → as_run (set xs at v) ≡ set_cell cmp (as_cell v) (as_run xs)
  set_over xs at v x h e g f =
      let tail : List (Cell K V) = drop (at + 1) (as_run xs) in
      let over : set_cell cmp (as_cell v) (drop at (as_run xs)) ≡ as_cell v ∷ tail =
      ap (set_cell cmp (as_cell v)) e ∙ ap (λ r. match_ordering r (as_cell v ∷ as_cell x ∷ tail) (as_cell v ∷ tail) (as_cell x ∷ set_cell cmp (as_cell v) tail)) g in
      run_set xs at v h ∙ ap (λ m. take at (as_run xs) ++ (as_cell v ∷ drop m (as_run xs))) (sym (add-one at)) ∙ ap (λ z. take at (as_run xs) ++ z) (sym over) ∙ sym f

  insert_here : (xs : List (PlainCell K V)) (at : ℕ) (v : PlainCell K V) → ((d : PlainCell K V) → slice_get xs at ≡ Some d → place_cmp cmp (as_cell v) (as_cell d) ≡ Less) →
      set_cell cmp (as_cell v) (drop at (as_run xs)) ≡ as_cell v ∷ drop at (as_run xs)
  insert_here [] zero v h = refl
  insert_here [] (suc at) v h = refl
  insert_here (x ∷ xs) zero v h = ap (λ r. match_ordering r (as_cell v ∷ as_cell x ∷ as_run xs) (as_cell v ∷ as_run xs) (as_cell x ∷ set_cell cmp (as_cell v) (as_run xs))) (h x refl)
  insert_here (x ∷ xs) (suc at) v h = insert_here xs at v h

  -- a cell between those before and those behind its place
  pub inserted : (xs ys : List (PlainCell K V)) (at : ℕ) (v : PlainCell K V) → ys ≡ take at xs ++ (v ∷ drop at xs) →
      ((d : PlainCell K V) → slice_get xs at ≡ Some d → place_cmp cmp (as_cell v) (as_cell d) ≢ Greater) →
      ((d : PlainCell K V) → slice_get xs at ≡ Some d → is_eq (place_cmp cmp (as_cell v) (as_cell d)) ≡ false) →
      set_cell cmp (as_cell v) (as_run xs) ≡ take at (as_run xs) ++ set_cell cmp (as_cell v) (drop at (as_run xs)) → as_run ys ≡ set_cell cmp (as_cell v) (as_run xs)
  inserted xs ys at v e g h f =
      ap as_run e ∙ run_insert xs at v ∙ ap (λ z. take at (as_run xs) ++ z) (sym (insert_here xs at v (λ d i. below (place_cmp cmp (as_cell v) (as_cell d)) (g d i) (h d i)))) ∙ sym f

-- ---- lists that are made cell by cell

-- what was made so far, and what one cell more adds
pub made_next : {X Y : Type 0} (F : List X → List Y) → ((x : X) (xs : List X) → F (x ∷ xs) ≡ F (x ∷ []) ++ F xs) →
    (x : X) (xs : List X) (made added now whole : List Y) (all : List X) → all ≡ x ∷ xs → now ≡ made ++ added → added ≡ F (x ∷ []) → made ++ F all ≡ whole → now ++ F xs ≡ whole
made_next F cons x xs made added now whole all e n a h =
    ap (λ z. z ++ F xs) (n ∙ ap (λ z. made ++ z) a) ∙ append_assoc made (F (x ∷ [])) (F xs) ∙ ap (λ z. made ++ z) (sym (cons x xs) ∙ ap F (sym e)) ∙ h

module _ {K V : Type 0} where
  pub taken_cons : (wanted : Bool → Bool) (y : Bool) (c : Cell K V) (cells : List (Cell K V)) → taken wanted y (c ∷ cells) ≡ taken wanted y (c ∷ []) ++ taken wanted y cells
  taken_cons wanted y (Look k l) cells = refl
  taken_cons wanted y (Entry k i x l) cells =
      by_bool (λ w. cond w (Entry k i y 0 ∷ taken wanted y cells) (taken wanted y cells) ≡ cond w (Entry k i y 0 ∷ []) [] ++ taken wanted y cells) refl refl (wanted x)

  pub filter_cons : (p : Cell K V → Bool) (c : Cell K V) (cells : List (Cell K V)) → filter p (c ∷ cells) ≡ filter p (c ∷ []) ++ filter p cells
  filter_cons p c cells = by_bool (λ w. cond w (c ∷ filter p cells) (filter p cells) ≡ cond w (c ∷ []) [] ++ filter p cells) refl refl (p c)

-- where nothing is left, the whole was made
pub made_all : {X Y : Type 0} (F : List X → List Y) → F [] ≡ [] → (made whole : List Y) (all : List X) → all ≡ [] → made ++ F all ≡ whole → made ≡ whole
made_all F none made whole all e h = sym (append_none made) ∙ ap (λ z. made ++ z) (sym none ∙ ap F (sym e)) ∙ h
  where
    append_none : {Y : Type 0} (xs : List Y) → xs ++ [] ≡ xs
    append_none [] = refl
    append_none (x ∷ xs) = ap (λ z. x ∷ z) (append_none xs)

list_from_suc : {X : Type 0} (xs : List X) (i : ℕ) (x : X) → i < length xs → x ≡ get_or xs i x → drop i xs ≡ x ∷ drop (suc i) xs
list_from_suc [] i x h e = absurd (omega arith)
list_from_suc (y ∷ xs) zero x h e = ap (λ z. z ∷ xs) (sym e)
list_from_suc (y ∷ xs) (suc i) x h e = list_from_suc xs i x (omega arith) e

pub list_from : {X : Type 0} (xs : List X) (i : ℕ) (x : X) → i < length xs → x ≡ get_or xs i x → drop i xs ≡ x ∷ drop (i + 1) xs
list_from xs i x h e = rw add-one (list_from_suc xs i x h e)

module _ {K V : Type 0} where
  pub relinked_look : (n m : ℕ) (c : Cell K V) (cells : List (Cell K V)) → is_look c ≡ true → m ≡ n + 1 → relinked n (c ∷ cells) ≡ linked_to (8 * n) c ∷ relinked m cells
  relinked_look n m (Entry k i y l) cells p e = cc
  relinked_look n m (Look k l) cells p e = rw (e, add-one) refl

  pub relinked_item : (n m : ℕ) (c : Cell K V) (cells : List (Cell K V)) → is_look c ≡ false → m ≡ n → relinked n (c ∷ cells) ≡ linked_to (8 * n) c ∷ relinked m cells
  relinked_item n m (Entry k i y l) cells p e = rw e refl
  relinked_item n m (Look k l) cells p e = cc

  -- one more cell with its link
  pub linked_next : (n m : ℕ) (c v : Cell K V) (cells all made now whole : List (Cell K V)) → all ≡ c ∷ cells → v ≡ linked_to (8 * n) c → now ≡ made ++ (v ∷ []) →
      relinked n (c ∷ cells) ≡ linked_to (8 * n) c ∷ relinked m cells → made ++ relinked n all ≡ whole → now ++ relinked m cells ≡ whole
  linked_next n m c v cells all made now whole e f g r h =
      ap (λ z. z ++ relinked m cells) g ∙ append_assoc made (v ∷ []) (relinked m cells) ∙ ap (λ z. made ++ (z ∷ relinked m cells)) f ∙ ap (λ z. made ++ z) (sym r ∙ ap (relinked n) (sym e)) ∙ h

  pub run_append : (xs : List (PlainCell K V)) (x : PlainCell K V) → as_run (xs ++ x ∷ []) ≡ as_run xs ++ as_cell x ∷ []
  run_append [] x = refl
  run_append (y ∷ xs) x = ap (λ z. as_cell y ∷ z) (run_append xs x)

module _ {K V : Type 0} (cmp : K → K → Ordering) where
  -- one more cell from the end is set
  pub set_next : (run base cells now : List (Cell K V)) (c : Cell K V) (n m : ℕ) → drop m run ≡ c ∷ drop n run → now ≡ set_cell cmp c cells → cells ≡ set_cells cmp (drop n run) base →
      now ≡ set_cells cmp (drop m run) base
  set_next run base cells now c n m e f g = f ∙ ap (set_cell cmp c) g ∙ ap (λ z. set_cells cmp z base) (sym e)

pub nothing_at_end : {X : Type 0} (xs : List X) (x : X) → slice_get xs (length xs) ≡ Some x → ⊥
nothing_at_end [] x e = cc
nothing_at_end (y ∷ xs) x e = nothing_at_end xs x e

pub is_greater : (r : Ordering) → is_gt r ≡ true → r ≡ Greater
is_greater Less e = cc
is_greater Equal e = cc
is_greater Greater e = refl

pub not_greater : (r : Ordering) → is_gt r ≡ false → r ≡ Greater → ⊥
not_greater Less e f = cc
not_greater Equal e f = cc
not_greater Greater e f = cc

-- what was said of a slice, of the list that it shows
module _ {K V : Type 0} (cmp : K → K → Ordering) (c : Cell K V) (at : ℕ) (slice items : List (PlainCell K V)) (e : slice ≡ items) where
  pub seat_of_same : set_cell cmp c (as_run slice) ≡ take at (as_run slice) ++ set_cell cmp c (drop at (as_run slice)) → set_cell cmp c (as_run items) ≡ take at (as_run items) ++ set_cell cmp c (drop at (as_run items))
  seat_of_same h = subst (λ z. set_cell cmp c (as_run z) ≡ take at (as_run z) ++ set_cell cmp c (drop at (as_run z))) e h

  pub stops_of_same : ((d : PlainCell K V) → slice_get slice at ≡ Some d → place_cmp cmp c (as_cell d) ≢ Greater) → (d : PlainCell K V) → slice_get items at ≡ Some d → place_cmp cmp c (as_cell d) ≢ Greater
  stops_of_same h = subst (λ z. (d : PlainCell K V) → slice_get z at ≡ Some d → place_cmp cmp c (as_cell d) ≢ Greater) e h

-- a result whose value is one thing, and that thing another
pub value_is : {X Y E : Type 0} (r : Result X E) (f : X → Y) (a b : Y) → a ≡ b → IfOk r (λ v. f v ≡ a) → IfOk r (λ v. f v ≡ b)
value_is (Ok v) f a b e h = h ∙ e
value_is (Err x) f a b e h = h

-- the lengths of what is made for a weave
module _ {K V : Type 0} where
  pub taken_length : (wanted : Bool → Bool) (y : Bool) (cells : List (Cell K V)) → length (taken wanted y cells) ≤ length cells
  taken_length wanted y [] = omega arith
  taken_length wanted y (Look k l ∷ cells) = let rest = taken_length wanted y cells in omega arith
  taken_length wanted y (Entry k i x l ∷ cells) =
      let rest = taken_length wanted y cells in
      by_bool (λ w. length (cond w (Entry k i y 0 ∷ taken wanted y cells) (taken wanted y cells)) ≤ suc (length cells)) (omega arith) (omega arith) (wanted x)

  pub filter_length : (p : Cell K V → Bool) (cells : List (Cell K V)) → length (filter p cells) ≤ length cells
  filter_length p [] = omega arith
  filter_length p (c ∷ cells) =
      let rest = filter_length p cells in
      by_bool (λ w. length (cond w (c ∷ filter p cells) (filter p cells)) ≤ suc (length cells)) (omega arith) (omega arith) (p c)

looks_length : {K : Type 0} (V : Type 0) (keys : List K) → length (map (look_at {V = V}) keys) ≡ length keys
looks_length V [] = refl
looks_length V (k ∷ keys) = ap suc (looks_length V keys)

module _ {K V : Type 0} (cmp : K → K → Ordering) where
  set_length : (c : Cell K V) (cells : List (Cell K V)) → length (set_cell cmp c cells) ≤ suc (length cells)
  set_length c [] = omega arith
  set_length c (d ∷ cells) =
      let rest = set_length c cells in
      by_ordering (λ r. length (match_ordering r (c ∷ d ∷ cells) (c ∷ cells) (d ∷ set_cell cmp c cells)) ≤ suc (suc (length cells))) (omega arith) (omega arith) (omega arith) (place_cmp cmp c d)

  pub sets_length : (cells base : List (Cell K V)) → length (set_cells cmp cells base) ≤ length cells + length base
  sets_length [] base = omega arith
  sets_length (c ∷ cells) base = let rest = sets_length cells base in let here = set_length c (set_cells cmp cells base) in omega arith

  -- what is made for a weave has no more cells than the sources
  pub unlinked_length : (part : Part) (own incoming : List (Cell K V)) (keys : List K) → length (unlinked cmp part own incoming keys) ≤ length own + length incoming + length keys
  unfolding unlinked
  unlinked_length part own incoming keys =
      let items : List (Cell K V) = set_cells cmp (taken_incoming part incoming) (taken_own part own) in
      let a = sets_length (map look_at keys) (filter (stays part) items) in
      let b = filter_length (stays part) items in
      let d = sets_length (taken_incoming part incoming) (taken_own part own) in
      let e = taken_length (λ _. true) part.marks_young incoming in
      let f = taken_length (is_wanted part) false own in
      let h = looks_length V keys in
      omega arith

  -- what is made step by step is the weave before its links
  pub assembled : (part : Part) (own incoming : List (Cell K V)) (keys : List K) (s4 c2 s3 looks cells s2 c1 s1 newer items : List (PlainCell K V)) →
      s4 ≡ c2 → as_run c2 ≡ set_cells cmp (as_run s3) (as_run cells) → s3 ≡ looks → as_run looks ≡ map look_at keys → as_run cells ≡ filter (stays part) (as_run s2) →
      s2 ≡ c1 → as_run c1 ≡ set_cells cmp (as_run s1) (as_run items) → s1 ≡ newer → as_run newer ≡ taken_incoming part incoming → as_run items ≡ taken_own part own →
      as_run s4 ≡ unlinked cmp part own incoming keys
  unfolding unlinked
  assembled part own incoming keys s4 c2 s3 looks cells s2 c1 s1 newer items e1 e2 e3 e4 e5 e6 e7 e8 e9 e10 =
      ap as_run e1 ∙ e2 ∙ ap (λ z. set_cells cmp z (as_run cells)) (ap as_run e3 ∙ e4)
      ∙ ap (set_cells cmp (map look_at keys)) (e5 ∙ ap (filter (stays part)) (ap as_run e6 ∙ e7 ∙ ap (λ z. set_cells cmp z (as_run items)) (ap as_run e8 ∙ e9) ∙ ap (set_cells cmp (taken_incoming part incoming)) e10))

  pub weave_of_unlinked : (part : Part) (own incoming : List (Cell K V)) (keys : List K) (cells : List (Cell K V)) → cells ≡ unlinked cmp part own incoming keys → relinked 0 cells ≡ weave cmp part own incoming keys
  unfolding weave
  weave_of_unlinked part own incoming keys cells e = ap (relinked 0) e

  pub few_cells : (part : Part) (own incoming cells : List (PlainCell K V)) (keys : List K) (most : ℕ) → as_run cells ≡ unlinked cmp part (as_run own) (as_run incoming) keys →
      length own + length incoming + length keys < most → length cells < most
  few_cells part own incoming cells keys most e h =
      let a = unlinked_length part (as_run own) (as_run incoming) keys in
      let b = ap length e in
      let c1 = run_length cells in let c2 = run_length own in let c3 = run_length incoming in
      omega arith

module _ {K V : Type 0} where
  -- a cell whose key is sampled, and one whose key is not
  pub sample_take : (i : ℕ) (c : Cell K V) (cells all : List (Cell K V)) (made now whole : List K) (k : K) → i % 8 ≡ 7 → all ≡ c ∷ cells → k ≡ key_of c → now ≡ made ++ (k ∷ []) →
      made ++ every_eighth (7 - i % 8) all ≡ whole → now ++ every_eighth (7 - (i + 1) % 8) cells ≡ whole
  sample_take i c cells all made now whole k r e f g h =
      let a : 7 - i % 8 ≡ 0 = omega arith in
      let b : 7 - (i + 1) % 8 ≡ 7 = omega arith in
      ap (λ m. now ++ every_eighth m cells) b ∙ ap (λ z. z ++ every_eighth 7 cells) (g ∙ ap (λ x. made ++ (x ∷ [])) f) ∙ append_assoc made (key_of c ∷ []) (every_eighth 7 cells)
      ∙ sym (ap (λ m. made ++ every_eighth m all) a ∙ ap (λ z. made ++ every_eighth 0 z) e) ∙ h

  pub sample_skip : (i : ℕ) (c : Cell K V) (cells all : List (Cell K V)) (made whole : List K) → (i % 8 ≡ 7 → ⊥) → all ≡ c ∷ cells →
      made ++ every_eighth (7 - i % 8) all ≡ whole → made ++ every_eighth (7 - (i + 1) % 8) cells ≡ whole
  sample_skip i c cells all made whole r e h =
      let a : 7 - i % 8 ≡ suc (7 - (i + 1) % 8) = omega arith in
      sym (ap (λ m. made ++ every_eighth m all) a ∙ ap (λ z. made ++ every_eighth (suc (7 - (i + 1) % 8)) z) e) ∙ h
