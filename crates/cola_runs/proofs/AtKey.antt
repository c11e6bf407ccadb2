-- The weave at one key.
use Rattle.std.proofs.Common.{◌≡◌, ℕ, suc, Bool, true, false, cond, not, List, [], ◌∷◌, refl, sym, ap, ◌∙◌, subst, Less, Equal, Greater, Ordering, map, Some, None}
use Rattle.std.specs.Ordering.{is_eq, match_ordering, ordering_then}
use Rattle.std.specs.Cmp.{IsTotalOrder, alike_right}
use Rattle.std.specs.List.{AllByRecursion, filter}
use Rattle.std.specs.List.Sorted.{IsStrictlySortedBy}
use Rattle.cola_runs.specs.Cells.{Item, Value, Tombstone, Cell, Entry, Look, place_cmp, IsRising}
use Rattle.cola_runs.specs.Seen.{Seen, Nothing, Old, Young, flagged, seen, holds}
use Rattle.cola_runs.specs.Weave.{Part, kept, own_at, flagged_or_nothing, taken, taken_own, stays, look_at, relinked, set_cell, set_cells}
use Rattle.cola_runs.proofs.Order.{match_three, by_ordering, by_bool}

-- what is seen first, over what is seen below it
abbrev pub over : {V : Type 0} → Seen V → Seen V → Seen V
over Nothing s = s
over (Old i) s = Old i
over (Young i) s = Young i

-- what is kept of it
abbrev pub kept_seen : {V : Type 0} → Part → Seen V → Seen V
kept_seen part Nothing = Nothing
kept_seen part (Old i) = flagged_or_nothing false (kept part i)
kept_seen part (Young i) = flagged_or_nothing true (kept part i)

pub over_flagged : {V : Type 0} (y : Bool) (i : Item V) (s : Seen V) → over (flagged y i) s ≡ flagged y i
over_flagged true i s = refl
over_flagged false i s = refl

pub holds_flagged : {V : Type 0} (y : Bool) (i : Item V) → holds (flagged y i) ≡ Some i
holds_flagged true i = refl
holds_flagged false i = refl

pub kept_flagged : {V : Type 0} (part : Part) (y : Bool) (i : Item V) → kept_seen part (flagged y i) ≡ flagged_or_nothing y (kept part i)
kept_flagged part true i = refl
kept_flagged part false i = refl

less_entry : (r : Ordering) → ordering_then r Equal ≡ Less → r ≡ Less
less_entry Less f = refl
less_entry Equal f = cc
less_entry Greater f = cc

module _ {K V : Type 0} {cmp : K → K → Ordering} (o : IsTotalOrder cmp) (q : K) where
  entry_beside : (k k' : K) (i j : Item V) (x y : Bool) (l m : ℕ) (cells : List (Cell K V)) → cmp k k' ≡ Equal →
      seen cmp q (Entry k i x l ∷ cells) ≡ seen cmp q (Entry k i x l ∷ Entry k' j y m ∷ cells)
  entry_beside k k' i j x y l m cells e =
      subst (λ r. cond (is_eq (cmp q k)) (flagged x i) (seen cmp q cells) ≡ cond (is_eq (cmp q k)) (flagged x i) (cond (is_eq r) (flagged y j) (seen cmp q cells)))
      (alike_right o k k' q e) (go (is_eq (cmp q k)))
    where
      go : (b : Bool) → cond b (flagged x i) (seen cmp q cells) ≡ cond b (flagged x i) (cond b (flagged y j) (seen cmp q cells))
      go true = refl
      go false = refl

  -- two cells of different keys change places
  entry_across : (k k' : K) (i j : Item V) (x y : Bool) (l m : ℕ) (cells : List (Cell K V)) → cmp k k' ≡ Greater →
      seen cmp q (Entry k' j y m ∷ Entry k i x l ∷ cells) ≡ seen cmp q (Entry k i x l ∷ Entry k' j y m ∷ cells)
  entry_across k k' i j x y l m cells e = go (cmp q k) refl
    where
      go : (r : Ordering) → cmp q k ≡ r →
          cond (is_eq (cmp q k')) (flagged y j) (cond (is_eq r) (flagged x i) (seen cmp q cells)) ≡ cond (is_eq r) (flagged x i) (cond (is_eq (cmp q k')) (flagged y j) (seen cmp q cells))
      go Less f = refl
      go Greater f = refl
      go Equal f = rw (o.congr q k k' f ∙ e) refl

  -- a cell set into a list is seen before what stood there
  pub seen_set : (c : Cell K V) (cells : List (Cell K V)) → seen cmp q (set_cell cmp c cells) ≡ seen cmp q (c ∷ cells)
  seen_set c [] = refl
  seen_set (Look k l) (Look k' m ∷ cells) =
      match_three (λ z. seen cmp q z ≡ seen cmp q cells) (place_cmp {V = V} cmp (Look k l) (Look k' m)) (Look k l ∷ Look k' m ∷ cells) (Look k l ∷ cells) (Look k' m ∷ set_cell cmp (Look k l) cells)
      (λ e. refl) (λ e. refl) (λ e. seen_set (Look k l) cells)
  seen_set (Look k l) (Entry k' j y m ∷ cells) =
      let behind = ap (λ s. cond (is_eq (cmp q k')) (flagged y j) s) (seen_set (Look k l) cells) in
      by_ordering (λ r. seen cmp q (match_ordering (ordering_then r Greater) (Look k l ∷ Entry k' j y m ∷ cells) (Look k l ∷ cells) (Entry k' j y m ∷ set_cell cmp (Look k l) cells)) ≡ seen cmp q (Entry k' j y m ∷ cells))
      refl behind behind (cmp k k')
  seen_set (Entry k i x l) (Look k' m ∷ cells) =
      by_ordering (λ r. seen cmp q (match_ordering (ordering_then r Less) (Entry k i x l ∷ Look k' m ∷ cells) (Entry k i x l ∷ cells) (Look k' m ∷ set_cell cmp (Entry k i x l) cells)) ≡ seen cmp q (Entry k i x l ∷ cells))
      refl refl (seen_set (Entry k i x l) cells) (cmp k k')
  seen_set (Entry k i x l) (Entry k' j y m ∷ cells) =
      by_ordering (λ r. cmp k k' ≡ r → seen cmp q (match_ordering (ordering_then r Equal) (Entry k i x l ∷ Entry k' j y m ∷ cells) (Entry k i x l ∷ cells) (Entry k' j y m ∷ set_cell cmp (Entry k i x l) cells))
      ≡ seen cmp q (Entry k i x l ∷ Entry k' j y m ∷ cells))
      (λ e. refl) (λ e. entry_beside k k' i j x y l m cells e)
      (λ e. ap (λ s. cond (is_eq (cmp q k')) (flagged y j) s) (seen_set (Entry k i x l) cells) ∙ entry_across k k' i j x y l m cells e) (cmp k k') refl

  pub seen_sets : (cells base : List (Cell K V)) → seen cmp q (set_cells cmp cells base) ≡ over (seen cmp q cells) (seen cmp q base)
  seen_sets [] base = refl
  seen_sets (Look k l ∷ cells) base = seen_set (Look k l) (set_cells cmp cells base) ∙ seen_sets cells base
  seen_sets (Entry k i y l ∷ cells) base = seen_set (Entry k i y l) (set_cells cmp cells base) ∙
      by_bool (λ b. cond b (flagged y i) (seen cmp q (set_cells cmp cells base)) ≡ over (cond b (flagged y i) (seen cmp q cells)) (seen cmp q base))
      (sym (over_flagged y i (seen cmp q base))) (seen_sets cells base) (is_eq (cmp q k))

  -- no item of the key in cells that all stand above an item of it
  pub seen_above : (k : K) (i : Item V) (y : Bool) (l : ℕ) → cmp q k ≡ Equal → (cells : List (Cell K V)) →
      AllByRecursion (λ d. place_cmp cmp (Entry k i y l) d ≡ Less) cells → seen cmp q cells ≡ Nothing
  seen_above k i y l e [] h = refl
  seen_above k i y l e (Look k' m ∷ cells) h = seen_above k i y l e cells h.1
  seen_above k i y l e (Entry k' j x m ∷ cells) h =
      let less : cmp q k' ≡ Less = o.congr q k k' e ∙ less_entry (cmp k k') h.0 in
      rw less (seen_above k i y l e cells h.1)

  -- all items, marked anew
  pub seen_taken_all : (y : Bool) (cells : List (Cell K V)) → seen cmp q (taken (λ _. true) y cells) ≡ flagged_or_nothing y (holds (seen cmp q cells))
  seen_taken_all y [] = refl
  seen_taken_all y (Look k l ∷ cells) = seen_taken_all y cells
  seen_taken_all y (Entry k i x l ∷ cells) =
      by_bool (λ b. cond b (flagged y i) (seen cmp q (taken (λ _. true) y cells)) ≡ flagged_or_nothing y (holds (cond b (flagged x i) (seen cmp q cells))))
      (ap (flagged_or_nothing y) (sym (holds_flagged x i))) (seen_taken_all y cells) (is_eq (cmp q k))

  -- an own item of the key that is wanted is seen, and one that is not leaves nothing
  own_here : (only marks drops x : Bool) (k : K) (i : Item V) (cells : List (Cell K V)) → cmp q k ≡ Equal → seen cmp q cells ≡ Nothing →
      seen cmp q (cond (cond only x true) (Entry k i false 0 ∷ cells) cells) ≡ flagged_or_nothing false (own_at (record { only_young = only; marks_young = marks; drops_tombstones = drops }) (flagged x i))
  own_here true marks drops true k i cells e n = rw e refl
  own_here true marks drops false k i cells e n = n
  own_here false marks drops true k i cells e n = rw e refl
  own_here false marks drops false k i cells e n = rw e refl

  seen_taken_by : (only marks drops : Bool) (cells : List (Cell K V)) → IsRising cmp cells →
      seen cmp q (taken (λ y. cond only y true) false cells) ≡ flagged_or_nothing false (own_at (record { only_young = only; marks_young = marks; drops_tombstones = drops }) (seen cmp q cells))
  unfolding IsStrictlySortedBy
  seen_taken_by only marks drops [] h = refl
  seen_taken_by only marks drops (Look k l ∷ cells) h = seen_taken_by only marks drops cells h.1
  seen_taken_by only marks drops (Entry k i x l ∷ cells) h =
      let part : Part = record { only_young = only; marks_young = marks; drops_tombstones = drops } in
      let more : List (Cell K V) = taken (λ y. cond only y true) false cells in
      let rest = seen_taken_by only marks drops cells h.1 in
      by_ordering (λ r. cmp q k ≡ r → seen cmp q (cond (cond only x true) (Entry k i false 0 ∷ more) more) ≡ flagged_or_nothing false (own_at part (cond (is_eq r) (flagged x i) (seen cmp q cells))))
      (λ e. by_bool (λ w. seen cmp q (cond w (Entry k i false 0 ∷ more) more) ≡ flagged_or_nothing false (own_at part (seen cmp q cells))) (rw e rest) rest (cond only x true))
      (λ e. own_here only marks drops x k i more e (rest ∙ ap (λ s. flagged_or_nothing false (own_at part s)) (seen_above k i x l e cells h.0)))
      (λ e. by_bool (λ w. seen cmp q (cond w (Entry k i false 0 ∷ more) more) ≡ flagged_or_nothing false (own_at part (seen cmp q cells))) (rw e rest) rest (cond only x true))
      (cmp q k) refl

  -- the own items that are wanted, as old ones
  pub seen_taken_own : (part : Part) (cells : List (Cell K V)) → IsRising cmp cells → seen cmp q (taken_own part cells) ≡ flagged_or_nothing false (own_at part (seen cmp q cells))
  seen_taken_own part = seen_taken_by part.only_young part.marks_young part.drops_tombstones

  -- an item of the key in front is seen where it stays, and else leaves nothing
  kept_here : (part : Part) (k : K) (i : Item V) (y : Bool) (l : ℕ) (cells : List (Cell K V)) → cmp q k ≡ Equal → seen cmp q cells ≡ Nothing →
      seen cmp q (cond (stays part (Entry k i y l)) (Entry k i y l ∷ cells) cells) ≡ flagged_or_nothing y (kept part i)
  kept_here part k (Value v) y l cells e n = rw e refl
  kept_here part k Tombstone y l cells e n =
      by_bool (λ d. seen cmp q (cond (not d) (Entry k Tombstone y l ∷ cells) cells) ≡ flagged_or_nothing y (cond d None (Some Tombstone))) n (rw e refl) part.drops_tombstones

  pub seen_stays : (part : Part) (cells : List (Cell K V)) → IsRising cmp cells → seen cmp q (filter (stays part) cells) ≡ kept_seen part (seen cmp q cells)
  unfolding IsStrictlySortedBy
  seen_stays part [] h = refl
  seen_stays part (Look k l ∷ cells) h = seen_stays part cells h.1
  seen_stays part (Entry k i y l ∷ cells) h =
      let more : List (Cell K V) = filter (stays part) cells in
      let rest = seen_stays part cells h.1 in
      let aside : is_eq (cmp q k) ≡ false → seen cmp q (cond (stays part (Entry k i y l)) (Entry k i y l ∷ more) more) ≡ kept_seen part (seen cmp q cells) =
      λ e. by_bool (λ w. seen cmp q (cond w (Entry k i y l ∷ more) more) ≡ kept_seen part (seen cmp q cells)) (rw e rest) rest (stays part (Entry k i y l)) in
      by_ordering (λ r. cmp q k ≡ r → seen cmp q (cond (stays part (Entry k i y l)) (Entry k i y l ∷ more) more) ≡ kept_seen part (cond (is_eq r) (flagged y i) (seen cmp q cells)))
      (λ e. aside (ap is_eq e))
      (λ e. kept_here part k i y l more e (rest ∙ ap (kept_seen part) (seen_above k i y l e cells h.0)) ∙ sym (kept_flagged part y i))
      (λ e. aside (ap is_eq e))
      (cmp q k) refl

  pub seen_looks : (keys : List K) → seen cmp q (map (look_at {V = V}) keys) ≡ Nothing
  seen_looks [] = refl
  seen_looks (k ∷ keys) = seen_looks keys

  pub seen_relinked : (n : ℕ) (cells : List (Cell K V)) → seen cmp q (relinked n cells) ≡ seen cmp q cells
  seen_relinked n [] = refl
  seen_relinked n (Look k l ∷ cells) = seen_relinked (suc n) cells
  seen_relinked n (Entry k i y l ∷ cells) = ap (λ s. cond (is_eq (cmp q k)) (flagged y i) s) (seen_relinked n cells)
