-- A step, and n steps, keep a build under way.
use Rattle.std.proofs.Common.{◌≡◌, ℕ, zero, suc, ◌+◌, ◌-◌, ◌*◌, ◌≤◌, ◌<◌, min, true, false, List, [], ◌∷◌, ◌++◌, refl, sym, ap, ◌∙◌, subst, Ordering, length, drop, Option, Some, None, arith, append_assoc, length-append}
use Rattle.std.specs.Option.{option_to_list}
use Rattle.std.specs.Cmp.{IsTotalOrder}
use Rattle.std.specs.List.{slice_get}
use Rattle.std.specs.List.Sorted.{IsStrictlySortedBy}
use Rattle.cola_runs.specs.Cells.{Cell, Entry, Look, IsRising, count_looks, count_items, count_young}
use Rattle.cola_runs.specs.Weave.{Part, relinked, unlinked, weave}
use Rattle.cola_runs.specs.Steps.{Head, Own, Incoming, Sample, Action, Take, Ended, rule, Build, consumed_from, after, consumed, cells_left, step, steps, IsUnderWay, IsAdvanced}
use Rattle.cola_runs.proofs.Counts.{looks_weave, keys_unlinked, looks_are_keys, relinked_keys}
use Rattle.cola_runs.proofs.Cuts.{TakesFirst, IsRight, rule_is_right}

-- ---- lists from a cursor on

module _ {X : Type 0} where
  pub get_from : (n : ℕ) (xs : List X) → slice_get xs n ≡ slice_get (drop n xs) 0
  get_from zero xs = refl
  get_from (suc n) [] = refl
  get_from (suc n) (x ∷ xs) = get_from n xs

  pub drop_one_more : (n : ℕ) (xs : List X) → drop 1 (drop n xs) ≡ drop (suc n) xs
  drop_one_more zero [] = refl
  drop_one_more zero (x ∷ xs) = refl
  drop_one_more (suc n) [] = refl
  drop_one_more (suc n) (x ∷ xs) = drop_one_more n xs

  pub sorted_from : (R : X → X → Ordering) (n : ℕ) (xs : List X) → IsStrictlySortedBy R xs → IsStrictlySortedBy R (drop n xs)
  unfolding IsStrictlySortedBy
  sorted_from R zero xs h = h
  sorted_from R (suc n) [] h = h
  sorted_from R (suc n) (x ∷ xs) h = sorted_from R n xs h.1

  pub drop_all : (n : ℕ) (xs : List X) → length xs ≤ n → drop n xs ≡ []
  drop_all zero [] h = refl
  drop_all zero (x ∷ xs) h = absurd (omega arith)
  drop_all (suc n) [] h = refl
  drop_all (suc n) (x ∷ xs) h = drop_all n xs (omega arith)

  pub left_from : (n : ℕ) (xs : List X) → length (drop n xs) + min n (length xs) ≡ length xs
  left_from zero xs = omega arith
  left_from (suc n) [] = omega arith
  left_from (suc n) (x ∷ xs) = let rest = left_from n xs in omega arith

-- ---- counts of what is emitted

module _ {K V : Type 0} where
  pub looks_append : (xs ys : List (Cell K V)) → count_looks (xs ++ ys) ≡ count_looks xs + count_looks ys
  looks_append [] ys = omega arith
  looks_append (Entry k i y l ∷ xs) ys = looks_append xs ys
  looks_append (Look k l ∷ xs) ys = let rest = looks_append xs ys in omega arith

  pub items_append : (xs ys : List (Cell K V)) → count_items (xs ++ ys) ≡ count_items xs + count_items ys
  items_append [] ys = omega arith
  items_append (Entry k i y l ∷ xs) ys = let rest = items_append xs ys in omega arith
  items_append (Look k l ∷ xs) ys = items_append xs ys

  pub young_append : (xs ys : List (Cell K V)) → count_young (xs ++ ys) ≡ count_young xs + count_young ys
  young_append [] ys = omega arith
  young_append (Entry k i true l ∷ xs) ys = let rest = young_append xs ys in omega arith
  young_append (Entry k i false l ∷ xs) ys = young_append xs ys
  young_append (Look k l ∷ xs) ys = young_append xs ys

append_nil : {X : Type 0} (xs : List X) → xs ++ [] ≡ xs
append_nil [] = refl
append_nil (x ∷ xs) = ap (λ z. x ∷ z) (append_nil xs)

-- ---- sums of two runs of steps

counted : (a b c l k m n : ℕ) → b ≡ a + min m l → c ≡ b + min n k → k ≡ l - m → c ≡ a + min (m + n) l
counted a b c l k m n e f g = omega arith

down : (l k j m n : ℕ) → k ≡ l - m → j ≡ k - n → j ≡ l - (m + n)
down l k j m n e f = omega arith

under : (a b c x y z : ℕ) → b + x ≤ a + y → c + y ≤ b + z → c + x ≤ a + z
under a b c x y z e f = omega arith

module _ {K V : Type 0} (cmp : K → K → Ordering) (part : Part) (own incoming : List (Cell K V)) (keys : List K) (keys_rise : IsStrictlySortedBy cmp keys) where
  -- the lookahead cells that were emitted are as many as the sample keys that were consumed
  pub looks_done : (p : Build K V) → IsUnderWay cmp part own incoming keys p → count_looks p.done ≡ p.sampled
  looks_done p u =
      let rest : List (Cell K V) = unlinked cmp part (drop p.own own) (drop p.incoming incoming) (drop p.sampled keys) in
      let a = ap count_looks u.cut in
      let b = looks_append p.done (relinked (count_looks p.done) rest) in
      let c = looks_weave cmp part own incoming keys keys_rise in
      let d = looks_are_keys (relinked (count_looks p.done) rest) ∙ ap length (relinked_keys (count_looks p.done) rest ∙ keys_unlinked cmp part (drop p.own own) (drop p.incoming incoming) (drop p.sampled keys) (sorted_from cmp p.sampled keys keys_rise)) in
      let e = left_from p.sampled keys in
      let f = u.sampled_within in
      omega arith

module _ {K V : Type 0} {cmp : K → K → Ordering} (o : IsTotalOrder cmp) (part : Part) (own incoming : List (Cell K V)) (keys : List K)
    (own_rises : IsRising cmp own) (incoming_rises : IsRising cmp incoming) (keys_rise : IsStrictlySortedBy cmp keys) where
  -- the action at the cursors of a build
  abbrev action : Build K V → Action K V
  action p = rule cmp part (8 * p.sampled) (slice_get own p.own) (slice_get incoming p.incoming) (slice_get keys p.sampled)

  action_is_right : (p : Build K V) → IsUnderWay cmp part own incoming keys p →
      IsRight cmp part (count_looks p.done) (drop p.own own) (drop p.incoming incoming) (drop p.sampled keys) (action p)
  action_is_right p u =
      let right = rule_is_right o part (count_looks p.done) (drop p.own own) (drop p.incoming incoming) (drop p.sampled keys)
      (sorted_from _ p.own own own_rises) (sorted_from _ p.incoming incoming incoming_rises) (sorted_from cmp p.sampled keys keys_rise) in
      let same : rule cmp part (8 * count_looks p.done) (slice_get (drop p.own own) 0) (slice_get (drop p.incoming incoming) 0) (slice_get (drop p.sampled keys) 0) ≡ action p =
      ap (λ n. rule cmp part (8 * n) (slice_get (drop p.own own) 0) (slice_get (drop p.incoming incoming) 0) (slice_get (drop p.sampled keys) 0)) (looks_done cmp part own incoming keys keys_rise p u)
      ∙ ap (λ z. rule cmp part (8 * p.sampled) z (slice_get (drop p.incoming incoming) 0) (slice_get (drop p.sampled keys) 0)) (sym (get_from p.own own))
      ∙ ap (λ z. rule cmp part (8 * p.sampled) (slice_get own p.own) z (slice_get (drop p.sampled keys) 0)) (sym (get_from p.incoming incoming))
      ∙ ap (λ z. rule cmp part (8 * p.sampled) (slice_get own p.own) (slice_get incoming p.incoming) z) (sym (get_from p.sampled keys)) in
      subst (IsRight cmp part (count_looks p.done) (drop p.own own) (drop p.incoming incoming) (drop p.sampled keys)) same right

  -- the cut, from what is left by lists to what is left by cursors
  cut_after : (done cells o1 o2 i1 i2 : List (Cell K V)) (k1 k2 : List K) → o1 ≡ o2 → i1 ≡ i2 → k1 ≡ k2 → (rest : List (Cell K V)) →
      rest ≡ cells ++ relinked (count_looks cells + count_looks done) (unlinked cmp part o1 i1 k1) → done ++ rest ≡ weave cmp part own incoming keys →
      (done ++ cells) ++ relinked (count_looks (done ++ cells)) (unlinked cmp part o2 i2 k2) ≡ weave cmp part own incoming keys
  cut_after done cells o1 o2 i1 i2 k1 k2 eo ei ek rest first cut =
      let counts : count_looks (done ++ cells) ≡ count_looks cells + count_looks done = (let e = looks_append done cells in omega arith) in
      rw (← eo, ← ei, ← ek, counts) (append_assoc done cells _ ∙ ap (λ z. done ++ z) (sym first) ∙ cut)

  -- a cell more in what is left
  there_left : {X : Type 0} (n : ℕ) (xs : List X) → n ≤ length xs → 0 < length (drop n xs) → suc n ≤ length xs
  there_left n xs h g = let e = left_from n xs in omega arith

  emitted_length : (done cells : List (Cell K V)) → length cells ≤ 1 → length (done ++ cells) ≤ suc (length done)
  emitted_length done cells h = let e = length-append done cells in omega arith

  at_most_one : (c : Option (Cell K V)) → length (option_to_list c) ≤ 1
  at_most_one None = omega arith
  at_most_one (Some c) = omega arith

  taken_is_advanced : (p : Build K V) → IsUnderWay cmp part own incoming keys p → (head : Head) (cells : List (Cell K V)) → length cells ≤ 1 →
      TakesFirst cmp part (count_looks p.done) (drop p.own own) (drop p.incoming incoming) (drop p.sampled keys) head cells →
      IsAdvanced cmp part own incoming keys 1 p (consumed_from head cells p)
  taken_is_advanced p u Own cells small r =
      let within : suc p.own ≤ length own = there_left p.own own u.own_within r.there in
      let a = u.incoming_within in let b = u.sampled_within in
      let e = emitted_length p.done cells small in
      record {
        under_way = record {
          own_within = within;
          incoming_within = a;
          sampled_within = b;
          cut = cut_after p.done cells _ _ _ _ _ _ (drop_one_more p.own own) refl refl _ r.first u.cut;
        };
        consumes = omega arith;
        leaves = omega arith;
        emits = omega arith;
        extends = (cells, refl);
        own_rises = omega arith;
        incoming_rises = omega arith;
        sampled_rises = omega arith;
      }
  taken_is_advanced p u Incoming cells small r =
      let within : suc p.incoming ≤ length incoming = there_left p.incoming incoming u.incoming_within r.there in
      let a = u.own_within in let b = u.sampled_within in
      let e = emitted_length p.done cells small in
      record {
        under_way = record {
          own_within = a;
          incoming_within = within;
          sampled_within = b;
          cut = cut_after p.done cells _ _ _ _ _ _ refl (drop_one_more p.incoming incoming) refl _ r.first u.cut;
        };
        consumes = omega arith;
        leaves = omega arith;
        emits = omega arith;
        extends = (cells, refl);
        own_rises = omega arith;
        incoming_rises = omega arith;
        sampled_rises = omega arith;
      }
  taken_is_advanced p u Sample cells small r =
      let within : suc p.sampled ≤ length keys = there_left p.sampled keys u.sampled_within r.there in
      let a = u.own_within in let b = u.incoming_within in
      let e = emitted_length p.done cells small in
      record {
        under_way = record {
          own_within = a;
          incoming_within = b;
          sampled_within = within;
          cut = cut_after p.done cells _ _ _ _ _ _ refl refl (drop_one_more p.sampled keys) _ r.first u.cut;
        };
        consumes = omega arith;
        leaves = omega arith;
        emits = omega arith;
        extends = (cells, refl);
        own_rises = omega arith;
        incoming_rises = omega arith;
        sampled_rises = omega arith;
      }

  -- a build that has no head left is done
  ended_is_advanced : (p : Build K V) → IsUnderWay cmp part own incoming keys p → (drop p.own own ≡ []) × (drop p.incoming incoming ≡ []) × (drop p.sampled keys ≡ []) →
      IsAdvanced cmp part own incoming keys 1 p p
  ended_is_advanced p u e =
      let a = ap length e.0 in let b = ap length e.1 in let c = ap length e.2 in
      let d = left_from p.own own in let f = left_from p.incoming incoming in let g = left_from p.sampled keys in
      let nothing_more : p.done ≡ p.done ++ [] = sym (append_nil p.done) in
      record {
        under_way = u;
        consumes = omega arith;
        leaves = omega arith;
        emits = omega arith;
        extends = ([], nothing_more);
        own_rises = omega arith;
        incoming_rises = omega arith;
        sampled_rises = omega arith;
      }

  after_is_advanced : (p : Build K V) → IsUnderWay cmp part own incoming keys p → (a : Action K V) →
      IsRight cmp part (count_looks p.done) (drop p.own own) (drop p.incoming incoming) (drop p.sampled keys) a → IsAdvanced cmp part own incoming keys 1 p (after a p)
  after_is_advanced p u (Take head c) r = taken_is_advanced p u head (option_to_list c) (at_most_one c) r
  after_is_advanced p u Ended r = ended_is_advanced p u r

  -- one step
  pub step_is_advanced : (p : Build K V) → IsUnderWay cmp part own incoming keys p → IsAdvanced cmp part own incoming keys 1 p (step cmp part own incoming keys p)
  unfolding step
  step_is_advanced p u = after_is_advanced p u (action p) (action_is_right p u)

  -- no step
  still : (p : Build K V) → IsUnderWay cmp part own incoming keys p → IsAdvanced cmp part own incoming keys 0 p p
  still p u =
      record {
        under_way = u;
        consumes = omega arith;
        leaves = omega arith;
        emits = omega arith;
        extends = ([], sym (append_nil p.done));
        own_rises = omega arith;
        incoming_rises = omega arith;
        sampled_rises = omega arith;
      }

  -- some steps and then some more
  pub joined : (m n : ℕ) (p q r : Build K V) → IsAdvanced cmp part own incoming keys m p q → IsAdvanced cmp part own incoming keys n q r → IsAdvanced cmp part own incoming keys (m + n) p r
  joined m n p q r a b =
      let c1 = a.consumes in let c2 = b.consumes in let l1 = a.leaves in let l2 = b.leaves in let e1 = a.emits in let e2 = b.emits in
      let o1 = a.own_rises in let o2 = b.own_rises in let i1 = a.incoming_rises in let i2 = b.incoming_rises in let s1 = a.sampled_rises in let s2 = b.sampled_rises in
      record {
        under_way = b.under_way;
        consumes = counted (consumed p) (consumed q) (consumed r) (cells_left own incoming keys p) (cells_left own incoming keys q) m n c1 c2 l1;
        leaves = down (cells_left own incoming keys p) (cells_left own incoming keys q) (cells_left own incoming keys r) m n l1 l2;
        emits = under (length p.done) (length q.done) (length r.done) (consumed p) (consumed q) (consumed r) e1 e2;
        extends = (a.extends.0 ++ b.extends.0, b.extends.1 ∙ ap (λ z. z ++ b.extends.0) a.extends.1 ∙ append_assoc p.done a.extends.0 b.extends.0);
        own_rises = omega (arith, o1, o2);
        incoming_rises = omega (arith, i1, i2);
        sampled_rises = omega (arith, s1, s2);
      }

  -- n steps keep a build under way, and consume exactly n source cells or all that are left
  pub steps_are_advanced : (n : ℕ) (p : Build K V) → IsUnderWay cmp part own incoming keys p → IsAdvanced cmp part own incoming keys n p (steps cmp part own incoming keys n p)
  steps_are_advanced zero p u = still p u
  steps_are_advanced (suc n) p u =
      let first = step_is_advanced p u in
      let next : Build K V = step cmp part own incoming keys p in
      let e : suc n ≡ 1 + n = omega arith in
      subst (λ m. IsAdvanced cmp part own incoming keys m p (steps cmp part own incoming keys n next)) (sym e)
      (joined 1 n p next (steps cmp part own incoming keys n next) first (steps_are_advanced n next first.under_way))
