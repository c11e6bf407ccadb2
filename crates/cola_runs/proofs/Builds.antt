-- A build from its beginning to its end.
use Rattle.std.proofs.Common.{◌<◌, Some, slice_get, ◌≡◌, ℕ, suc, ◌+◌, ◌*◌, ◌≤◌, ◌^◌, Bool, true, false, cond, List, [], ◌∷◌, ◌++◌, refl, sym, ap, ◌∙◌, subst, Less, Ordering, length, drop, None, arith, length-append}
use Rattle.std.proofs.lemmas.Nat.{pow-add}
use Rattle.std.specs.Cmp.{IsTotalOrder}
use Rattle.std.specs.Option.{option_or}
use Rattle.std.specs.List.{AllByRecursion, filter}
use Rattle.std.specs.List.Sorted.{IsStrictlySortedBy}
use Rattle.cola_runs.specs.Cells.{Value, Tombstone, Cell, Entry, Look, link_of, place_cmp, IsRising, IsLinked, IsWellFormed, count_items, count_young, IsOldValue}
use Rattle.cola_runs.specs.Seen.{Seen, Nothing, Old, Young, seen, holds, answer}
use Rattle.cola_runs.specs.Weave.{Part, all_items, bottom_items, kept_or_none, woven, own_items, is_wanted, taken, taken_own, taken_incoming, stays, relinked, unlinked, weave}
use Rattle.cola_runs.specs.Steps.{Head, Own, Incoming, Sample, Take, Ended, rule, after, Build, begun, cells_left, step, steps, IsUnderWay}
use Rattle.cola_runs.proofs.Order.{by_bool}
use Rattle.cola_runs.proofs.Sets.{all_sets}
use Rattle.cola_runs.proofs.InOrder.{formed_weave}
use Rattle.cola_runs.proofs.Woven.{seen_weave}
use Rattle.cola_runs.proofs.Counts.{items_weave, young_weave, length_weave}
use Rattle.cola_runs.proofs.Stepping.{drop_all, items_append, young_append, step_is_advanced, steps_are_advanced}

-- ---- a list in front of another

module _ {K V : Type 0} (cmp : K → K → Ordering) where
  all_front : (P : Cell K V → Type 0) (xs ys : List (Cell K V)) → AllByRecursion P (xs ++ ys) → AllByRecursion P xs
  all_front P [] ys h = tt
  all_front P (x ∷ xs) ys h = (h.0, all_front P xs ys h.1)

  rising_front : (xs ys : List (Cell K V)) → IsRising cmp (xs ++ ys) → IsRising cmp xs
  unfolding IsStrictlySortedBy
  rising_front [] ys h = tt
  rising_front (x ∷ xs) ys h = (all_front (λ d. place_cmp cmp x d ≡ Less) xs ys h.0, rising_front xs ys h.1)

  linked_front : (n : ℕ) (xs ys : List (Cell K V)) → IsLinked n (xs ++ ys) → IsLinked n xs
  linked_front n [] ys h = tt
  linked_front n (Entry k i y l ∷ xs) ys h = (h.0, linked_front n xs ys h.1)
  linked_front n (Look k l ∷ xs) ys h = (h.0, linked_front (suc n) xs ys h.1)

  pub formed_front : (xs ys : List (Cell K V)) → IsWellFormed cmp (xs ++ ys) → IsWellFormed cmp xs
  formed_front xs ys h = record { rising = rising_front xs ys h.rising; linked = linked_front 0 xs ys h.linked }

module _ {K V : Type 0} (cmp : K → K → Ordering) (part : Part) (own incoming : List (Cell K V)) (keys : List K) where
  -- a build is under way at its beginning
  pub begun_is_under_way : IsUnderWay cmp part own incoming keys begun
  unfolding weave
  begun_is_under_way = record { own_within = omega arith; incoming_within = omega arith; sampled_within = omega arith; cut = refl }

  -- a build whose sources are used up has emitted the whole weave
  pub used_up : (p : Build K V) → IsUnderWay cmp part own incoming keys p → cells_left own incoming keys p ≡ 0 → p.done ≡ weave cmp part own incoming keys
  unfolding unlinked
  used_up p u e =
      let a : drop p.own own ≡ [] = drop_all p.own own (omega arith) in
      let b : drop p.incoming incoming ≡ [] = drop_all p.incoming incoming (omega arith) in
      let c : drop p.sampled keys ≡ [] = drop_all p.sampled keys (omega arith) in
      let cut = rw (a, b, c) at u.cut in
      sym (append_nil p.done) ∙ cut
    where
      append_nil : (xs : List (Cell K V)) → xs ++ [] ≡ xs
      append_nil [] = refl
      append_nil (x ∷ xs) = ap (λ z. x ∷ z) (append_nil xs)

  -- what was emitted is the front of the weave
  pub front_of_weave : (p : Build K V) → IsUnderWay cmp part own incoming keys p → (more : List (Cell K V)) × (p.done ++ more ≡ weave cmp part own incoming keys)
  front_of_weave p u = (_, u.cut)

  pub length_done : (p : Build K V) → IsUnderWay cmp part own incoming keys p → length p.done ≤ length (weave cmp part own incoming keys)
  length_done p u = let (more, e) = front_of_weave p u in let f = ap length e in let g = length-append p.done more in omega arith

  pub items_done : (p : Build K V) → IsUnderWay cmp part own incoming keys p → count_items p.done ≤ own_items part own + count_items incoming
  items_done p u = let (more, e) = front_of_weave p u in let f = ap count_items e in let g = items_append p.done more in let w = items_weave cmp part own incoming keys in omega arith

  pub young_done : (p : Build K V) → IsUnderWay cmp part own incoming keys p → count_young p.done ≤ cond part.marks_young (count_items incoming) 0
  young_done p u = let (more, e) = front_of_weave p u in let f = ap count_young e in let g = young_append p.done more in let w = young_weave cmp part own incoming keys in omega arith

module _ {K V : Type 0} {cmp : K → K → Ordering} (o : IsTotalOrder cmp) (part : Part) (own incoming : List (Cell K V)) (keys : List K) where
  -- what was emitted is a well-formed run
  pub formed_done : IsRising cmp own → (p : Build K V) → IsUnderWay cmp part own incoming keys p → IsWellFormed cmp p.done
  formed_done h p u =
      let (more, e) = front_of_weave cmp part own incoming keys p u in
      formed_front cmp p.done more (subst (IsWellFormed cmp) (sym e) (formed_weave o part own incoming h keys))

  -- as many steps as there are source cells build the whole weave
  pub built_whole : IsRising cmp own → IsRising cmp incoming → IsStrictlySortedBy cmp keys → (n : ℕ) → length own + length incoming + length keys ≤ n →
      (steps cmp part own incoming keys n begun).done ≡ weave cmp part own incoming keys
  built_whole h g k n e =
      let a = steps_are_advanced o part own incoming keys h g k n begun (begun_is_under_way cmp part own incoming keys) in
      let left = a.leaves in
      used_up cmp part own incoming keys (steps cmp part own incoming keys n begun) a.under_way (omega arith)

module _ {K V : Type 0} {cmp : K → K → Ordering} (o : IsTotalOrder cmp) (part : Part) (own incoming : List (Cell K V)) (keys : List K)
    (h : IsRising cmp own) (g : IsRising cmp incoming) (k : IsStrictlySortedBy cmp keys) (p : Build K V) (u : IsUnderWay cmp part own incoming keys p) where
  -- a rule that emits a cell does so before the whole weave is emitted
  pub has_room : (head : Head) (c : Cell K V) → rule cmp part (8 * p.sampled) (slice_get own p.own) (slice_get incoming p.incoming) (slice_get keys p.sampled) ≡ Take head (Some c) →
      length p.done < length (weave cmp part own incoming keys)
  unfolding step
  has_room head c e =
      let next = step_is_advanced o part own incoming keys h g k p u in
      let longer : length (step cmp part own incoming keys p).done ≡ suc (length p.done) = rw e (one_longer head) in
      let fits = length_done cmp part own incoming keys (step cmp part own incoming keys p) next.under_way in
      omega arith
    where
      behind : length (p.done ++ c ∷ []) ≡ suc (length p.done)
      behind = let f = length-append p.done (c ∷ []) in omega arith

      one_longer : (head : Head) → length (after (Take head (Some c)) p).done ≡ suc (length p.done)
      one_longer Own = behind
      one_longer Incoming = behind
      one_longer Sample = behind

  -- where no rule fits, the whole weave is emitted
  pub ended : rule cmp part (8 * p.sampled) (slice_get own p.own) (slice_get incoming p.incoming) (slice_get keys p.sampled) ≡ Ended → p.done ≡ weave cmp part own incoming keys
  unfolding step
  ended e =
      let next = step_is_advanced o part own incoming keys h g k p u in
      let still : step cmp part own incoming keys p ≡ p = rw e refl in
      let left = next.leaves in
      let same = ap (cells_left own incoming keys) still in
      used_up cmp part own incoming keys p u (omega arith)

-- ---- sizes

four_times : (j : ℕ) → 2 ^ (j + 2) ≡ 4 * 2 ^ j
four_times j = let e : 2 ^ (j + 2) ≡ 2 ^ j * 4 = pow-add 2 j 2 in omega arith

module _ {K V : Type 0} (cmp : K → K → Ordering) (part : Part) (own incoming : List (Cell K V)) (keys : List K) where
  -- the weave fits the slot of its level
  pub weave_fits : (j : ℕ) → IsStrictlySortedBy cmp keys → own_items part own ≤ 2 * 2 ^ j → count_items incoming ≤ 2 ^ j → length keys ≤ 2 ^ j →
      length (weave cmp part own incoming keys) ≤ 2 ^ (j + 2)
  weave_fits j h a b c = let e = length_weave cmp part own incoming keys h in let f = four_times j in omega arith

module _ {K V : Type 0} {cmp : K → K → Ordering} (o : IsTotalOrder cmp) (part : Part) (own incoming : List (Cell K V)) (keys : List K) where
  -- and so does what any number of steps has emitted of it
  pub steps_stay_within : (j : ℕ) → IsRising cmp own → IsRising cmp incoming → IsStrictlySortedBy cmp keys → own_items part own ≤ 2 * 2 ^ j → count_items incoming ≤ 2 ^ j → length keys ≤ 2 ^ j →
      (n : ℕ) → length (steps cmp part own incoming keys n begun).done ≤ 2 ^ (j + 2)
  steps_stay_within j h g k a b c n =
      let p : Build K V = steps cmp part own incoming keys n begun in
      let u : IsUnderWay cmp part own incoming keys p = (steps_are_advanced o part own incoming keys h g k n begun (begun_is_under_way cmp part own incoming keys)).under_way in
      let d = length_done cmp part own incoming keys p u in
      let e = weave_fits cmp part own incoming keys j k a b c in
      omega arith

-- ---- the values of the merge

module _ {K V : Type 0} {cmp : K → K → Ordering} (o : IsTotalOrder cmp) (own incoming : List (Cell K V)) (keys : List K) (h : IsRising cmp own) where
  -- where all items are taken, the weave has what the incoming run has of a key, and else what the own run has
  pub merge_answers : (q : K) → holds (seen cmp q (weave cmp all_items own incoming keys)) ≡ answer cmp q (incoming ∷ own ∷ [])
  merge_answers q = ap holds (seen_weave o all_items own incoming keys h q) ∙ go (seen cmp q own) (seen cmp q incoming)
    where
      go : (s t : Seen V) → holds (woven all_items s (holds t)) ≡ option_or (holds t) (option_or (holds s) None)
      go Nothing Nothing = refl
      go (Old (Value v)) Nothing = refl
      go (Old Tombstone) Nothing = refl
      go (Young (Value v)) Nothing = refl
      go (Young Tombstone) Nothing = refl
      go s (Old (Value v)) = refl
      go s (Old Tombstone) = refl
      go s (Young (Value v)) = refl
      go s (Young Tombstone) = refl

  -- the same at the bottom, but for tombstones
  pub bottom_answers : (q : K) → holds (seen cmp q (weave cmp bottom_items own incoming keys)) ≡ kept_or_none bottom_items (answer cmp q (incoming ∷ own ∷ []))
  bottom_answers q = ap holds (seen_weave o bottom_items own incoming keys h q) ∙ go (seen cmp q own) (seen cmp q incoming)
    where
      go : (s t : Seen V) → holds (woven bottom_items s (holds t)) ≡ kept_or_none bottom_items (option_or (holds t) (option_or (holds s) None))
      go Nothing Nothing = refl
      go (Old (Value v)) Nothing = refl
      go (Old Tombstone) Nothing = refl
      go (Young (Value v)) Nothing = refl
      go (Young Tombstone) Nothing = refl
      go s (Old (Value v)) = refl
      go s (Old Tombstone) = refl
      go s (Young (Value v)) = refl
      go s (Young Tombstone) = refl

-- an old item, of whatever kind
abbrev IsOldEntry : {K V : Type 0} → Cell K V → Type 0
IsOldEntry (Entry k i false l) = Unit {0}
IsOldEntry (Entry k i true l) = ⊥
IsOldEntry (Look k l) = ⊥

module _ {K V : Type 0} (cmp : K → K → Ordering) where
  old_taken : (wanted : Bool → Bool) (cells : List (Cell K V)) → AllByRecursion IsOldEntry (taken wanted false cells)
  old_taken wanted [] = tt
  old_taken wanted (Look k l ∷ cells) = old_taken wanted cells
  old_taken wanted (Entry k i y l ∷ cells) =
      let rest = old_taken wanted cells in
      by_bool (λ w. AllByRecursion IsOldEntry (cond w (Entry k i false 0 ∷ taken wanted false cells) (taken wanted false cells))) (tt, rest) rest (wanted y)

  values_stay : (cells : List (Cell K V)) → AllByRecursion IsOldEntry cells → AllByRecursion IsOldValue (filter (stays bottom_items) cells)
  values_stay [] h = tt
  values_stay (Look k l ∷ cells) h = absurd h.0
  values_stay (Entry k i true l ∷ cells) h = absurd h.0
  values_stay (Entry k (Value v) false l ∷ cells) h = (tt, values_stay cells h.1)
  values_stay (Entry k Tombstone false l ∷ cells) h = values_stay cells h.1

  linked_to_none : (cells : List (Cell K V)) → AllByRecursion IsOldValue cells → AllByRecursion (λ c. IsOldValue c × (link_of c ≡ 0)) (relinked 0 cells)
  linked_to_none [] h = tt
  linked_to_none (Look k l ∷ cells) h = absurd h.0
  linked_to_none (Entry k (Value v) true l ∷ cells) h = absurd h.0
  linked_to_none (Entry k Tombstone true l ∷ cells) h = absurd h.0
  linked_to_none (Entry k (Value v) false l ∷ cells) h = ((tt, refl), linked_to_none cells h.1)
  linked_to_none (Entry k Tombstone false l ∷ cells) h = absurd h.0

  -- a bottom's build has only old values, all with the link 0
  pub bottom_values : (own incoming : List (Cell K V)) → AllByRecursion (λ c. IsOldValue c × (link_of c ≡ 0)) (weave cmp bottom_items own incoming [])
  unfolding weave unlinked
  bottom_values own incoming =
      linked_to_none _ (values_stay _ (all_sets cmp IsOldEntry (taken_incoming bottom_items incoming) (taken_own bottom_items own) (old_taken (λ _. true) incoming) (old_taken (is_wanted bottom_items) own)))
