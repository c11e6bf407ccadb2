-- What one step of a walk in any order of keys leaves, and what a walk gives.
use Rattle.std.proofs.Common.{◌≡◌, Bool, false, cond, T, List, [], ◌∷◌, ◌++◌, refl, sym, ap, ◌∙◌, Less, Ordering, filter, Some, None, Option, IsTrue}
use Rattle.std.proofs.lemmas.List.Elements.{filter-append}
use Rattle.std.specs.Option.{option_or}
use Rattle.std.specs.Ordering.{is_lt, is_eq, eq_by_cmp}
use Rattle.std.specs.Cmp.{IsTotalOrder, tied_itself, alike_right}
use Rattle.std.specs.FinMap.{find, is_sorted, IsAntisymmetric}
use Rattle.std.specs.FinMap.Entries.{same_entries}
use Rattle.std.specs.List.{AllByRecursion}
use Rattle.std.specs.List.Sorted.{IsStrictlySortedBy}
use Rattle.cola_runs.specs.Cells.{Cell, Entry, Look, key_of, IsRising}
use Rattle.cola_runs.specs.Seen.{Nothing, seen, holds, flagged, answer, value_of}
use Rattle.cola_pairs.specs.Live.{items, entries, values, placed, with_answer, live, below_end}
use Rattle.cola_pairs.specs.Walk.{AtHead, passed_item, first_passed, pass_key, pass_keys, KeysOnward, Closes, HeadsFrom, HeadsOut, WalksWithin, Ends, Takes}
use Rattle.cola_pairs.proofs.Order.{by_bool, tied_alike, all_change, is_less, equal, above_head, not_below_then, less_then, not_below_itself}
use Rattle.cola_pairs.proofs.Entries.{holds_flagged, find_with, sorted_with, below_found}
use Rattle.cola_pairs.proofs.LivePairs.{none_below, live_find, live_rises, keeps_ties}

module _ {K : Type 0} {cmp : K → K → Ordering} (o : IsTotalOrder cmp) where
  pub below_closes : (hi : Option K) → Closes cmp (below_end cmp hi)
  below_closes None x y e f = cc
  below_closes (Some hi) x y e f = not_below_then o x y hi f e

module _ {K V : Type 0} (cmp : K → K → Ordering) (P : List (Cell K V) → Type 0) (tail : (c : Cell K V) (cells : List (Cell K V)) → P (c ∷ cells) → P cells) (k : K) where
  -- what holds of the tail of each list that it holds of, it holds of what is left behind a key
  pub left_keeps : (run : List (Cell K V)) → P run → P (pass_key cmp k run)
  left_keeps [] h = h
  left_keeps (c ∷ cells) h = by_bool (λ b. P (cond b (pass_key cmp k cells) (c ∷ cells))) (left_keeps cells (tail c cells h)) h (is_eq (cmp k (key_of c)))

  pub all_left_keep : (rests : List (List (Cell K V))) → AllByRecursion P rests → AllByRecursion P (pass_keys cmp k rests)
  all_left_keep [] h = tt
  all_left_keep (run ∷ runs) h = (left_keeps run h.0, all_left_keep runs h.1)

module _ {K V : Type 0} {cmp : K → K → Ordering} (o : IsTotalOrder cmp) where
  -- ---- what is passed leaves all that the runs have of other keys

  seen_passed : (k q : K) → is_eq (cmp q k) ≡ false → (run : List (Cell K V)) → seen cmp q (pass_key cmp k run) ≡ seen cmp q run
  seen_passed k q n [] = refl
  seen_passed k q n (Look x l ∷ cells) =
      by_bool (λ b. seen cmp q (cond b (pass_key cmp k cells) (Look x l ∷ cells)) ≡ seen cmp q cells) (seen_passed k q n cells) refl (is_eq (cmp k x))
  seen_passed k q n (Entry x i y l ∷ cells) =
      by_bool (λ b. is_eq (cmp k x) ≡ b → seen cmp q (cond b (pass_key cmp k cells) (Entry x i y l ∷ cells)) ≡ cond (is_eq (cmp q x)) (flagged y i) (seen cmp q cells))
      (λ e. seen_passed k q n cells ∙ ap (λ b. cond b (flagged y i) (seen cmp q cells)) (sym (tied_alike o q k x e ∙ n)))
      (λ e. refl)
      (is_eq (cmp k x)) refl

  answer_passed : (k q : K) → is_eq (cmp q k) ≡ false → (rests : List (List (Cell K V))) → answer cmp q (pass_keys cmp k rests) ≡ answer cmp q rests
  answer_passed k q n [] = refl
  answer_passed k q n (run ∷ runs) = ap (λ s. option_or (holds s) (answer cmp q (pass_keys cmp k runs))) (seen_passed k q n run) ∙ ap (option_or (holds (seen cmp q run))) (answer_passed k q n runs)

  -- ---- behind what is passed all keys are above k

  all_above : (k : K) (c : Cell K V) (cells : List (Cell K V)) → cmp k (key_of c) ≡ Less → KeysOnward cmp (c ∷ cells) → AllByRecursion (λ d. cmp k (key_of d) ≡ Less) (c ∷ cells)
  all_above k c cells e h = (e, all_change (λ d p. less_then o k (key_of c) (key_of d) e p) cells h.0)

  head_behind : (k : K) (cells : List (Cell K V)) → AllByRecursion (λ d. is_lt (cmp (key_of d) k) ≡ false) cells → AtHead (λ h. is_lt (cmp h k) ≡ false) cells
  head_behind k [] h = tt
  head_behind k (d ∷ cells) h = h.0

  pub passed_above : (k : K) (run : List (Cell K V)) → KeysOnward cmp run → AtHead (λ h. is_lt (cmp h k) ≡ false) run → AllByRecursion (λ d. cmp k (key_of d) ≡ Less) (pass_key cmp k run)
  passed_above k [] h p = tt
  passed_above k (c ∷ cells) h p =
      by_bool (λ b. is_eq (cmp k (key_of c)) ≡ b → AllByRecursion (λ d. cmp k (key_of d) ≡ Less) (cond b (pass_key cmp k cells) (c ∷ cells)))
      (λ e. passed_above k cells h.1 (head_behind k cells (none_below o k c cells p h).1))
      (λ e. all_above k c cells (above_head o k (key_of c) p e) h)
      (is_eq (cmp k (key_of c))) refl

  pub rising_passed : (k : K) (run : List (Cell K V)) → IsRising cmp run → IsRising cmp (pass_key cmp k run)
  unfolding IsStrictlySortedBy
  rising_passed = left_keeps cmp (IsRising cmp) (λ c cells h. h.1)

  pub all_rising_passed : (k : K) (rests : List (List (Cell K V))) → AllByRecursion (IsRising cmp) rests → AllByRecursion (IsRising cmp) (pass_keys cmp k rests)
  unfolding IsStrictlySortedBy
  all_rising_passed = all_left_keep cmp (IsRising cmp) (λ c cells h. h.1)

  -- what is not above k is in no run that is above k
  unseen_above : (k q : K) → (cmp k q ≡ Less → ⊥) → (run : List (Cell K V)) → AllByRecursion (λ d. cmp k (key_of d) ≡ Less) run → seen cmp q run ≡ Nothing
  unseen_above k q n [] h = refl
  unseen_above k q n (Look x l ∷ cells) h = unseen_above k q n cells h.1
  unseen_above k q n (Entry x i y l ∷ cells) h =
      by_bool (λ b. is_eq (cmp q x) ≡ b → cond b (flagged y i) (seen cmp q cells) ≡ Nothing)
      (λ e. absurd (n (alike_right o q x k (equal _ e) ∙ h.0)))
      (λ e. unseen_above k q n cells h.1)
      (is_eq (cmp q x)) refl

  none_above : (k q : K) → (cmp k q ≡ Less → ⊥) → (rests : List (List (Cell K V))) → AllByRecursion (KeysOnward cmp) rests → HeadsFrom cmp k rests → answer cmp q (pass_keys cmp k rests) ≡ None
  none_above k q n [] h p = refl
  none_above k q n (run ∷ runs) h p =
      ap (λ s. option_or (holds s) (answer cmp q (pass_keys cmp k runs))) (unseen_above k q n (pass_key cmp k run) (passed_above k run h.0 p.0)) ∙ none_above k q n runs h.1 p.1

  -- ---- one step

  module _ (same : IsAntisymmetric cmp) (within : K → Bool) (k : K) (rests : List (List (Cell K V))) (onward : AllByRecursion (KeysOnward cmp) rests) (heads : HeadsFrom cmp k rests) where
    abbrev behind : List (K × V)
    behind = live cmp within (pass_keys cmp k rests)

    behind_find : (q : K) → find cmp q behind ≡ cond (within q) (value_of (answer cmp q (pass_keys cmp k rests))) None
    behind_find q = live_find o within (pass_keys cmp k rests) (keeps_ties o within rests same) q

    not_behind : (q : K) → (cmp k q ≡ Less → ⊥) → find cmp q behind ≡ None
    not_behind q n =
        behind_find q ∙ ap (λ a. cond (within q) (value_of a) None) (none_above k q n rests onward heads)
        ∙ by_bool (λ b. ◌≡◌ {A = Option V} (cond b None None) None) refl refl (within q)

    found_behind : (q : K) (v : V) → find cmp q behind ≡ Some v → cmp k q ≡ Less
    found_behind q v f =
        by_bool (λ b. is_lt (cmp k q) ≡ b → cmp k q ≡ Less) (λ e. is_less _ e)
        (λ e. let g = sym (not_behind q (λ l. let h = ap is_lt l in absurd (cc))) ∙ f in absurd (cc))
        (is_lt (cmp k q)) refl

    stepped_rises : T (is_sorted cmp (with_answer k (answer cmp k rests) behind))
    stepped_rises = sorted_with cmp k (answer cmp k rests) behind (below_found o k behind found_behind) (live_rises o within (pass_keys cmp k rests))

    or_none : (a : Option V) → option_or a None ≡ a
    or_none None = refl
    or_none (Some v) = refl

    stepped_find : IsTrue (within k) → (q : K) → find cmp q (live cmp within rests) ≡ find cmp q (with_answer k (answer cmp k rests) behind)
    stepped_find b q =
        live_find o within rests (keeps_ties o within rests same) q
        ∙ by_bool (λ t. eq_by_cmp cmp q k ≡ t → cond (within q) (value_of (answer cmp q rests)) None ≡ cond t (option_or (value_of (answer cmp k rests)) (find cmp q behind)) (find cmp q behind))
        (λ t. let e : q ≡ k = same q k (equal _ t) in
        rw e (ap (λ x. cond x (value_of (answer cmp k rests)) None) b
        ∙ sym (ap (option_or (value_of (answer cmp k rests))) (not_behind k (λ l. let h = ap is_lt l in let i = ap is_eq (tied_itself o k) in absurd (cc))) ∙ or_none (value_of (answer cmp k rests)))))
        (λ t. ap (λ a. cond (within q) (value_of a) None) (sym (answer_passed k q t rests)) ∙ sym (behind_find q))
        (eq_by_cmp cmp q k) refl
        ∙ sym (find_with cmp q k (answer cmp k rests) behind)

    pub live_step : IsTrue (within k) → live cmp within rests ≡ with_answer k (answer cmp k rests) behind
    live_step b = same_entries cmp o same (live cmp within rests) (with_answer k (answer cmp k rests) behind) (live_rises o within rests) stepped_rises (stepped_find b)

  -- ---- what a step passes

  -- the item of the key stands at the front, or nowhere
  pub front_is_seen : (k : K) (run : List (Cell K V)) → KeysOnward cmp run → AtHead (λ h. is_lt (cmp h k) ≡ false) run → passed_item cmp k run ≡ holds (seen cmp k run)
  front_is_seen k [] h p = refl
  front_is_seen k (Entry x i y l ∷ cells) h p =
      by_bool (λ b. is_eq (cmp k x) ≡ b → cond b (Some i) None ≡ holds (cond b (flagged y i) (seen cmp k cells)))
      (λ e. sym (holds_flagged y i))
      (λ e. ap holds (sym (unseen_above k k (not_below_itself o k) cells (all_above k (Entry x i y l) cells (above_head o k x p e) h).1)))
      (is_eq (cmp k x)) refl
  front_is_seen k (Look x l ∷ cells) h p =
      by_bool (λ b. is_eq (cmp k x) ≡ b → cond b (passed_item cmp k cells) None ≡ holds (seen cmp k cells))
      (λ e. front_is_seen k cells h.1 (head_behind k cells (none_below o k (Look x l) cells p h).1))
      (λ e. ap holds (sym (unseen_above k k (not_below_itself o k) cells (all_above k (Look x l) cells (above_head o k x p e) h).1)))
      (is_eq (cmp k x)) refl

  pub first_is_answer : (k : K) (rests : List (List (Cell K V))) → AllByRecursion (KeysOnward cmp) rests → HeadsFrom cmp k rests → first_passed cmp k rests ≡ answer cmp k rests
  first_is_answer k [] h p = refl
  first_is_answer k (run ∷ runs) h p =
      ap (λ x. option_or x (first_passed cmp k runs)) (front_is_seen k run h.0 p.0) ∙ ap (option_or (holds (seen cmp k run))) (first_is_answer k runs h.1 p.1)

  -- ---- the end

  module _ (within : K → Bool) (closes : Closes cmp within) where
    all_out : (run : List (Cell K V)) → KeysOnward cmp run → AtHead (λ h. within h ≡ false) run → AllByRecursion (λ d. within (key_of d) ≡ false) run
    all_out [] h p = tt
    all_out (c ∷ cells) h p = (p, all_change (λ d q. closes (key_of c) (key_of d) p q) cells h.0)

    none_kept : (run : List (Cell K V)) → AllByRecursion (λ d. within (key_of d) ≡ false) run → filter (λ e. within e.0) (items run) ≡ []
    none_kept [] h = refl
    none_kept (Look x l ∷ cells) h = none_kept cells h.1
    none_kept (Entry x i y l ∷ cells) h = ap (λ b. cond b ((x, i) ∷ filter (λ e. within e.0) (items cells)) (filter (λ e. within e.0) (items cells))) h.0 ∙ none_kept cells h.1

    no_entries : (rests : List (List (Cell K V))) → AllByRecursion (KeysOnward cmp) rests → HeadsOut within rests → filter (λ e. within e.0) (entries rests) ≡ []
    no_entries [] h p = refl
    no_entries (run ∷ runs) h p =
        filter-append (λ e. within e.0) (items run) (entries runs)
        ∙ ap (λ es. es ++ filter (λ e. within e.0) (entries runs)) (none_kept run (all_out run h.0 p.0)) ∙ no_entries runs h.1 p.1

    pub live_ends : (rests : List (List (Cell K V))) → AllByRecursion (KeysOnward cmp) rests → HeadsOut within rests → live cmp within rests ≡ []
    unfolding live
    live_ends rests h p = ap (λ es. values (placed cmp es)) (no_entries rests h p)

    pub walk_lives : IsAntisymmetric cmp → (rests : List (List (Cell K V))) (pairs : List (K × V)) → AllByRecursion (KeysOnward cmp) rests → WalksWithin cmp within rests pairs → pairs ≡ live cmp within rests
    walk_lives same rests pairs h (Ends p) = sym (live_ends rests h p)
    walk_lives same rests pairs h (Takes {left = left} k b p w e) =
        e ∙ ap (with_answer k (answer cmp k rests)) (walk_lives same (pass_keys cmp k rests) left (all_left_keep cmp (KeysOnward cmp) (λ c cells p. p.1) k rests h) w)
        ∙ sym (live_step same within k rests h p b)
