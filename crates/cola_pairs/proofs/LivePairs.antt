-- What the live pairs have of a key, and what they are of a sorted list and of runs from a key on.
use Rattle.std.proofs.Common.{◌≡◌, suc, Bool, true, false, cond, ◌&&◌, T, List, [], ◌∷◌, ◌++◌, refl, sym, ap, ◌∙◌, Less, Ordering, filter, drop, None, Option}
use Rattle.std.proofs.lemmas.List.Elements.{filter-append}
use Rattle.std.specs.Ordering.{is_lt, is_le, ordering_then, ordering_reverse, bool_cmp}
use Rattle.std.specs.Cmp.{IsTotalOrder, tied_back}
use Rattle.std.specs.FinMap.{find, is_sorted, IsAntisymmetric}
use Rattle.std.specs.FinMap.Entries.{find-where_key, is_sorted-where_key, same_entries}
use Rattle.std.specs.List.{AllByRecursion}
use Rattle.std.specs.List.Sorted.{IsStrictlySortedBy}
use Rattle.cola_runs.specs.Cells.{Cell, Entry, Look, key_of, is_look, place_cmp, IsRising}
use Rattle.cola_runs.specs.Seen.{answer, value_of}
use Rattle.cola_runs.specs.Search.{place}
use Rattle.cola_pairs.specs.Live.{items, entries, values, placed, live, rests_from, between, below_end, KeepsTies}
use Rattle.cola_pairs.specs.Walk.{KeysOnward}
use Rattle.cola_pairs.proofs.Order.{by_bool, by_ordering, turned_less, not_below_then, all_change}
use Rattle.cola_pairs.proofs.Entries.{find_entries, find_placed, find_values, sorted_placed, sorted_values}

module _ {K V : Type 0} {cmp : K → K → Ordering} (o : IsTotalOrder cmp) (within : K → Bool) (runs : List (List (Cell K V))) where
  pub live_find : KeepsTies cmp within → (q : K) → find cmp q (live cmp within runs) ≡ cond (within q) (value_of (answer cmp q runs)) None
  unfolding live
  live_find ties q =
      let found = filter (λ e. within e.0) (entries runs) in
      find_values o q (placed cmp found) (sorted_placed o found)
      ∙ ap value_of (find_placed o q found ∙ find-where_key cmp within q (λ x e. sym (ties q x e)) (entries runs) ∙ ap (λ x. cond (within q) x None) (find_entries cmp q runs))
      ∙ by_bool (λ b. value_of (cond b (answer cmp q runs) None) ≡ cond b (value_of (answer cmp q runs)) None) refl refl (within q)

  pub live_rises : T (is_sorted cmp (live cmp within runs))
  unfolding live
  live_rises = sorted_values cmp (placed cmp (filter (λ e. within e.0) (entries runs))) (sorted_placed o (filter (λ e. within e.0) (entries runs)))

  -- where equal keys alone tie, every test keeps ties
  pub keeps_ties : IsAntisymmetric cmp → KeepsTies cmp within
  keeps_ties same x y e = ap within (same x y e)

  pub live_entries : IsAntisymmetric cmp → (es : List (K × V)) → T (is_sorted cmp es) → ((q : K) → find cmp q es ≡ value_of (answer cmp q runs)) →
      filter (λ e. within e.0) es ≡ live cmp within runs
  live_entries same es h finds =
      same_entries cmp o same (filter (λ e. within e.0) es) (live cmp within runs) (is_sorted-where_key cmp within es h) live_rises
      (λ q. find-where_key cmp within q (λ x e. ap within (sym (same q x e))) es ∙ ap (λ x. cond (within q) x None) (finds q) ∙ sym (live_find (keeps_ties same) q))

module _ {K V : Type 0} {cmp : K → K → Ordering} (o : IsTotalOrder cmp) where
  -- a cell that stands before another has no key above that
  pub place_keys : (c d : Cell K V) → place_cmp cmp c d ≡ Less → is_lt (cmp (key_of d) (key_of c)) ≡ false
  place_keys c d p =
      by_ordering (λ r. cmp (key_of c) (key_of d) ≡ r → ordering_then r (bool_cmp (is_look c) (is_look d)) ≡ Less → is_lt (cmp (key_of d) (key_of c)) ≡ false)
      (λ f g. ap is_lt (turned_less o (key_of c) (key_of d) f))
      (λ f g. ap is_lt (tied_back o (key_of c) (key_of d) f))
      (λ f g. cc)
      (cmp (key_of c) (key_of d)) refl p

  pub rising_onward : (run : List (Cell K V)) → IsRising cmp run → KeysOnward cmp run
  unfolding IsStrictlySortedBy
  rising_onward [] h = tt
  rising_onward (c ∷ cells) h = (all_change (λ d p. place_keys c d p) cells h.0, rising_onward cells h.1)

  pub all_rising_onward : (runs : List (List (Cell K V))) → AllByRecursion (IsRising cmp) runs → AllByRecursion (KeysOnward cmp) runs
  all_rising_onward = all_change rising_onward

  -- in a run whose first key is not below q none is
  pub none_below : (q : K) (c : Cell K V) (cells : List (Cell K V)) → is_lt (cmp (key_of c) q) ≡ false → KeysOnward cmp (c ∷ cells) →
      AllByRecursion (λ d. is_lt (cmp (key_of d) q) ≡ false) (c ∷ cells)
  none_below q c cells e h = (e, all_change (λ d p. not_below_then o (key_of c) (key_of d) q p e) cells h.0)

module _ {K : Type 0} {cmp : K → K → Ordering} (o : IsTotalOrder cmp) where
  from_lower : (lo x : K) → is_lt (cmp x lo) ≡ false → is_le (cmp lo x) ≡ true
  from_lower lo x e =
      ap is_le (o.antisymm lo x)
      ∙ by_ordering (λ r. cmp x lo ≡ r → is_le (ordering_reverse r) ≡ true) (λ f. let g : true ≡ false = sym (ap is_lt f) ∙ e in cc) (λ f. refl) (λ f. refl) (cmp x lo) refl

  not_from : (lo x : K) → is_lt (cmp x lo) ≡ true → is_le (cmp lo x) ≡ false
  not_from lo x e =
      ap is_le (o.antisymm lo x)
      ∙ by_ordering (λ r. cmp x lo ≡ r → is_le (ordering_reverse r) ≡ false) (λ f. refl) (λ f. let g : false ≡ true = sym (ap is_lt f) ∙ e in cc) (λ f. let g : false ≡ true = sym (ap is_lt f) ∙ e in cc) (cmp x lo) refl

module _ {K V : Type 0} {cmp : K → K → Ordering} (o : IsTotalOrder cmp) (lo : K) (hi : Option K) where
  -- among keys from the lower end on the upper end alone decides
  all_from : (cells : List (Cell K V)) → AllByRecursion (λ d. is_lt (cmp (key_of d) lo) ≡ false) cells →
      filter (λ e. between cmp lo hi e.0) (items cells) ≡ filter (λ e. below_end cmp hi e.0) (items cells)
  all_from [] h = refl
  all_from (Look k l ∷ cells) h = all_from cells h.1
  all_from (Entry k i y l ∷ cells) h =
      ap (λ b. cond (b && below_end cmp hi k) ((k, i) ∷ filter (λ e. between cmp lo hi e.0) (items cells)) (filter (λ e. between cmp lo hi e.0) (items cells))) (from_lower o lo k h.0)
      ∙ ap (λ es. cond (below_end cmp hi k) ((k, i) ∷ es) es) (all_from cells h.1)

  run_from : (run : List (Cell K V)) → KeysOnward cmp run →
      filter (λ e. between cmp lo hi e.0) (items run) ≡ filter (λ e. below_end cmp hi e.0) (items (drop (place cmp lo run) run))
  run_from [] h = refl
  run_from (Look k l ∷ cells) h =
      by_bool (λ b. is_lt (cmp k lo) ≡ b → filter (λ e. between cmp lo hi e.0) (items cells) ≡ filter (λ e. below_end cmp hi e.0) (items (drop (cond b (suc (place cmp lo cells)) 0) (Look k l ∷ cells))))
      (λ e. run_from cells h.1)
      (λ e. all_from (Look k l ∷ cells) (none_below o lo (Look k l) cells e h))
      (is_lt (cmp k lo)) refl
  run_from (Entry k i y l ∷ cells) h =
      by_bool (λ b. is_lt (cmp k lo) ≡ b → filter (λ e. between cmp lo hi e.0) (items (Entry k i y l ∷ cells)) ≡ filter (λ e. below_end cmp hi e.0) (items (drop (cond b (suc (place cmp lo cells)) 0) (Entry k i y l ∷ cells))))
      (λ e. ap (λ b. cond (b && below_end cmp hi k) ((k, i) ∷ filter (λ e. between cmp lo hi e.0) (items cells)) (filter (λ e. between cmp lo hi e.0) (items cells))) (not_from o lo k e) ∙ run_from cells h.1)
      (λ e. all_from (Entry k i y l ∷ cells) (none_below o lo (Entry k i y l) cells e h))
      (is_lt (cmp k lo)) refl

  entries_from : (runs : List (List (Cell K V))) → AllByRecursion (KeysOnward cmp) runs →
      filter (λ e. between cmp lo hi e.0) (entries runs) ≡ filter (λ e. below_end cmp hi e.0) (entries (rests_from cmp lo runs))
  entries_from [] h = refl
  entries_from (run ∷ runs) h =
      filter-append (λ e. between cmp lo hi e.0) (items run) (entries runs)
      ∙ ap (λ es. es ++ filter (λ e. between cmp lo hi e.0) (entries runs)) (run_from run h.0)
      ∙ ap (λ es. filter (λ e. below_end cmp hi e.0) (items (drop (place cmp lo run) run)) ++ es) (entries_from runs h.1)
      ∙ sym (filter-append (λ e. below_end cmp hi e.0) (items (drop (place cmp lo run) run)) (entries (rests_from cmp lo runs)))

  pub live_from : (runs : List (List (Cell K V))) → AllByRecursion (IsRising cmp) runs →
      live cmp (between cmp lo hi) runs ≡ live cmp (below_end cmp hi) (rests_from cmp lo runs)
  unfolding live
  live_from runs h = ap (λ es. values (placed cmp es)) (entries_from runs (all_rising_onward o runs h))
