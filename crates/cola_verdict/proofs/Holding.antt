-- What holds of each value in runs holds of their live pairs.
use Rattle.std.proofs.Common.{◌≡◌, ℕ, Bool, true, cond, List, [], ◌∷◌, ◌++◌, filter, subst, refl, Some}
use Rattle.std.specs.Prelude.{⊤}
use Rattle.std.specs.List.{AllByRecursion}
use Rattle.std.specs.FinMap.Entries.{put, by_order}
use Rattle.cola_cell.specs.Held.{LawCell, Stamped}
use Rattle.cola_cell.specs.Order.{key_cmp}
use Rattle.cola_pairs.specs.Live.{items, entries, values, placed, with_answer, live}
use Rattle.cola_pairs.proofs.Order.{by_bool, by_ordering}
use Rattle.cola_runs.specs.Cells.{Item, Value, Tombstone, Entry, Look}
use Rattle.cola_spec.proofs.Entries.{same_key}
use Rattle.cola_verdict.specs.Tests.{live_pairs}

module _ (P : List ℕ × Stamped → Type 0) where
  -- it holds of the value of an item, where that has one
  abbrev pub ItemHolds : List ℕ → Item Stamped → Type 0
  ItemHolds k (Value v) = P (k, v)
  ItemHolds k Tombstone = ⊤

  abbrev pub CellHolds : LawCell → Type 0
  CellHolds (Entry k i y l) = ItemHolds k i
  CellHolds (Look k l) = ⊤

  abbrev EntryHolds : List ℕ × Item Stamped → Type 0
  EntryHolds e = ItemHolds e.0 e.1

  items-hold : (run : List LawCell) → AllByRecursion CellHolds run → AllByRecursion EntryHolds (items run)
  items-hold [] h = tt
  items-hold (Entry k i y l ∷ cells) h = (h.0, items-hold cells h.1)
  items-hold (Look k l ∷ cells) h = items-hold cells h.1

  append-holds : (es fs : List (List ℕ × Item Stamped)) → AllByRecursion EntryHolds es → AllByRecursion EntryHolds fs → AllByRecursion EntryHolds (es ++ fs)
  append-holds [] fs h k = k
  append-holds (e ∷ es) fs h k = (h.0, append-holds es fs h.1 k)

  entries-hold : (runs : List (List LawCell)) → AllByRecursion (AllByRecursion CellHolds) runs → AllByRecursion EntryHolds (entries runs)
  entries-hold [] h = tt
  entries-hold (run ∷ runs) h = append-holds (items run) (entries runs) (items-hold run h.0) (entries-hold runs h.1)

  filter-holds : (test : List ℕ × Item Stamped → Bool) (es : List (List ℕ × Item Stamped)) → AllByRecursion EntryHolds es → AllByRecursion EntryHolds (filter test es)
  filter-holds test [] h = tt
  filter-holds test (e ∷ es) h =
      by_bool (λ b. AllByRecursion EntryHolds (cond b (e ∷ filter test es) (filter test es))) (h.0, filter-holds test es h.1) (filter-holds test es h.1) (test e)

  put-holds : (k : List ℕ) (i : Item Stamped) (es : List (List ℕ × Item Stamped)) → ItemHolds k i → AllByRecursion EntryHolds es → AllByRecursion EntryHolds (put key_cmp k i es)
  put-holds k i [] here h = (here, tt)
  put-holds k i (e ∷ es) here h =
      by_ordering (λ r. key_cmp k e.0 ≡ r → AllByRecursion EntryHolds (by_order r ((k, i) ∷ e ∷ es) ((e.0, i) ∷ es) (e ∷ put key_cmp k i es)))
      (λ p. (here, h))
      (λ p. (subst (λ (x : List ℕ). ItemHolds x i) (same_key k e.0 p) here, h.1))
      (λ p. (h.0, put-holds k i es here h.1))
      (key_cmp k e.0) refl

  placed-hold : (es : List (List ℕ × Item Stamped)) → AllByRecursion EntryHolds es → AllByRecursion EntryHolds (placed key_cmp es)
  placed-hold [] h = tt
  placed-hold (e ∷ es) h = put-holds e.0 e.1 (placed key_cmp es) h.0 (placed-hold es h.1)

  answer-holds : (k : List ℕ) (i : Item Stamped) (pairs : List (List ℕ × Stamped)) → ItemHolds k i → AllByRecursion P pairs → AllByRecursion P (with_answer k (Some i) pairs)
  answer-holds k (Value v) pairs here h = (here, h)
  answer-holds k Tombstone pairs here h = h

  values-hold : (es : List (List ℕ × Item Stamped)) → AllByRecursion EntryHolds es → AllByRecursion P (values es)
  values-hold [] h = tt
  values-hold (e ∷ es) h = answer-holds e.0 e.1 (values es) h.0 (values-hold es h.1)

  pub pairs-hold : (runs : List (List LawCell)) → AllByRecursion (AllByRecursion CellHolds) runs → AllByRecursion P (live_pairs runs)
  unfolding live
  pairs-hold runs h =
      values-hold (placed key_cmp (filter (λ e. true) (entries runs)))
      (placed-hold (filter (λ e. true) (entries runs)) (filter-holds (λ e. true) (entries runs) (entries-hold runs h)))
