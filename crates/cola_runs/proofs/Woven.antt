-- The weave at a key is what the part makes of its sources there.
use Rattle.std.proofs.Common.{◌≡◌, false, List, refl, ap, ◌∙◌, Ordering, map, Option, Some, None}
use Rattle.std.specs.Cmp.{IsTotalOrder}
use Rattle.std.specs.List.{filter}
use Rattle.cola_runs.specs.Cells.{Item, Cell, IsRising}
use Rattle.cola_runs.specs.Seen.{Seen, seen, holds}
use Rattle.cola_runs.specs.Weave.{Part, own_at, kept_or_none, flagged_or_nothing, woven, taken_own, taken_incoming, stays, look_at, set_cells, unlinked, weave}
use Rattle.cola_runs.proofs.AtKey.{over, kept_seen, over_flagged, kept_flagged, seen_sets, seen_taken_all, seen_taken_own, seen_stays, seen_looks, seen_relinked}
use Rattle.cola_runs.proofs.InOrder.{rising_items}

kept_old : {V : Type 0} (part : Part) (i : Option (Item V)) → kept_seen part (flagged_or_nothing false i) ≡ flagged_or_nothing false (kept_or_none part i)
kept_old part None = refl
kept_old part (Some i) = refl

-- the incoming item over the own one, and then what is kept
combined : {V : Type 0} (part : Part) (own : Seen V) (incoming : Option (Item V)) →
    kept_seen part (over (flagged_or_nothing part.marks_young incoming) (flagged_or_nothing false (own_at part own))) ≡ woven part own incoming
combined part own None = kept_old part (own_at part own)
combined part own (Some i) = ap (kept_seen part) (over_flagged part.marks_young i _) ∙ kept_flagged part part.marks_young i

module _ {K V : Type 0} {cmp : K → K → Ordering} (o : IsTotalOrder cmp) (part : Part) (own incoming : List (Cell K V)) (keys : List K) (h : IsRising cmp own) where
  pub seen_unlinked : (q : K) → seen cmp q (unlinked cmp part own incoming keys) ≡ woven part (seen cmp q own) (holds (seen cmp q incoming))
  unfolding unlinked
  seen_unlinked q =
      let items : List (Cell K V) = set_cells cmp (taken_incoming part incoming) (taken_own part own) in
      seen_sets o q (map look_at keys) (filter (stays part) items)
      ∙ ap (λ s. over s (seen cmp q (filter (stays part) items))) (seen_looks o q keys)
      ∙ seen_stays o q part items (rising_items o part own incoming h)
      ∙ ap (kept_seen part) (seen_sets o q (taken_incoming part incoming) (taken_own part own))
      ∙ ap (λ s. kept_seen part (over s (seen cmp q (taken_own part own)))) (seen_taken_all o q part.marks_young incoming)
      ∙ ap (λ s. kept_seen part (over (flagged_or_nothing part.marks_young (holds (seen cmp q incoming))) s)) (seen_taken_own o q part own h)
      ∙ combined part (seen cmp q own) (holds (seen cmp q incoming))

  pub seen_weave : (q : K) → seen cmp q (weave cmp part own incoming keys) ≡ woven part (seen cmp q own) (holds (seen cmp q incoming))
  unfolding weave
  seen_weave q = seen_relinked o q 0 (unlinked cmp part own incoming keys) ∙ seen_unlinked q
