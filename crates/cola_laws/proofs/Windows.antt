-- A window from its begin to its end: an idle level begins it, and the build of its last mutation is a finished shadow.
use Rattle.std.proofs.Common.{◌≡◌, ℕ, ◌+◌, ◌*◌, ◌^◌, ◌≤◌, Bool, true, false, not, cond, List, [], ◌∷◌, length, refl, sym, subst, arith}
use Rattle.std.specs.declared.cmp.Ordering.{Ordering}
use Rattle.std.specs.Cmp.{IsTotalOrder}
use Rattle.std.specs.List.Sorted.{IsStrictlySortedBy}
use Rattle.cola_runs.specs.Cells.{Cell, IsRising, IsWellFormed, count_items}
use Rattle.cola_runs.specs.Seen.{Seen, holds, seen}
use Rattle.cola_runs.specs.Weave.{Part, bottom_items, weave}
use Rattle.cola_runs.specs.Steps.{Build, begun}
use Rattle.cola_runs.proofs.InOrder.{formed_weave}
use Rattle.cola_runs.proofs.Woven.{seen_weave}
use Rattle.cola_runs.specs.Weave.{own_items}
use Rattle.cola_runs.proofs.Counts.{items_weave, young_weave, keys_weave}
use Rattle.cola_laws.specs.Chain.{Level, upper_part, build_of, first_keys}
use Rattle.cola_laws.specs.Sound.{Carried, Keeps, IsUpperRun, IsFinished, IsIdle, IsAtRest, IsWorking, AreFew}
use Rattle.cola_laws.proofs.Values.{woven-carried, woven-keeps}
use Rattle.cola_laws.proofs.Sources.{cut-end, bottom-values}
use Rattle.cola_laws.proofs.Live.{bottom-length}

-- ---- the begin

module _ {K V : Type 0} where
  pub idle-build : (l : Level K V) → IsIdle l → build_of l ≡ begun
  idle-build l h = λ i. record { own = h.own_rests i; incoming = h.incoming_rests i; sampled = h.sampled_rests i; done = h.empty i }

  pub rests-idle : (l : Level K V) → IsIdle l → IsAtRest l
  rests-idle l h = record { own_rests = h.own_rests; incoming_rests = h.incoming_rests; sampled_rests = h.sampled_rests }

module _ {K V : Type 0} (cmp : K → K → Ordering) (part : Part) (own incoming : List (Cell K V)) (keys : List K) where
  -- a build that has not begun is under way over any sources
  pub begun-working : IsWorking cmp part own incoming keys 0 begun
  unfolding weave
  begun-working = record {
    under_way = record { own_within = omega arith; incoming_within = omega arith; sampled_within = omega arith; cut = refl };
    enough = omega arith;
    sampled_done = omega arith;
    done_consumed = omega arith;
  }

  pub idle-working : (l : Level K V) (least : ℕ) → IsIdle l → least ≡ 0 → IsWorking cmp part own incoming keys least (build_of l)
  idle-working l least h e =
      subst (λ (x : ℕ). IsWorking cmp part own incoming keys x (build_of l)) (sym e)
      (subst (λ (x : Build K V). IsWorking cmp part own incoming keys 0 x) (sym (idle-build l h)) begun-working)

  -- less is enough where more is
  pub working-less : (least less : ℕ) (p : Build K V) → less ≤ least → IsWorking cmp part own incoming keys least p → IsWorking cmp part own incoming keys less p
  working-less least less p h w = record { under_way = w.under_way; enough = let e = w.enough in omega arith; sampled_done = w.sampled_done; done_consumed = w.done_consumed }

  -- a build that has taken all its steps has emitted the weave
  pub working-end : (least : ℕ) (p : Build K V) → IsWorking cmp part own incoming keys least p → length own + length incoming + length keys ≤ least →
      p.done ≡ weave cmp part own incoming keys
  working-end least p w h =
      let e = w.enough in let a = w.under_way.own_within in let b = w.under_way.incoming_within in let c = w.under_way.sampled_within in
      cut-end cmp part own incoming keys p w.under_way (omega arith) (omega arith) (omega arith)

-- ---- the end

module _ {K V : Type 0} {cmp : K → K → Ordering} (o : IsTotalOrder cmp) (most : ℕ) (j : ℕ) (above own incoming : List (Cell K V)) (rising : IsRising cmp own)
    (keeps : (q : K) → Keeps (seen cmp q incoming) (seen cmp q above)) where
  weave-carried : (part : Part) (keys : List K) (q : K) → Carried part (seen cmp q above) (seen cmp q own) (seen cmp q (weave cmp part own incoming keys))
  weave-carried part keys q =
      subst (λ (x : Seen V). Carried part (seen cmp q above) (seen cmp q own) x) (sym (seen_weave o part own incoming keys rising q))
      (woven-carried part (seen cmp q own) (seen cmp q incoming) (seen cmp q above) (keeps q))

  weave-upper : (odd : Bool) (keys : List K) → IsStrictlySortedBy cmp keys → count_items incoming ≤ 2 ^ j → own_items (upper_part odd) own ≤ cond odd 1 2 * 2 ^ j →
      IsUpperRun cmp (not odd) j (weave cmp (upper_part odd) own incoming keys) keys
  weave-upper true keys sorted few few_own = record {
    formed = formed_weave o (upper_part true) own incoming rising keys;
    samples = keys_weave cmp (upper_part true) own incoming keys sorted;
    few_items = let a = items_weave cmp (upper_part true) own incoming keys in omega arith;
    few_young = let a = young_weave cmp (upper_part true) own incoming keys in omega arith;
  }
  weave-upper false keys sorted few few_own = record {
    formed = formed_weave o (upper_part false) own incoming rising keys;
    samples = keys_weave cmp (upper_part false) own incoming keys sorted;
    few_items = let a = items_weave cmp (upper_part false) own incoming keys in omega arith;
    few_young = let a = young_weave cmp (upper_part false) own incoming keys in omega arith;
  }

  weave-keeps : (odd : Bool) (keys : List K) → odd ≡ false → (q : K) → Keeps (seen cmp q own) (seen cmp q (weave cmp (upper_part odd) own incoming keys))
  weave-keeps odd keys e q =
      subst (λ (b : Bool). Keeps (seen cmp q own) (seen cmp q (weave cmp (upper_part b) own incoming keys))) (sym e)
      (subst (λ (x : Seen V). Keeps (seen cmp q own) x) (sym (seen_weave o (upper_part false) own incoming keys rising q)) (woven-keeps (seen cmp q own) (holds (seen cmp q incoming))))

  -- the whole weave of a level above the bottom is a finished shadow
  pub finish-upper : {X : Type 0} (odd : Bool) (x : X) (below : List X) (next : List (List (Cell K V))) → IsStrictlySortedBy cmp (first_keys next) →
      count_items incoming ≤ 2 ^ j → own_items (upper_part odd) own ≤ cond odd 1 2 * 2 ^ j →
      AreFew cmp most (weave cmp (upper_part odd) own incoming (first_keys next) ∷ next) →
      IsFinished cmp most odd j above own (weave cmp (upper_part odd) own incoming (first_keys next)) (x ∷ below) next
  finish-upper odd x below next sorted few few_own live = record {
    fit = weave-upper odd (first_keys next) sorted few few_own;
    carried = weave-carried (upper_part odd) (first_keys next);
    keeps = weave-keeps odd (first_keys next);
    few = live;
  }

  -- and so is that of the bottom
  pub finish-bottom : {X : Type 0} (odd : Bool) → AreFew cmp most (weave cmp bottom_items own incoming [] ∷ []) →
      IsFinished cmp most {X = X} odd j above own (weave cmp bottom_items own incoming []) [] []
  finish-bottom odd live =
      let formed : IsWellFormed cmp (weave cmp bottom_items own incoming []) = formed_weave o bottom_items own incoming rising [] in
      record {
        fit = record { formed = formed; values = bottom-values cmp own incoming; few = bottom-length o most (weave cmp bottom_items own incoming []) formed.rising (bottom-values cmp own incoming) live };
        carried = weave-carried bottom_items [];
        keeps = tt;
        few = live;
      }
