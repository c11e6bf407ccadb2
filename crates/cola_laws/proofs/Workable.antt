-- The builds of a sound chain can be done: their sources are in order, no step overflows a slot, and each ends in its window.
use Rattle.std.proofs.Common.{◌≡◌, ℕ, suc, ◌+◌, ◌*◌, ◌^◌, ◌≤◌, Bool, true, false, List, [], ◌∷◌, length, refl, sym, ap, subst, arith}
use Rattle.std.specs.declared.cmp.Ordering.{Ordering}
use Rattle.std.specs.Cmp.{IsTotalOrder}
use Rattle.std.specs.List.{AllByRecursion}
use Rattle.std.specs.List.Sorted.{IsStrictlySortedBy}
use Rattle.cola_clock.specs.Clock.{period, is_odd}
use Rattle.cola_clock.proofs.Laws.{works-even}
use Rattle.cola_runs.specs.Cells.{Item, Cell, IsRising, count_items, IsOldValue}
use Rattle.cola_runs.specs.Seen.{answer}
use Rattle.cola_runs.specs.Weave.{Part, bottom_items, own_items, weave}
use Rattle.cola_runs.specs.Steps.{Build, consumed, IsUnderWay, IsAdvanced as IsStepped}
use Rattle.cola_runs.proofs.Counts.{length_counts}
use Rattle.cola_runs.proofs.Builds.{length_done, weave_fits}
use Rattle.cola_runs.proofs.InOrder.{formed_weave}
use Rattle.cola_runs.proofs.Stepping.{looks_done}
use Rattle.cola_laws.specs.Chain.{Level, part_of, upper_part, visibles, next_runs, first_keys}
use Rattle.cola_laws.specs.Sound.{IsUpperRun, AreVisible, AreFew, AreKept, IsWorking}
use Rattle.cola_laws.specs.Mutation.{IsBuildable, AreWorkable, new_run}
use Rattle.cola_laws.proofs.Sources.{bottom-values}
use Rattle.cola_laws.proofs.Live.{few-same, bottom-length}
use Rattle.cola_laws.proofs.Lengths.{room-below, visible-length, visible-length-of, visibles-length, next-length, window-total, slot-suc}
use Rattle.cola_laws.proofs.Next.{next-sorted, next-none, own-few, even-few, weave-answer, fit-rising}

module _ {K V : Type 0} {cmp : K → K → Ordering} (o : IsTotalOrder cmp) (part : Part) (own incoming : List (Cell K V)) (keys : List K) where
  -- no build overflows on the way: what it has emitted fits the slot
  pub done-fits : (j : ℕ) (p : Build K V) → IsBuildable cmp part j own incoming keys → IsUnderWay cmp part own incoming keys p → length p.done ≤ 2 ^ (j + 2)
  done-fits j p h u = let a = length_done cmp part own incoming keys p u in let b = h.fits in omega arith

  -- a build that goes on by n steps of the merge is a working one, so many steps further
  pub stepped-working : (least n : ℕ) (p r : Build K V) → IsRising cmp own → IsRising cmp incoming → IsStrictlySortedBy cmp keys → IsWorking cmp part own incoming keys least p → IsStepped cmp part own incoming keys n p r →
      IsWorking cmp part own incoming keys (consumed p + n) r
  stepped-working least n p r own_rises incoming_rises sorted w s =
      let a = w.under_way.own_within in let b = w.under_way.incoming_within in let c = w.under_way.sampled_within in
      let d = s.consumes in let e = s.emits in let f = w.done_consumed in
      let looks = looks_done cmp part own incoming keys sorted r s.under_way in
      let g = length_counts r.done in
      record { under_way = s.under_way; enough = omega arith; sampled_done = omega arith; done_consumed = omega arith }

module _ {K V : Type 0} {cmp : K → K → Ordering} (o : IsTotalOrder cmp) (most : ℕ) where
  own-double : (odd : Bool) (j : ℕ) (run : List (Cell K V)) (keys : List K) → IsUpperRun cmp odd j run keys → own_items (upper_part odd) run ≤ 2 * 2 ^ j
  own-double true j run keys h = let a = own-few cmp most true j run keys h in omega arith
  own-double false j run keys h = own-few cmp most false j run keys h

  -- the weave of level j fits its slot; at the bottom it has no more cells than there are live keys
  weave-fits : (t j : ℕ) (above : List (Cell K V)) (l : Level K V) (ls : List (Level K V)) → count_items above ≤ 2 ^ j →
      AreVisible cmp most t j (visibles (l ∷ ls)) → AreKept cmp most t (suc j) l.visible ls → AreFew cmp most (above ∷ visibles (l ∷ ls)) → most ≤ 2 ^ (j + suc (length ls) + 1) →
      length (weave cmp (part_of (is_odd (period t j)) ls) l.visible above (first_keys (next_runs t j ls))) ≤ 2 ^ (j + 2)
  weave-fits t j above l [] few v kept live room =
      let none : next_runs t j [] ≡ [] = next-none (is_odd (period t j)) in
      let whole : List (Cell K V) = weave cmp bottom_items l.visible above (first_keys (next_runs t j [])) in
      let l' : Level K V = record { visible = l.visible; shadow = whole; own = 0; incoming = 0; sampled = 0 } in
      let e : weave cmp bottom_items l.visible above [] ≡ whole = ap (λ (xs : List (List (Cell K V))). weave cmp bottom_items l.visible above (first_keys xs)) (sym none) in
      let live' : AreFew cmp most (whole ∷ next_runs t j []) =
      few-same cmp most (λ q. answer cmp q (above ∷ l.visible ∷ [])) (λ q. answer cmp q (whole ∷ next_runs t j [])) (λ q. weave-answer o most q t j above l' [] v.0.formed.rising refl tt) live in
      let n : length whole ≤ most = bottom-length o most whole (formed_weave o bottom_items l.visible above v.0.formed.rising (first_keys (next_runs t j []))).rising
      (subst (λ (x : List (Cell K V)). AllByRecursion IsOldValue x) e (bottom-values cmp l.visible above))
      (subst (λ (xs : List (List (Cell K V))). AreFew cmp most (whole ∷ xs)) none live') in
      let r : j + 1 + 1 ≡ j + 2 = omega arith in
      let m : most ≤ 2 ^ (j + 2) = subst (λ (x : ℕ). most ≤ 2 ^ x) r room in
      omega arith
  weave-fits t j above l (m ∷ ms) few v kept live room =
      let k = next-length cmp most t j l.visible (m ∷ ms) v.1 kept (room-below most j (length (m ∷ ms)) room) in
      let s = slot-suc j in
      weave_fits cmp (upper_part (is_odd (period t j))) l.visible above (first_keys (next_runs t j (m ∷ ms))) j (next-sorted o most t j l.visible (m ∷ ms) v.1 kept)
      (own-double (is_odd (period t j)) j l.visible _ v.0) few (omega arith)

  weave-buildable : (t j : ℕ) (above : List (Cell K V)) (l : Level K V) (ls : List (Level K V)) → IsRising cmp above → count_items above ≤ 2 ^ j →
      AreVisible cmp most t j (visibles (l ∷ ls)) → AreKept cmp most t (suc j) l.visible ls → AreFew cmp most (above ∷ visibles (l ∷ ls)) → most ≤ 2 ^ (j + suc (length ls) + 1) →
      IsBuildable cmp (part_of (is_odd (period t j)) ls) j l.visible above (first_keys (next_runs t j ls))
  weave-buildable t j above l ls rising few v kept live room = record {
    own_rising = fit-rising cmp most _ j l.visible (visibles ls) _ v.0;
    incoming_rising = rising;
    keys_rising = next-sorted o most t j l.visible ls v.1 kept;
    few_keys = let k = next-length cmp most t j l.visible ls v.1 kept (room-below most j (length ls) room) in let s = slot-suc j in omega arith;
    fits = weave-fits t j above l ls few v kept live room;
  }

  pub all-workable : (t j : ℕ) (above : List (Cell K V)) (ls : List (Level K V)) → AreVisible cmp most t j (above ∷ visibles ls) → AreFew cmp most (above ∷ visibles ls) →
      AreKept cmp most t (suc j) above ls → most ≤ 2 ^ (j + suc (length ls) + 1) → AreWorkable cmp t (suc j) above ls
  all-workable t j above [] v few kept room = tt
  all-workable t j above (l ∷ ls) v few kept room =
      let room' : most ≤ 2 ^ (suc j + suc (length ls) + 1) = room-below most j (suc (length ls)) room in (
        (λ work. record {
          buildable = weave-buildable t (suc j) above l ls (fit-rising cmp most _ j above (visibles (l ∷ ls)) _ v.0)
              (even-few cmp most (is_odd (period t j)) j above _ (works-even t j work) v.0) v.1 kept.1 few room';
          in_time = window-total j (length l.visible) (length above) (length (first_keys (next_runs t (suc j) ls)))
              (visible-length-of cmp most t (suc j) l ls v.1 room')
              (visible-length cmp most t j above (visibles (l ∷ ls)) v (subst (λ (x : ℕ). most ≤ 2 ^ (j + suc x + 1)) (sym (visibles-length cmp most (l ∷ ls))) room))
              (next-length cmp most t (suc j) l.visible ls v.1.1 kept.1 (room-below most (suc j) (length ls) room'));
        }),
        all-workable t (suc j) l.visible ls v.1 kept.0.few kept.1 room',
      )

  -- level 0 can be built whole with one new item, where a level lies below it
  pub top-buildable : (t : ℕ) (k : K) (item : Item V) (top m : Level K V) (ms : List (Level K V)) → AreVisible cmp most t 0 (visibles (top ∷ m ∷ ms)) →
      AreKept cmp most t 1 top.visible (m ∷ ms) → most ≤ 2 ^ (0 + suc (length (m ∷ ms)) + 1) →
      IsBuildable cmp (part_of (is_odd (period t 0)) (m ∷ ms)) 0 top.visible (new_run k item) (first_keys (next_runs t 0 (m ∷ ms)))
  unfolding IsStrictlySortedBy
  top-buildable t k item top m ms v kept room =
      let keys = next-length cmp most t 0 top.visible (m ∷ ms) v.1 kept (room-below most 0 (length (m ∷ ms)) room) in
      let sorted = next-sorted o most t 0 top.visible (m ∷ ms) v.1 kept in
      record {
        own_rising = fit-rising cmp most _ 0 top.visible (visibles (m ∷ ms)) _ v.0;
        incoming_rising = (tt, tt);
        keys_rising = sorted;
        few_keys = omega arith;
        fits = weave_fits cmp (upper_part (is_odd (period t 0))) top.visible (new_run k item) (first_keys (next_runs t 0 (m ∷ ms))) 0 sorted
            (own-double (is_odd (period t 0)) 0 top.visible _ v.0) (omega arith) (omega arith);
      }
