-- The clock counts modulo 2^(L+1): a sound chain is as sound at any clock that no level tells from its own.
use Rattle.std.proofs.Common.{◌≡◌, ℕ, suc, ◌+◌, ◌*◌, ◌^◌, ◌%◌, ◌≤◌, List, [], ◌∷◌, length, refl, sym, ap, ◌∙◌, subst, arith, Option}
use Rattle.std.specs.declared.cmp.Ordering.{Ordering}
use Rattle.cola_clock.specs.Clock.{period, is_odd, window_step, SameSchedule}
use Rattle.cola_clock.proofs.Wrap.{schedule-wrap}
use Rattle.cola_runs.specs.Cells.{Cell}
use Rattle.cola_runs.specs.Weave.{Part}
use Rattle.cola_laws.specs.Chain.{Level, part_of, build_of, next_runs, first_keys}
use Rattle.cola_laws.specs.Sound.{IsWorking, ArePaced, IsSound}
use Rattle.cola_laws.specs.Alike.{AreAlike}
use Rattle.cola_laws.proofs.Alike.{alike-part, alike-next_runs, alike-visible, alike-kept}

module _ {K V : Type 0} (bottom t u : ℕ) (same : (j : ℕ) → j ≤ bottom → SameSchedule t u j) where
  schedule-alike : (j : ℕ) (ls : List (Level K V)) → j + length ls ≤ suc bottom → AreAlike t u j ls ls
  schedule-alike j [] h = tt
  schedule-alike j (l ∷ ls) h =
      let s = same j (omega arith) in
      (record { parity = s.parity; visible = refl; over = s.over; shadow = λ over. refl }, schedule-alike (suc j) ls (omega arith))

  module _ (cmp : K → K → Ordering) (ahead : ℕ) where
    schedule-paced : (j : ℕ) (above : List (Cell K V)) (ls : List (Level K V)) → j + length ls ≤ suc bottom → ArePaced cmp ahead t j above ls → ArePaced cmp ahead u j above ls
    schedule-paced j above [] h p = tt
    schedule-paced j above (l ∷ ls) h p =
        let s = same j (omega arith) in
        let alike : AreAlike t u (suc j) ls ls = schedule-alike (suc j) ls (omega arith) in
        let e : 28 * window_step t j + ahead ≡ 28 * window_step u j + ahead = ap (λ (n : ℕ). 28 * n + ahead) s.step in (
          record {
            before = λ before. p.0.before (s.before ∙ before);
            inside = λ work.
                subst (λ (n : ℕ). IsWorking cmp (part_of (is_odd (period u j)) ls) l.visible above (first_keys (next_runs u j ls)) n (build_of l)) e
                (subst (λ (x : Part). IsWorking cmp x l.visible above (first_keys (next_runs u j ls)) (28 * window_step t j + ahead) (build_of l)) (alike-part t u (suc j) _ _ ls ls s.parity alike)
                (subst (λ (xs : List (List (Cell K V))). IsWorking cmp (part_of (is_odd (period t j)) ls) l.visible above (first_keys xs) (28 * window_step t j + ahead) (build_of l)) (alike-next_runs t u j ls ls s.parity alike)
                (p.0.inside (s.work ∙ work))));
            after = λ over. p.0.after (s.over ∙ over);
          },
          schedule-paced (suc j) l.visible ls (omega arith) p.1,
        )

schedule-turned : (t u j : ℕ) → SameSchedule u t j → SameSchedule t u j
schedule-turned t u j s = record {
  place = sym s.place;
  parity = sym s.parity;
  slot = sym s.slot;
  flip = sym s.flip;
  work = sym s.work;
  before = sym s.before;
  over = sym s.over;
  step = sym s.step;
  end = sym s.end;
}

module _ {K V : Type 0} (cmp : K → K → Ordering) (most : ℕ) where
  -- soundness reads of the clock only what the schedule says of the levels
  pub same-schedule : (t u : ℕ) (map : K → Option V) (top : Level K V) (ls : List (Level K V)) → ((j : ℕ) → j ≤ length ls → SameSchedule t u j) →
      IsSound cmp most t map top ls → IsSound cmp most u map top ls
  same-schedule t u map top ls same s =
      record {
        sound = record {
          visible = alike-visible cmp most t u 0 (top ∷ ls) (top ∷ ls) (schedule-alike (length ls) t u same 0 (top ∷ ls) (omega arith)) s.sound.visible;
          stands = s.sound.stands;
          paced = schedule-paced (length ls) t u same cmp 0 1 top.visible ls (omega arith) s.sound.paced;
          kept = alike-kept cmp most t u 1 top.visible top.visible ls ls refl (schedule-alike (length ls) t u same 1 ls (omega arith)) s.sound.kept;
          few = s.sound.few;
        };
        idle = s.idle;
      }

  -- the clock may be counted modulo 2^(L+1), where L is the number of the bottom
  pub clock-wraps : (t : ℕ) (map : K → Option V) (top : Level K V) (ls : List (Level K V)) → IsSound cmp most t map top ls → IsSound cmp most (t % 2 ^ suc (length ls)) map top ls
  clock-wraps t map top ls s = same-schedule t (t % 2 ^ suc (length ls)) map top ls (λ j h. schedule-turned t (t % 2 ^ suc (length ls)) j (schedule-wrap t (length ls) j h)) s
