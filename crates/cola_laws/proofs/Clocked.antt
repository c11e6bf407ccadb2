-- From the levels with all steps of one mutation done to the levels at the next clock: runs, shadows, pace and answers.
use Rattle.std.proofs.Common.{◌≡◌, inl, inr, ℕ, suc, ◌+◌, ◌*◌, ◌^◌, ◌≤◌, Bool, true, false, not, cond, List, [], ◌∷◌, length, refl, sym, ap, ◌∙◌, subst, arith}
use Rattle.std.proofs.lemmas.Bool.{cases_Bool, false≢true, and_from, not_from_false}
use Rattle.std.specs.declared.cmp.Ordering.{Ordering}
use Rattle.std.specs.Cmp.{IsTotalOrder}
use Rattle.cola_clock.specs.Clock.{period, is_odd, window_step, flips, ends}
use Rattle.cola_clock.proofs.Laws.{ends-suc, ends-works, is_odd-next_flip, is_odd-next_stay, flips-over, flips-not_over}
use Rattle.cola_runs.specs.Cells.{Cell}
use Rattle.cola_runs.specs.Seen.{seen, answer}
use Rattle.cola_runs.specs.Weave.{weave}
use Rattle.cola_laws.specs.Chain.{Level, part_of, build_of, visibles, shadows, next_runs, first_keys}
use Rattle.cola_laws.specs.Sound.{Keeps, KeepsAll, IsVisible, AreVisible, AreFew, IsFinished, AreKept, IsPaced, ArePaced}
use Rattle.cola_laws.specs.Mutation.{left_window, levels_after}
use Rattle.cola_laws.proofs.Alike.{alike-kept, alike-visible, finished-same}
use Rattle.cola_laws.proofs.After.{flips-odd, level_after-turns, level_after-leaves, levels_after-stays, stays-alike, visibles-after, next_runs-flip}
use Rattle.cola_laws.proofs.Windows.{working-end}
use Rattle.cola_laws.proofs.Live.{few-same}
use Rattle.cola_laws.proofs.Lengths.{room-below, visible-length, visible-length-of, visibles-length, next-length, window-total, ends-last}
use Rattle.cola_laws.proofs.Next.{all-paced-stay, paced-turns, paced-leaves, even-few, weave-answer, weave-finished, same-next, fit-rising}

-- where a level flips out of an even period, the window of the level below ends and that level stays
ends-even : (t j : ℕ) → flips t j ≡ true → is_odd (period t j) ≡ false → ends t (suc j) ≡ true
ends-even t j flip even = ends-suc t j ∙ and_from _ _ flip (not_from_false _ even)

-- ---- the pace

module _ {K V : Type 0} (cmp : K → K → Ordering) where
  pub next-paced : (t j : ℕ) (above above' : List (Cell K V)) (ls : List (Level K V)) → (flips t j ≡ false → above' ≡ above) →
      ArePaced cmp 28 t (suc j) above ls → ArePaced cmp 0 (suc t) (suc j) above' (levels_after t (suc j) ls)
  next-paced t j above above' [] same h = tt
  next-paced t j above above' (l ∷ ls) same h =
      elim (cases_Bool (flips t j)) [
        | inr stay ↦
            subst (λ (xs : List (Level K V)). ArePaced cmp 0 (suc t) (suc j) above' xs) (sym (levels_after-stays t j (l ∷ ls) stay))
            (subst (λ (x : List (Cell K V)). ArePaced cmp 0 (suc t) (suc j) x (l ∷ ls)) (sym (same stay)) (all-paced-stay cmp t j above (l ∷ ls) stay h))
        | inl flip ↦ elim (cases_Bool (is_odd (period t j))) [
          | inl odd ↦
              let turns : flips t (suc j) ≡ true = flips-odd t j flip ∙ odd in
              subst (λ (x : Level K V). ArePaced cmp 0 (suc t) (suc j) above' (x ∷ levels_after t (suc (suc j)) ls)) (sym (level_after-turns t (suc j) l turns)) (
                paced-turns cmp t j above above' l ls (levels_after t (suc (suc j)) ls) turns h.0,
                next-paced t (suc j) l.visible l.shadow ls (λ stay. absurd (false≢true (sym stay ∙ turns))) h.1,
              )
          | inr even ↦
              let stay : flips t (suc j) ≡ false = flips-odd t j flip ∙ even in
              let end : ends t (suc j) ≡ true = ends-even t j flip even in
              subst (λ (x : Level K V). ArePaced cmp 0 (suc t) (suc j) above' (x ∷ levels_after t (suc (suc j)) ls)) (sym (level_after-leaves t (suc j) l stay end))
              (subst (λ (xs : List (Level K V)). ArePaced cmp 0 (suc t) (suc j) above' (left_window l ∷ xs)) (sym (levels_after-stays t (suc j) ls stay))
              (paced-leaves cmp t j above' l ls end, all-paced-stay cmp t (suc j) l.visible ls stay h.1))
        ]
      ]

-- ---- the visible runs

module _ {K V : Type 0} (cmp : K → K → Ordering) (most : ℕ) where
  -- a run fit for a place among levels is fit for that place among their runs after the flips
  fit-after : (t i : ℕ) (odd odd' : Bool) (j : ℕ) (run : List (Cell K V)) (ls : List (Level K V)) (keys keys' : List K) → odd ≡ odd' → keys ≡ keys' →
      IsVisible cmp most odd j run ls keys → IsVisible cmp most odd' j run (visibles (levels_after t i ls)) keys'
  fit-after t i odd odd' j run [] keys keys' e k h = h
  fit-after t i odd odd' j run (l ∷ ls) keys keys' e k h =
      subst (λ (x : Bool). IsVisible cmp most x j run (visibles (levels_after t i (l ∷ ls))) keys') e
      (subst (λ (x : List K). IsVisible cmp most odd j run (visibles (levels_after t i (l ∷ ls))) x) k h)

  -- the run of level j at the next clock, and those below it where it flips
  visible-step : (t j : ℕ) (above : List (Cell K V)) (l : Level K V) (ls : List (Level K V)) →
      (flips t j ≡ true → IsFinished cmp most (is_odd (period t j)) j above l.visible l.shadow ls (next_runs t j ls)) →
      AreVisible cmp most t j (visibles (l ∷ ls)) → (flips t j ≡ true → AreVisible cmp most (suc t) (suc j) (visibles (levels_after t (suc j) ls))) →
      AreVisible cmp most (suc t) j (visibles (levels_after t j (l ∷ ls)))
  visible-step t j above l ls fin v rest =
      elim (cases_Bool (flips t j)) [
        | inr stay ↦
            subst (λ (xs : List (List (Cell K V))). AreVisible cmp most (suc t) j xs)
            (sym (visibles-after t j (l ∷ ls) ∙ ap (λ (x : Bool). cond x (shadows t j (l ∷ ls)) (visibles (l ∷ ls))) stay)) (
              subst (λ (x : Bool). IsVisible cmp most x j l.visible (visibles ls) (first_keys (visibles ls))) (sym (is_odd-next_stay t j stay)) v.0,
              alike-visible cmp most t (suc t) (suc j) ls ls (stays-alike t j ls stay) v.1,
            )
        | inl flip ↦ (
          subst (λ (x : Level K V). IsVisible cmp most (is_odd (period (suc t) j)) j x.visible (visibles (levels_after t (suc j) ls)) (first_keys (visibles (levels_after t (suc j) ls))))
              (sym (level_after-turns t j l flip))
              (fit-after t (suc j) (not (is_odd (period t j))) (is_odd (period (suc t) j)) j l.shadow ls (first_keys (next_runs t j ls)) (first_keys (visibles (levels_after t (suc j) ls)))
              (sym (is_odd-next_flip t j flip)) (ap (λ (xs : List (List (Cell K V))). first_keys xs) (next_runs-flip t j ls flip)) (fin flip).fit),
          rest flip,
        )
      ]

  pub next-visible : (t j : ℕ) (above : List (Cell K V)) (l : Level K V) (ls : List (Level K V)) →
      (flips t j ≡ true → IsFinished cmp most (is_odd (period t j)) j above l.visible l.shadow ls (next_runs t j ls)) →
      AreVisible cmp most t j (visibles (l ∷ ls)) → AreKept cmp most t (suc j) l.visible ls → AreVisible cmp most (suc t) j (visibles (levels_after t j (l ∷ ls)))
  next-visible t j above l [] fin v kept = visible-step t j above l [] fin v (λ flip. tt)
  next-visible t j above l (m ∷ ms) fin v kept =
      visible-step t j above l (m ∷ ms) fin v
      (λ flip. next-visible t (suc j) l.visible m ms (λ flip'. kept.0.over (flips-over t j flip')) v.1 kept.1)

-- ---- the finished shadows

module _ {K V : Type 0} {cmp : K → K → Ordering} (o : IsTotalOrder cmp) (most : ℕ) where
  -- at the end of a window
  pub window-end : (t j : ℕ) (above above' : List (Cell K V)) (l : Level K V) (ls : List (Level K V)) → flips t j ≡ true → is_odd (period t j) ≡ false →
      ((q : K) → Keeps (seen cmp q above) (seen cmp q above')) → AreVisible cmp most t j (above ∷ visibles (l ∷ ls)) → AreFew cmp most (above ∷ visibles (l ∷ ls)) →
      most ≤ 2 ^ (j + suc (suc (length ls)) + 1) → IsPaced cmp 28 t (suc j) above l ls → AreKept cmp most t (suc (suc j)) l.visible ls →
      IsFinished cmp most (is_odd (period t (suc j))) (suc j) above' l.visible l.shadow ls (next_runs t (suc j) ls)
  window-end t j above above' l ls flip even keeps v few room paced kept =
      let end : ends t (suc j) ≡ true = ends-even t j flip even in
      let w = paced.inside (ends-works t (suc j) end) in
      let room' : most ≤ 2 ^ (suc j + suc (length ls) + 1) = room-below most j (suc (length ls)) room in
      let a : length l.visible ≤ 2 ^ (suc j + 2) = visible-length-of cmp most t (suc j) l ls v.1 room' in
      let b : length above ≤ 2 ^ (j + 2) = visible-length cmp most t j above (visibles (l ∷ ls)) v
      (subst (λ (x : ℕ). most ≤ 2 ^ (j + suc x + 1)) (sym (visibles-length cmp most (l ∷ ls))) room) in
      let c : 8 * length (first_keys (next_runs t (suc j) ls)) ≤ 2 ^ (suc (suc j) + 2) = next-length cmp most t (suc j) l.visible ls v.1.1 kept (room-below most (suc j) (length ls) room') in
      let total = window-total j (length l.visible) (length above) (length (first_keys (next_runs t (suc j) ls))) a b c in
      let last = ends-last t (suc j) end in
      let whole : l.shadow ≡ weave cmp (part_of (is_odd (period t (suc j))) ls) l.visible above (first_keys (next_runs t (suc j) ls)) =
      working-end cmp (part_of (is_odd (period t (suc j))) ls) l.visible above (first_keys (next_runs t (suc j) ls)) (28 * window_step t (suc j) + 28) (build_of l) w (omega arith) in
      let live : AreFew cmp most (shadows t (suc j) (l ∷ ls)) =
      few-same cmp most (λ q. answer cmp q (above ∷ visibles (l ∷ ls))) (λ q. answer cmp q (shadows t (suc j) (l ∷ ls)))
      (λ q. weave-answer o most q t (suc j) above l ls (fit-rising cmp most _ (suc j) l.visible (visibles ls) _ v.1.0) whole kept) few in
      weave-finished o most t (suc j) above' above l ls whole keeps (even-few cmp most (is_odd (period t j)) j above _ even v.0) v.1 kept live

  pub next-kept : (t j : ℕ) (above above' : List (Cell K V)) (ls : List (Level K V)) →
      (flips t j ≡ false → above' ≡ above) → (flips t j ≡ true → KeepsAll (is_odd (period t j)) ls ((q : K) → Keeps (seen cmp q above) (seen cmp q above'))) →
      AreVisible cmp most t j (above ∷ visibles ls) → AreFew cmp most (above ∷ visibles ls) → most ≤ 2 ^ (j + suc (length ls) + 1) →
      ArePaced cmp 28 t (suc j) above ls → AreKept cmp most t (suc j) above ls → AreKept cmp most (suc t) (suc j) above' (levels_after t (suc j) ls)
  next-kept t j above above' [] same keeps v few room paced kept = tt
  next-kept t j above above' (l ∷ ls) same keeps v few room paced kept =
      elim (cases_Bool (flips t j)) [
        | inr stay ↦
            subst (λ (xs : List (Level K V)). AreKept cmp most (suc t) (suc j) above' xs) (sym (levels_after-stays t j (l ∷ ls) stay))
            (alike-kept cmp most t (suc t) (suc j) above above' (l ∷ ls) (l ∷ ls) (sym (same stay)) (stays-alike t j (l ∷ ls) stay) kept)
        | inl flip ↦ elim (cases_Bool (is_odd (period t j))) [
          | inl odd ↦
              let turns : flips t (suc j) ≡ true = flips-odd t j flip ∙ odd in
              let fin = kept.0.over (flips-over t j turns) in
              subst (λ (x : Level K V). AreKept cmp most (suc t) (suc j) above' (x ∷ levels_after t (suc (suc j)) ls)) (sym (level_after-turns t (suc j) l turns)) (
                record {
                  over = λ over. absurd (false≢true (sym (flips-not_over t j turns) ∙ over));
                  few = subst (λ (xs : List (List (Cell K V))). AreFew cmp most (l.shadow ∷ xs)) (next_runs-flip t (suc j) ls turns) fin.few;
                },
                next-kept t (suc j) l.visible l.shadow ls (λ stay. absurd (false≢true (sym stay ∙ turns))) (λ flip'. fin.keeps) v.1 kept.0.few
                    (room-below most j (suc (length ls)) room) paced.1 kept.1,
              )
          | inr even ↦
              let stay : flips t (suc j) ≡ false = flips-odd t j flip ∙ even in
              let end : ends t (suc j) ≡ true = ends-even t j flip even in
              subst (λ (x : Level K V). AreKept cmp most (suc t) (suc j) above' (x ∷ levels_after t (suc (suc j)) ls)) (sym (level_after-leaves t (suc j) l stay end))
              (subst (λ (xs : List (Level K V)). AreKept cmp most (suc t) (suc j) above' (left_window l ∷ xs)) (sym (levels_after-stays t (suc j) ls stay)) (
                record {
                  over = λ over.
                      finished-same cmp most (is_odd (period t (suc j))) (is_odd (period (suc t) (suc j))) (suc j) above' above' l.visible l.visible l.shadow l.shadow ls
                      (next_runs t (suc j) ls) (next_runs (suc t) (suc j) ls) (sym (is_odd-next_stay t (suc j) stay)) refl refl refl (same-next cmp t j ls stay)
                      (window-end t j above above' l ls flip even (keeps flip even) v few room paced.0 kept.1);
                  few = kept.0.few;
                },
                alike-kept cmp most t (suc t) (suc (suc j)) l.visible l.visible ls ls refl (stays-alike t (suc j) ls stay) kept.1,
              ))
        ]
      ]
