-- What is kept from one clock to the next, once each working level has taken its steps.
use Rattle.std.proofs.Common.{◌≡◌, inl, inr, ℕ, suc, ◌+◌, ◌*◌, ◌^◌, ◌≤◌, Bool, true, false, cond, List, [], ◌∷◌, refl, sym, ap, ◌∙◌, subst, arith, Option, Some, None}
use Rattle.std.proofs.lemmas.Bool.{cases_Bool, false≢true}
use Rattle.std.proofs.Math.Nat.{two-pow-succ}
use Rattle.std.specs.declared.cmp.Ordering.{Ordering}
use Rattle.std.specs.Cmp.{IsTotalOrder}
use Rattle.std.specs.List.Sorted.{IsStrictlySortedBy}
use Rattle.cola_clock.specs.Clock.{period, is_odd, is_before, is_over, works, window_step, flips, ends}
use Rattle.cola_clock.proofs.Laws.{is_over-suc, is_odd-next_stay, works-not_over, over-not_works, before-not_over, before-not_works, before_else, flips-over, ends-over, window-next, window_step-next, window_step-first}
use Rattle.cola_runs.specs.Cells.{Item, Cell, IsRising, count_items}
use Rattle.cola_runs.specs.Seen.{Seen, holds, seen, answer}
use Rattle.cola_runs.specs.Weave.{Part, bottom_items, woven, weave}
use Rattle.cola_runs.specs.Weave.{own_items}
use Rattle.cola_runs.proofs.Woven.{seen_weave}
use Rattle.cola_laws.proofs.Sources.{sample-sorted}
use Rattle.cola_laws.specs.Chain.{Level, part_of, upper_part, build_of, visibles, shadows, next_runs, first_keys, value_at}
use Rattle.cola_laws.specs.Sound.{Carried, IsSettled, Keeps, IsUpperRun, IsVisible, AreVisible, AreFew, IsFinished, AreKept, IsIdle, IsWorking, IsPaced, ArePaced}
use Rattle.cola_laws.specs.Mutation.{turned, left_window}
use Rattle.cola_laws.proofs.Values.{over_value, value_or, old_or_none, woven-settled}
use Rattle.cola_laws.proofs.Shadows.{AreCarried, shadows-answer}
use Rattle.cola_laws.proofs.Alike.{alike-next_runs}
use Rattle.cola_laws.proofs.After.{stays-below, stays-open, stays-over, stays-alike}
use Rattle.cola_laws.proofs.Windows.{rests-idle, idle-working, finish-upper, finish-bottom}

-- ---- the pace of a level that stays, and of all below it

-- a level that is before its window at the next clock, or begins it there, is before it now
was-before : (t j : ℕ) → flips t j ≡ false → works t (suc j) ≡ false → is_over (suc t) (suc j) ≡ false → is_before t (suc j) ≡ true
was-before t j stay rests open_yet = before_else t j rests (stays-over t j stay ∙ open_yet)

still-before : (t j : ℕ) → flips t j ≡ false → is_before (suc t) (suc j) ≡ true → is_before t (suc j) ≡ true
still-before t j stay before =
    elim (cases_Bool (works t (suc j))) [
      | inl work ↦ absurd (false≢true (sym (before-not_works (suc t) j before) ∙ window-next t j work (stays-open t j stay)))
      | inr rests ↦ was-before t j stay rests (before-not_over (suc t) j before)
    ]

module _ {K V : Type 0} (cmp : K → K → Ordering) where
  -- sources at the next clock, below a level that stays
  same-part : (t j : ℕ) (ls : List (Level K V)) → flips t (suc j) ≡ false → part_of (is_odd (period t (suc j))) ls ≡ part_of (is_odd (period (suc t) (suc j))) ls
  same-part t j ls stay = ap (λ (x : Bool). part_of x ls) (sym (is_odd-next_stay t (suc j) stay))

  pub same-next : (t j : ℕ) (ls : List (Level K V)) → flips t (suc j) ≡ false → next_runs t (suc j) ls ≡ next_runs (suc t) (suc j) ls
  same-next t j ls stay = alike-next_runs t (suc t) (suc j) ls ls (sym (is_odd-next_stay t (suc j) stay)) (stays-alike t (suc j) ls stay)

  -- a window that goes on: 28 steps more make up for one mutation more
  goes-on : (t j : ℕ) (above : List (Cell K V)) (l : Level K V) (below : List (Level K V)) → flips t j ≡ false → works t (suc j) ≡ true →
      IsPaced cmp 28 t (suc j) above l below →
      IsWorking cmp (part_of (is_odd (period (suc t) (suc j))) below) l.visible above (first_keys (next_runs (suc t) (suc j) below)) (28 * window_step (suc t) (suc j) + 0) (build_of l)
  goes-on t j above l below stay work h =
      let step : window_step (suc t) (suc j) ≡ suc (window_step t (suc j)) = window_step-next t j work (stays-open t j stay) in
      let e : 28 * window_step t (suc j) + 28 ≡ 28 * window_step (suc t) (suc j) + 0 = omega arith in
      subst (λ (p : Part). IsWorking cmp p l.visible above (first_keys (next_runs (suc t) (suc j) below)) (28 * window_step (suc t) (suc j) + 0) (build_of l)) (same-part t j below (stays-below t j stay))
      (subst (λ (xs : List (List (Cell K V))). IsWorking cmp (part_of (is_odd (period t (suc j))) below) l.visible above (first_keys xs) (28 * window_step (suc t) (suc j) + 0) (build_of l)) (same-next t j below (stays-below t j stay))
      (subst (λ (n : ℕ). IsWorking cmp (part_of (is_odd (period t (suc j))) below) l.visible above (first_keys (next_runs t (suc j) below)) n (build_of l)) e (h.inside work)))

  pub paced-stays : (t j : ℕ) (above : List (Cell K V)) (l : Level K V) (below : List (Level K V)) → flips t j ≡ false →
      IsPaced cmp 28 t (suc j) above l below → IsPaced cmp 0 (suc t) (suc j) above l below
  paced-stays t j above l below stay h = record {
    before = λ before. h.before (still-before t j stay before);
    inside = λ work. elim (cases_Bool (works t (suc j))) [
      | inl was ↦ goes-on t j above l below stay was h
      | inr rests ↦
          idle-working cmp _ l.visible above _ l (28 * window_step (suc t) (suc j) + 0) (h.before (was-before t j stay rests (works-not_over (suc t) j work)))
          (let e : window_step (suc t) (suc j) ≡ 0 = window_step-first t j rests work in omega arith)
    ];
    after = λ over. h.after (stays-over t j stay ∙ over);
  }

  pub all-paced-stay : (t j : ℕ) (above : List (Cell K V)) (ls : List (Level K V)) → flips t j ≡ false → ArePaced cmp 28 t (suc j) above ls → ArePaced cmp 0 (suc t) (suc j) above ls
  all-paced-stay t j above [] stay h = tt
  all-paced-stay t j above (l ∷ ls) stay h = (paced-stays t j above l ls stay h.0, all-paced-stay t (suc j) l.visible ls (stays-below t j stay) h.1)

  -- ---- the pace of a level that turns, and of one that leaves its window

  pub paced-turns : (t j : ℕ) (above above' : List (Cell K V)) (l : Level K V) (below below' : List (Level K V)) → flips t (suc j) ≡ true →
      IsPaced cmp 28 t (suc j) above l below → IsPaced cmp 0 (suc t) (suc j) above' (turned l) below'
  paced-turns t j above above' l below below' flip h =
      let over : is_over t (suc j) ≡ true = flips-over t j flip in
      let rest = h.after over in
      let idle : IsIdle (turned l) = record { empty = refl; own_rests = rest.own_rests; incoming_rests = rest.incoming_rests; sampled_rests = rest.sampled_rests } in
      record {
        before = λ before. idle;
        inside = λ work. idle-working cmp _ l.shadow above' _ (turned l) (28 * window_step (suc t) (suc j) + 0) idle
            (let e : window_step (suc t) (suc j) ≡ 0 = window_step-first t j (over-not_works t j over) work in omega arith);
        after = λ over. rests-idle (turned l) idle;
      }

  pub paced-leaves : (t j : ℕ) (above' : List (Cell K V)) (l : Level K V) (below' : List (Level K V)) → ends t (suc j) ≡ true → IsPaced cmp 0 (suc t) (suc j) above' (left_window l) below'
  paced-leaves t j above' l below' end =
      let over : is_over (suc t) (suc j) ≡ true = ends-over t j end in
      record {
        before = λ before. absurd (false≢true (sym (before-not_over (suc t) j before) ∙ over));
        inside = λ work. absurd (false≢true (sym (works-not_over (suc t) j work) ∙ over));
        after = λ over. record { own_rests = refl; incoming_rests = refl; sampled_rests = refl };
      }

-- ---- the end of a window

pub next-none : {X : Type 0} (b : Bool) → cond {A = List X} b [] [] ≡ []
next-none true = refl
next-none false = refl

holds-old : {V : Type 0} (a : Option (Item V)) → holds (old_or_none a) ≡ a
holds-old None = refl
holds-old (Some i) = refl

settled-old : {V : Type 0} (a : Option (Item V)) → IsSettled (old_or_none a)
settled-old None = tt
settled-old (Some i) = tt

module _ {K V : Type 0} (cmp : K → K → Ordering) (most : ℕ) where
  pub fit-rising : {X : Type 0} (odd : Bool) (j : ℕ) (run : List (Cell K V)) (below : List X) (keys : List K) → IsVisible cmp most odd j run below keys → IsRising cmp run
  fit-rising odd j run [] keys h = h.formed.rising
  fit-rising odd j run (x ∷ below) keys h = h.formed.rising

  pub own-few : (odd : Bool) (j : ℕ) (run : List (Cell K V)) (keys : List K) → IsUpperRun cmp odd j run keys → own_items (upper_part odd) run ≤ cond odd 1 2 * 2 ^ j
  own-few true j run keys h = let a = h.few_young in omega arith
  own-few false j run keys h = h.few_items

  pub even-few : (odd : Bool) (j : ℕ) (run : List (Cell K V)) (keys : List K) → odd ≡ false → IsUpperRun cmp odd j run keys → count_items run ≤ 2 ^ suc j
  even-few true j run keys e h = cc
  even-few false j run keys e h = let a = h.few_items in let b = two-pow-succ j in omega arith

  -- each finished shadow carries the run above, key by key
  pub kept-carried : (q : K) (t j : ℕ) (above : List (Cell K V)) (ls : List (Level K V)) → AreKept cmp most t j above ls → AreCarried cmp q t j (seen cmp q above) ls
  kept-carried q t j above [] h = tt
  kept-carried q t j above (l ∷ ls) h = ((λ over. (h.0.over over).carried q), kept-carried q t (suc j) l.visible ls h.1)

no-sorted : (K V : Type 0) (cmp : K → K → Ordering) (b : Bool) → IsStrictlySortedBy cmp (first_keys {V = V} (cond b [] []))
unfolding IsStrictlySortedBy
no-sorted K V cmp true = tt
no-sorted K V cmp false = tt

module _ {K V : Type 0} {cmp : K → K → Ordering} (o : IsTotalOrder cmp) (most : ℕ) where
  sorted-choice : (b : Bool) (shadow visible : List (Cell K V)) (flipping staying : List (List (Cell K V))) → (b ≡ true → IsRising cmp shadow) → IsRising cmp visible →
      IsStrictlySortedBy cmp (first_keys (cond b (shadow ∷ flipping) (visible ∷ staying)))
  sorted-choice true shadow visible flipping staying h k = sample-sorted o shadow (h refl)
  sorted-choice false shadow visible flipping staying h k = sample-sorted o visible k

  -- the keys that level j samples ascend
  pub next-sorted : (t j : ℕ) (above : List (Cell K V)) (ls : List (Level K V)) → AreVisible cmp most t (suc j) (visibles ls) → AreKept cmp most t (suc j) above ls →
      IsStrictlySortedBy cmp (first_keys (next_runs t j ls))
  next-sorted t j above [] v kept = no-sorted K V cmp (is_odd (period t j))
  next-sorted t j above (l ∷ ls) v kept =
      sorted-choice (is_odd (period t j)) l.shadow l.visible _ _
      (λ odd. fit-rising cmp most _ (suc j) l.shadow ls _ (kept.0.over (is_over-suc t j ∙ odd)).fit)
      (fit-rising cmp most _ (suc j) l.visible (visibles ls) _ v.0)

  -- a whole weave with its next runs answers as the runs above and the runs of the level did
  pub weave-answer : (q : K) (t j : ℕ) (above : List (Cell K V)) (l : Level K V) (ls : List (Level K V)) → IsRising cmp l.visible →
      l.shadow ≡ weave cmp (part_of (is_odd (period t j)) ls) l.visible above (first_keys (next_runs t j ls)) → AreKept cmp most t (suc j) l.visible ls →
      value_at cmp (above ∷ visibles (l ∷ ls)) q ≡ value_at cmp (shadows t j (l ∷ ls)) q
  weave-answer q t j above l ls rising e kept =
      let part : Part = part_of (is_odd (period t j)) ls in
      let whole : seen cmp q l.shadow ≡ woven part (seen cmp q l.visible) (holds (seen cmp q above)) =
      ap (λ (x : List (Cell K V)). seen cmp q x) e ∙ seen_weave o part l.visible above (first_keys (next_runs t j ls)) rising q in
      let carried : Carried part (old_or_none (holds (seen cmp q above))) (seen cmp q l.visible) (seen cmp q l.shadow) =
      subst (λ (x : Seen V). Carried part (old_or_none (holds (seen cmp q above))) (seen cmp q l.visible) x) (sym whole) (woven-settled part (seen cmp q l.visible) (seen cmp q above)) in
      value_or (holds (seen cmp q above)) (answer cmp q (visibles (l ∷ ls)))
      ∙ ap (λ (x : Option (Item V)). over_value x (value_at cmp (visibles (l ∷ ls)) q)) (sym (holds-old (holds (seen cmp q above))))
      ∙ sym (shadows-answer cmp q t j (old_or_none (holds (seen cmp q above))) l ls (settled-old (holds (seen cmp q above))) carried (kept-carried cmp most q t (suc j) l.visible ls kept))

  -- the whole weave of level j is a finished shadow, by whether anything lies below it
  pub weave-finished : (t j : ℕ) (above incoming : List (Cell K V)) (l : Level K V) (ls : List (Level K V)) →
      l.shadow ≡ weave cmp (part_of (is_odd (period t j)) ls) l.visible incoming (first_keys (next_runs t j ls)) →
      ((q : K) → Keeps (seen cmp q incoming) (seen cmp q above)) → count_items incoming ≤ 2 ^ j →
      AreVisible cmp most t j (visibles (l ∷ ls)) → AreKept cmp most t (suc j) l.visible ls → AreFew cmp most (shadows t j (l ∷ ls)) →
      IsFinished cmp most (is_odd (period t j)) j above l.visible l.shadow ls (next_runs t j ls)
  weave-finished t j above incoming l [] e keeps few v kept live =
      let none : next_runs t j [] ≡ [] = next-none (is_odd (period t j)) in
      let e' : l.shadow ≡ weave cmp bottom_items l.visible incoming [] = e ∙ ap (λ (xs : List (List (Cell K V))). weave cmp bottom_items l.visible incoming (first_keys xs)) none in
      subst (λ (xs : List (List (Cell K V))). IsFinished cmp most {X = Level K V} (is_odd (period t j)) j above l.visible l.shadow [] xs) (sym none)
      (subst (λ (x : List (Cell K V)). IsFinished cmp most {X = Level K V} (is_odd (period t j)) j above l.visible x [] []) (sym e')
      (finish-bottom o most j above l.visible incoming v.0.formed.rising keeps (is_odd (period t j))
      (subst (λ (x : List (Cell K V)). AreFew cmp most (x ∷ [])) e' (subst (λ (xs : List (List (Cell K V))). AreFew cmp most (l.shadow ∷ xs)) none live))))
  weave-finished t j above incoming l (m ∷ ms) e keeps few v kept live =
      subst (λ (x : List (Cell K V)). IsFinished cmp most (is_odd (period t j)) j above l.visible x (m ∷ ms) (next_runs t j (m ∷ ms))) (sym e)
      (finish-upper o most j above l.visible incoming (fit-rising cmp most _ j l.visible (visibles (m ∷ ms)) _ v.0) keeps (is_odd (period t j)) m ms (next_runs t j (m ∷ ms))
      (next-sorted t j l.visible (m ∷ ms) v.1 kept) few (own-few cmp most (is_odd (period t j)) j l.visible _ v.0)
      (subst (λ (x : List (Cell K V)). AreFew cmp most (x ∷ next_runs t j (m ∷ ms))) e live))
