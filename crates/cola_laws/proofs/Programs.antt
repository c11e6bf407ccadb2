-- The plain program does what the laws speak of; whole runs of it from a sound chain, and the chain with nothing in it.
use Rattle.std.proofs.Common.{◌≡◌, inl, inr, ℕ, suc, ◌+◌, ◌%◌, ◌^◌, ◌≤◌, true, false, List, [], ◌∷◌, length, refl, sym, ap, ◌∙◌, subst, arith, Option}
use Rattle.std.proofs.lemmas.Bool.{cases_Bool}
use Rattle.std.specs.declared.cmp.Ordering.{Ordering}
use Rattle.std.specs.Cmp.{IsTotalOrder}
use Rattle.cola_clock.specs.Clock.{period, is_odd, works}
use Rattle.cola_runs.specs.Cells.{Item, Cell}
use Rattle.cola_runs.specs.Steps.{Build, steps}
use Rattle.cola_runs.proofs.Stepping.{steps_are_advanced}
use Rattle.cola_laws.specs.Chain.{Level, part_of, build_of, next_runs, first_keys, updated}
use Rattle.cola_laws.specs.Sound.{IsPaced, ArePaced, HasAtMost}
use Rattle.cola_laws.specs.Mutation.{IsAdvanced, AreAdvanced, IsBuilt, IsWorkable, AreWorkable, levels_after}
use Rattle.cola_laws.specs.Plain.{with_build, worked, all_worked, built, mutated, clock_after, all_mutated, all_updated, StayWithin, IsSoundChain}
use Rattle.cola_laws.proofs.Workable.{all-workable}
use Rattle.cola_laws.proofs.Facts.{works-advanced, rests-advanced}
use Rattle.cola_laws.proofs.Mutations.{mutation}
use Rattle.cola_laws.proofs.Wraps.{clock-wraps}

-- ---- the steps of the program

module _ {K V : Type 0} {cmp : K → K → Ordering} (o : IsTotalOrder cmp) (count : ℕ) where
  worked-true : (t j : ℕ) (above : List (Cell K V)) (l : Level K V) (ls : List (Level K V)) → works t j ≡ true →
      worked cmp count t j above l ls ≡ with_build l (steps cmp (part_of (is_odd (period t j)) ls) l.visible above (first_keys (next_runs t j ls)) count (build_of l))
  unfolding worked
  worked-true t j above l ls work = rw work refl

  worked-false : (t j : ℕ) (above : List (Cell K V)) (l : Level K V) (ls : List (Level K V)) → works t j ≡ false → worked cmp count t j above l ls ≡ l
  unfolding worked
  worked-false t j above l ls rests = rw rests refl

  -- the program's steps of one level are steps of the chain
  level-worked : (t j : ℕ) (above : List (Cell K V)) (l : Level K V) (ls : List (Level K V)) → IsPaced cmp 0 t j above l ls →
      (works t j ≡ true → IsWorkable cmp (part_of (is_odd (period t j)) ls) j l.visible above (first_keys (next_runs t j ls))) →
      IsAdvanced cmp count t j above l ls (worked cmp count t j above l ls)
  level-worked t j above l ls p w =
      elim (cases_Bool (works t j)) [
        | inl work ↦
            let part = part_of (is_odd (period t j)) ls in
            let keys = first_keys (next_runs t j ls) in
            let b = (w work).buildable in
            let after : Build K V = steps cmp part l.visible above keys count (build_of l) in
            subst (λ (x : Level K V). IsAdvanced cmp count t j above l ls x) (sym (worked-true t j above l ls work))
            (works-advanced o count t j above l (with_build l after) ls work p (w work) refl
            (steps_are_advanced o part l.visible above keys b.own_rising b.incoming_rising b.keys_rising count (build_of l) (p.inside work).under_way))
        | inr rests ↦
            subst (λ (x : Level K V). IsAdvanced cmp count t j above l ls x) (sym (worked-false t j above l ls rests)) (rests-advanced cmp count t j above l ls rests)
      ]

  -- and so are those of all levels
  pub worked-advanced : (t j : ℕ) (above : List (Cell K V)) (ls : List (Level K V)) → ArePaced cmp 0 t j above ls → AreWorkable cmp t j above ls →
      AreAdvanced cmp count t j above ls (all_worked cmp count t j above ls)
  worked-advanced t j above [] p w = tt
  worked-advanced t j above (l ∷ ls) p w = (level-worked t j above l ls p.0 w.0, worked-advanced t (suc j) l.visible ls p.1 w.1)

-- ---- one mutation and whole runs

module _ {K V : Type 0} {cmp : K → K → Ordering} (o : IsTotalOrder cmp) (most : ℕ) where
  built-is : (t : ℕ) (k : K) (item : Item V) (top : Level K V) (ls : List (Level K V)) → IsBuilt cmp t k item top ls (built cmp t k item top ls)
  unfolding built
  built-is t k item top ls = record { visible = refl; shadow = refl; at_rest = record { own_rests = refl; incoming_rests = refl; sampled_rests = refl } }

  pub mutated-sound : (t : ℕ) (map : K → Option V) (k : K) (item : Item V) (ls : List (Level K V)) → IsSoundChain cmp most t map ls → most ≤ 2 ^ (length ls + 1) →
      HasAtMost cmp most (updated cmp k item map) → IsSoundChain cmp most (suc t) (updated cmp k item map) (mutated cmp 28 t k item ls)
  mutated-sound t map k item [] s room few = absurd s
  mutated-sound t map k item (top ∷ ls) s room few =
      let e : suc (length ls) + 1 ≡ length ls + 2 = omega arith in
      let e' : suc (length ls) + 1 ≡ 0 + suc (length ls) + 1 = omega arith in
      let room' : most ≤ 2 ^ (length ls + 2) = subst (λ (x : ℕ). most ≤ 2 ^ x) e room in
      mutation o most t map k item top (built cmp t k item top ls) ls (all_worked cmp 28 t 1 top.visible ls) s (built-is t k item top ls)
      (worked-advanced o 28 t 1 top.visible ls s.sound.paced (all-workable o most t 0 top.visible ls s.sound.visible s.sound.few s.sound.kept (subst (λ (x : ℕ). most ≤ 2 ^ x) e' room))) room' few

  after-length : (t j : ℕ) (ls : List (Level K V)) → length (levels_after t j ls) ≡ length ls
  after-length t j [] = refl
  after-length t j (l ∷ ls) = ap suc (after-length t (suc j) ls)

  worked-length : (count t j : ℕ) (above : List (Cell K V)) (ls : List (Level K V)) → length (all_worked cmp count t j above ls) ≡ length ls
  worked-length count t j above [] = refl
  worked-length count t j above (l ∷ ls) = ap suc (worked-length count t (suc j) l.visible ls)

  pub mutated-length : (count t : ℕ) (k : K) (item : Item V) (ls : List (Level K V)) → length (mutated cmp count t k item ls) ≡ length ls
  mutated-length count t k item [] = refl
  mutated-length count t k item (top ∷ ls) = ap suc (after-length t 1 (all_worked cmp count t 1 top.visible ls) ∙ worked-length count t 1 top.visible ls)

  wrapped : (t : ℕ) (map : K → Option V) (ls : List (Level K V)) → IsSoundChain cmp most t map ls → IsSoundChain cmp most (t % 2 ^ length ls) map ls
  wrapped t map [] s = absurd s
  wrapped t map (top ∷ ls) s = clock-wraps cmp most t map top ls s

  -- a list of mutations, of which none exceeds the limit, keeps a sound chain sound
  pub runs-sound : (changes : List (K × Item V)) (t : ℕ) (map : K → Option V) (ls : List (Level K V)) → IsSoundChain cmp most t map ls → most ≤ 2 ^ (length ls + 1) →
      StayWithin cmp most changes map → IsSoundChain cmp most (clock_after (length ls) t changes) (all_updated cmp changes map) (all_mutated cmp t changes ls)
  runs-sound [] t map ls s room few = s
  runs-sound (change ∷ changes) t map ls s room few =
      let next : List (Level K V) = mutated cmp 28 t change.0 change.1 ls in
      let n : length next ≡ length ls = mutated-length 28 t change.0 change.1 ls in
      let once : IsSoundChain cmp most (suc t) (updated cmp change.0 change.1 map) next = mutated-sound t map change.0 change.1 ls s room few.0 in
      let wrap : IsSoundChain cmp most (suc t % 2 ^ length ls) (updated cmp change.0 change.1 map) next =
      subst (λ (x : ℕ). IsSoundChain cmp most (suc t % 2 ^ x) (updated cmp change.0 change.1 map) next) n (wrapped (suc t) (updated cmp change.0 change.1 map) next once) in
      let rest = runs-sound changes (suc t % 2 ^ length ls) (updated cmp change.0 change.1 map) next wrap (subst (λ (x : ℕ). most ≤ 2 ^ (x + 1)) (sym n) room) few.1 in
      subst (λ (x : ℕ). IsSoundChain cmp most (clock_after x (suc t % 2 ^ length ls) changes) (all_updated cmp changes (updated cmp change.0 change.1 map)) (all_mutated cmp (suc t % 2 ^ length ls) changes next)) n rest
