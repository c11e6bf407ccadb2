-- Soundness reads only the parities, the visible runs and the finished shadows: two chains that agree there are sound together.
use Rattle.std.proofs.Common.{◌≡◌, ℕ, suc, Bool, true, false, cond, List, [], ◌∷◌, refl, ap, ◌∙◌, subst}
use mathlib.Core.Path.{ap₂}
use Rattle.std.specs.declared.cmp.Ordering.{Ordering}
use Rattle.cola_clock.specs.Clock.{period, is_odd, is_over}
use Rattle.cola_clock.proofs.Laws.{is_over-suc}
use Rattle.cola_runs.specs.Cells.{Cell}
use Rattle.cola_laws.specs.Chain.{Level, part_of, visibles, shadows, next_runs, first_keys, value_at}
use Rattle.cola_laws.specs.Alike.{AreAlike}
use Rattle.cola_laws.specs.Sound.{IsVisible, AreVisible, AreFew, IsFinished, AreKept}

-- two choices by equal tests, where each is equal
cond_alike : {A : Type 0} (b c : Bool) (x x' y y' : A) → b ≡ c → (b ≡ true → x ≡ x') → y ≡ y' → cond b x y ≡ cond c x' y'
cond_alike true c x x' y y' e h k = rw (← e) (h refl)
cond_alike false c x x' y y' e h k = rw (← e) k

module _ {K V : Type 0} where
  pub alike-visibles : (t u j : ℕ) (ls ms : List (Level K V)) → AreAlike t u j ls ms → visibles ls ≡ visibles ms
  alike-visibles t u j [] [] h = refl
  alike-visibles t u j [] (m ∷ ms) h = absurd h
  alike-visibles t u j (l ∷ ls) [] h = absurd h
  alike-visibles t u j (l ∷ ls) (m ∷ ms) h = ap₂ (λ x xs. x ∷ xs) h.0.visible (alike-visibles t u (suc j) ls ms h.1)

  pub alike-shadows : (t u j : ℕ) (ls ms : List (Level K V)) → AreAlike t u j ls ms → is_over t j ≡ true → shadows t j ls ≡ shadows u j ms
  alike-shadows t u j [] [] h over = refl
  alike-shadows t u j [] (m ∷ ms) h over = absurd h
  alike-shadows t u j (l ∷ ls) [] h over = absurd h
  alike-shadows t u j (l ∷ ls) (m ∷ ms) h over =
      ap₂ (λ x xs. x ∷ xs) (h.0.shadow over)
      (cond_alike (is_odd (period t j)) (is_odd (period u j)) _ _ _ _ h.0.parity
      (λ odd. alike-shadows t u (suc j) ls ms h.1 (is_over-suc t j ∙ odd)) (alike-visibles t u (suc j) ls ms h.1))

  pub alike-next_runs : (t u j : ℕ) (ls ms : List (Level K V)) → is_odd (period t j) ≡ is_odd (period u j) → AreAlike t u (suc j) ls ms →
      next_runs t j ls ≡ next_runs u j ms
  alike-next_runs t u j ls ms parity h =
      cond_alike (is_odd (period t j)) (is_odd (period u j)) _ _ _ _ parity
      (λ odd. alike-shadows t u (suc j) ls ms h (is_over-suc t j ∙ odd)) (alike-visibles t u (suc j) ls ms h)

  pub alike-part : (t u j : ℕ) (odd odd' : Bool) (ls ms : List (Level K V)) → odd ≡ odd' → AreAlike t u j ls ms → part_of odd ls ≡ part_of odd' ms
  alike-part t u j odd odd' [] [] e h = refl
  alike-part t u j odd odd' [] (m ∷ ms) e h = absurd h
  alike-part t u j odd odd' (l ∷ ls) [] e h = absurd h
  alike-part t u j odd odd' (l ∷ ls) (m ∷ ms) e h = rw e refl

module _ {K V : Type 0} (cmp : K → K → Ordering) (most : ℕ) where
  alike-parities : (t u j : ℕ) (ls ms : List (Level K V)) → AreAlike t u j ls ms → AreVisible cmp most t j (visibles ls) → AreVisible cmp most u j (visibles ls)
  alike-parities t u j [] [] h v = tt
  alike-parities t u j [] (m ∷ ms) h v = absurd h
  alike-parities t u j (l ∷ ls) [] h v = absurd h
  alike-parities t u j (l ∷ ls) (m ∷ ms) h v =
      (subst (λ (x : Bool). IsVisible cmp most x j l.visible (visibles ls) (first_keys (visibles ls))) h.0.parity v.0, alike-parities t u (suc j) ls ms h.1 v.1)

  pub alike-visible : (t u j : ℕ) (ls ms : List (Level K V)) → AreAlike t u j ls ms → AreVisible cmp most t j (visibles ls) → AreVisible cmp most u j (visibles ms)
  alike-visible t u j ls ms h v =
      subst (λ (x : List (List (Cell K V))). AreVisible cmp most u j x) (alike-visibles t u j ls ms h) (alike-parities t u j ls ms h v)

  pub alike-answers : (t u j : ℕ) (ls ms : List (Level K V)) → AreAlike t u j ls ms → (q : K) → value_at cmp (visibles ls) q ≡ value_at cmp (visibles ms) q
  alike-answers t u j ls ms h q = ap (λ (runs : List (List (Cell K V))). value_at cmp runs q) (alike-visibles t u j ls ms h)

  -- a finished shadow, by equal parts
  pub finished-same : {X : Type 0} (odd odd' : Bool) (j : ℕ) (above above' own own' shadow shadow' : List (Cell K V)) (below : List X) (next next' : List (List (Cell K V))) →
      odd ≡ odd' → above ≡ above' → own ≡ own' → shadow ≡ shadow' → next ≡ next' →
      IsFinished cmp most odd j above own shadow below next → IsFinished cmp most odd' j above' own' shadow' below next'
  finished-same odd odd' j above above' own own' shadow shadow' below next next' e f g h k fin =
      subst (λ (x : Bool). IsFinished cmp most x j above' own' shadow' below next') e
      (subst (λ (x : List (Cell K V)). IsFinished cmp most odd j x own' shadow' below next') f
      (subst (λ (x : List (Cell K V)). IsFinished cmp most odd j above x shadow' below next') g
      (subst (λ (x : List (Cell K V)). IsFinished cmp most odd j above own x below next') h
      (subst (λ (x : List (List (Cell K V))). IsFinished cmp most odd j above own shadow below x) k fin))))

  -- and by levels below it of one number
  pub finished-shape : (t u i : ℕ) (odd : Bool) (j : ℕ) (above own shadow : List (Cell K V)) (ls ms : List (Level K V)) (next : List (List (Cell K V))) → AreAlike t u i ls ms →
      IsFinished cmp most odd j above own shadow ls next → IsFinished cmp most odd j above own shadow ms next
  finished-shape t u i odd j above own shadow [] [] next h fin = fin
  finished-shape t u i odd j above own shadow [] (m ∷ ms) next h fin = absurd h
  finished-shape t u i odd j above own shadow (l ∷ ls) [] next h fin = absurd h
  finished-shape t u i odd j above own shadow (l ∷ ls) (m ∷ ms) next h fin = record { fit = fin.fit; carried = fin.carried; keeps = fin.keeps; few = fin.few }

  pub alike-kept : (t u j : ℕ) (above above' : List (Cell K V)) (ls ms : List (Level K V)) → above ≡ above' → AreAlike t u j ls ms → AreKept cmp most t j above ls → AreKept cmp most u j above' ms
  alike-kept t u j above above' [] [] e h kept = tt
  alike-kept t u j above above' [] (m ∷ ms) e h kept = absurd h
  alike-kept t u j above above' (l ∷ ls) [] e h kept = absurd h
  alike-kept t u j above above' (l ∷ ls) (m ∷ ms) e h kept = (
    record {
      over = λ over.
          let was : is_over t j ≡ true = h.0.over ∙ over in
          finished-shape t u (suc j) (is_odd (period u j)) j above' m.visible m.shadow ls ms (next_runs u j ms) h.1
          (finished-same (is_odd (period t j)) (is_odd (period u j)) j above above' l.visible m.visible l.shadow m.shadow ls (next_runs t j ls) (next_runs u j ms)
          h.0.parity e h.0.visible (h.0.shadow was) (alike-next_runs t u j ls ms h.0.parity h.1) (kept.0.over was));
      few = subst (λ (x : List (List (Cell K V))). AreFew cmp most x) (alike-visibles t u j (l ∷ ls) (m ∷ ms) h) kept.0.few;
    },
    alike-kept t u (suc j) l.visible m.visible ls ms h.0.visible h.1 kept.1,
  )
