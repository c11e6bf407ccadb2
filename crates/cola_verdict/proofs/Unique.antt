-- A tested file has one verdict.
use Rattle.std.proofs.Common.{◌≡◌, ◌≢◌, inl, inr, ◌⊎◌, ℕ, zero, suc, ◌<◌, ◌≤◌, ◌==◌, Bool, true, false, cond, List, [], ◌∷◌, take, refl, sym, ap, subst, ◌∙◌, arith, Some}
use Rattle.std.specs.List.{AllByRecursion, slice_get}
use mathlib.Core.Path.{ap₂}
use Rattle.std.proofs.lemmas.Bool.{cases_order}
use Rattle.std.proofs.lemmas.Option.{same_Some}
use Rattle.cola_cell.specs.Held.{Spot, Bad, Told}
use Rattle.cola_cell.specs.Places.{number_of, slot_size}
use Rattle.cola_cell.proofs.PlaceNumbers.{numbers_differ}
use Rattle.cola_clock.specs.Clock.{visible_slot}
use Rattle.cola_clock.specs.Marks.{AreChainMarks, marks_at}
use Rattle.cola_clock.proofs.MarkLaws.{marks-each}
use Rattle.cola_cell.specs.ToldCells.{IsTold, cell_at}
use Rattle.cola_verdict.specs.Tests.{Tested, IsOfRun, IsLowestBad, EndsOrder, IsFirst, IsLast, OrderAt, SampleAt, LengthAt, ShadowAt, LiveAt, levels_in, level_at, visible_cell, shadow_cell}
use Rattle.cola_verdict.specs.Verdict.{Passes, FailsAt, IsOutOfOrder, earlier, IsVerdict}
use Rattle.cola_verdict.specs.declared.verdict.Flaw.{Flaw}
use Rattle.cola_verdict.specs.declared.verdict.Flaw.TheVariants.{Cell, Order, Sample, Length, Shadow, Live, Count, Stamp}
use Rattle.cola_verdict.specs.declared.verdict.Verdict.{Verdict}
use Rattle.cola_verdict.specs.declared.verdict.Verdict.TheVariants.{Sound, Broken}
use Rattle.cola_verdict.proofs.Numbers.{only-one}
use Rattle.cola_verdict.proofs.Prefixes.{one-end}

-- ---- one place at which a test fails

bad-told : (spot : Spot) → spot ≡ Bad → IsTold spot → ⊥
bad-told spot bad told = let e : Bad ≡ Told (cell_at spot) = sym bad ∙ told in cc

module _ (file : Tested) where
  first-one : (passes : ℕ → Type 0) (j k : ℕ) → IsFirst file passes j → IsFirst file passes k → j ≡ k
  first-one passes j k a b = only-one j k (λ l. a.fails (b.before j l)) (λ l. b.fails (a.before k l))

  last-one : (passes : ℕ → Type 0) (j k : ℕ) → IsLast file passes j → IsLast file passes k → j ≡ k
  last-one passes j k a b = only-one j k (λ l. b.fails (a.behind k l b.within)) (λ l. a.fails (b.behind j l a.within))

  lowest-one : (j n k m : ℕ) → IsLowestBad file j n → IsLowestBad file k m → n ≡ m
  lowest-one j n k m a b =
      only-one n m
      (λ l. bad-told (file.spots j a.slot a.index) a.bad (b.lowest j a.slot a.index a.place (subst (λ (x : ℕ). x < m) a.number_is l)))
      (λ l. bad-told (file.spots k b.slot b.index) b.bad (a.lowest k b.slot b.index b.place (subst (λ (x : ℕ). x < n) b.number_is l)))

  -- where the marks keep the rules a place of a run lies in its slot
  within-slot : AreChainMarks file.clock file.marks → (l s i : ℕ) → IsOfRun file l s i → i < slot_size l
  within-slot marks l s i place =
      let fits = marks-each file.clock file.marks marks l place.level_in in
      either-within (s == visible_slot file.clock l) (marks_at file.marks l).visible (marks_at file.marks l).shadow (slot_size l) i fits.visible_fits fits.shadow_fits place.within
    where
      either-within : (b : Bool) (x y size i : ℕ) → x ≤ size → y ≤ size → i < cond b x y → i < size
      either-within true x y size i h k l = omega (arith, h, l)
      either-within false x y size i h k l = omega (arith, k, l)

  -- so the number of a cell of a run tells its level
  lowest-level : AreChainMarks file.clock file.marks → (j n k m : ℕ) → IsLowestBad file j n → IsLowestBad file k m → n ≡ m → j ≡ k
  lowest-level marks j n k m a b same =
      elim (cases_order j k) [
        | inl level ↦ level
        | inr apart ↦
            absurd (numbers_differ k b.slot b.index j a.slot a.index b.place.slot_in (within-slot marks k b.slot b.index b.place)
            a.place.slot_in (within-slot marks j a.slot a.index a.place) (inl (elsewhere apart)) (sym a.number_is ∙ same ∙ b.number_is))
      ]
    where
      elsewhere : (j < k) ⊎ (k < j) → j ≢ k
      elsewhere (inl below) e = omega (arith, below, e)
      elsewhere (inr above) e = omega (arith, above, e)

  ordered-one : (j n k m : ℕ) → IsOutOfOrder file j n → IsOutOfOrder file k m → (j ≡ k) × (n ≡ m)
  ordered-one j n k m a b =
      let level : j ≡ k = first-one (OrderAt file) j k a.first b.first in
      let index : a.index ≡ b.index =
      one-end (level_at (levels_in file) k).visible a.index b.index (subst (λ (x : ℕ). EndsOrder (level_at (levels_in file) x).visible a.index) level a.ends) b.ends in
      (level, a.number_is ∙ ap₂ (λ (x y : ℕ). number_of x (visible_slot file.clock x) y) level index ∙ sym b.number_is)

  -- a test fails at one place
  one-place : AreChainMarks file.clock file.marks → (flaw : Flaw) (j n k m : ℕ) → FailsAt file flaw j n → FailsAt file flaw k m → (j ≡ k) × (n ≡ m)
  one-place marks Cell j n k m a b = let same = lowest-one j n k m a b in (lowest-level marks j n k m a b same, same)
  one-place marks Order j n k m a b = ordered-one j n k m a b
  one-place marks Sample j n k m a b = let level = first-one (SampleAt file) j k a.0 b.0 in (level, a.1 ∙ ap (visible_cell file) level ∙ sym b.1)
  one-place marks Length j n k m a b = let level = first-one (LengthAt file) j k a.0 b.0 in (level, a.1 ∙ ap (visible_cell file) level ∙ sym b.1)
  one-place marks Shadow j n k m a b = let level = last-one (ShadowAt file) j k a.0 b.0 in (level, a.1 ∙ ap (shadow_cell file) level ∙ sym b.1)
  one-place marks Live j n k m a b = let level = first-one (LiveAt file) j k a.0 b.0 in (level, a.1 ∙ ap (visible_cell file) level ∙ sym b.1)
  one-place marks Count j n k m a b = (a.1 ∙ sym b.1, a.2 ∙ sym b.2)
  one-place marks Stamp j n k m a b = (a.1 ∙ sym b.1, a.2 ∙ sym b.2)

  -- a test that fails at a place is not passed
  pub not-passed : (flaw : Flaw) (j n : ℕ) → FailsAt file flaw j n → Passes file flaw → ⊥
  not-passed Cell j n a passes = bad-told (file.spots j a.slot a.index) a.bad (passes j a.slot a.index a.place)
  not-passed Order j n a passes = a.first.fails (passes j a.first.within)
  not-passed Sample j n a passes = a.0.fails (passes j a.0.within)
  not-passed Length j n a passes = a.0.fails (passes j a.0.within)
  not-passed Shadow j n a passes = a.0.fails (passes j a.0.within)
  not-passed Live j n a passes = a.0.fails (passes j a.0.within)
  not-passed Count j n a passes = a.0 passes
  not-passed Stamp j n a passes = a.0 passes

-- ---- one test that fails first

-- the tests in their order, and the place of each among them
tests : List Flaw
tests = Cell ∷ Order ∷ Sample ∷ Length ∷ Shadow ∷ Live ∷ Count ∷ Stamp ∷ []

rank : Flaw → ℕ
rank Cell = 0
rank Order = 1
rank Sample = 2
rank Length = 3
rank Shadow = 4
rank Live = 5
rank Count = 6
rank Stamp = 7

at-rank : (flaw : Flaw) → slice_get tests (rank flaw) ≡ Some flaw
unfolding tests rank
at-rank Cell = refl
at-rank Order = refl
at-rank Sample = refl
at-rank Length = refl
at-rank Shadow = refl
at-rank Live = refl
at-rank Count = refl
at-rank Stamp = refl

earlier-is : (file : Tested) (flaw : Flaw) → earlier file flaw ≡ take (rank flaw) tests
unfolding tests rank
earlier-is file Cell = refl
earlier-is file Order = refl
earlier-is file Sample = refl
earlier-is file Length = refl
earlier-is file Shadow = refl
earlier-is file Live = refl
earlier-is file Count = refl
earlier-is file Stamp = refl

same-rank : (f g : Flaw) → rank f ≡ rank g → f ≡ g
same-rank f g e = same_Some f g (sym (at-rank f) ∙ ap (slice_get tests) e ∙ at-rank g)

at-index : {X : Type 0} (P : X → Type 0) (xs : List X) (k : ℕ) (x : X) → AllByRecursion P xs → slice_get xs k ≡ Some x → P x
at-index P [] k x all e = cc
at-index P (y ∷ ys) zero x all e = subst P (same_Some y x e) all.0
at-index P (y ∷ ys) (suc k) x all e = at-index P ys k x all.1 e

among-first : {X : Type 0} (P : X → Type 0) (xs : List X) (n k : ℕ) (x : X) → AllByRecursion P (take n xs) → k < n → slice_get xs k ≡ Some x → P x
among-first P xs zero k x all l e = absurd (omega (arith, l))
among-first P [] (suc n) k x all l e = cc
among-first P (y ∷ ys) (suc n) zero x all l e = subst P (same_Some y x e) all.0
among-first P (y ∷ ys) (suc n) (suc k) x all l e = among-first P ys n k x all.1 (omega (arith, l)) e

module _ (file : Tested) where
  passed-all : (flaw : Flaw) → AllByRecursion (Passes file) (Cell ∷ Order ∷ Sample ∷ Length ∷ Shadow ∷ Live ∷ Count ∷ Stamp ∷ []) → Passes file flaw
  unfolding tests
  passed-all flaw all = at-index (Passes file) tests (rank flaw) flaw all (at-rank flaw)

  passed-earlier : (f g : Flaw) → rank f < rank g → AllByRecursion (Passes file) (earlier file g) → Passes file f
  passed-earlier f g l all =
      among-first (Passes file) tests (rank g) (rank f) f (subst (λ (fs : List Flaw). AllByRecursion (Passes file) fs) (earlier-is file g) all) l (at-rank f)

  one-flaw : (f g : Flaw) (j n k m : ℕ) → IsVerdict file (Broken f j n) → IsVerdict file (Broken g k m) → f ≡ g
  one-flaw f g j n k m a b =
      same-rank f g (only-one (rank f) (rank g) (λ l. not-passed file f j n a.1 (passed-earlier f g l b.0)) (λ l. not-passed file g k m b.1 (passed-earlier g f l a.0)))

  same-broken : AreChainMarks file.clock file.marks → (f g : Flaw) (j n k m : ℕ) → f ≡ g → FailsAt file f j n → FailsAt file g k m → Broken f j n ≡ Broken g k m
  same-broken marks f g j n k m same a b =
      let place = one-place file marks g j n k m (subst (λ (x : Flaw). FailsAt file x j n) same a) b in
      λ i. Broken (same i) (place.0 i) (place.1 i)

  pub one-verdict : AreChainMarks file.clock file.marks → (v w : Verdict) → IsVerdict file v → IsVerdict file w → v ≡ w
  one-verdict marks (Sound n) (Sound m) a b = ap Sound (a.1 ∙ sym b.1)
  one-verdict marks (Sound n) (Broken g k m) a b = absurd (not-passed file g k m b.1 (passed-all g a.0))
  one-verdict marks (Broken f j n) (Sound m) a b = absurd (not-passed file f j n a.1 (passed-all f b.0))
  one-verdict marks (Broken f j n) (Broken g k m) a b = same-broken marks f g j n k m (one-flaw f g j n k m a b) a.1 b.1

  -- a file that passes all tests has no flaw
  pub sound-unbroken : (keys : ℕ) (flaw : Flaw) (j n : ℕ) → IsVerdict file (Sound keys) → IsVerdict file (Broken flaw j n) → ⊥
  sound-unbroken keys flaw j n a b = not-passed file flaw j n b.1 (passed-all flaw a.0)
