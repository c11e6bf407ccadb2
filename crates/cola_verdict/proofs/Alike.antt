-- Files of one header whose runs are told alike have one verdict.
use Rattle.std.proofs.Common.{◌≡◌, ℕ, zero, suc, ◌≤◌, List, [], ◌∷◌, length, sym, subst, ◌∙◌, ◌↔◌}
use Rattle.std.specs.Prelude.{⊤}
use Rattle.std.specs.List.{AllByRecursion}
use Rattle.cola_cell.specs.Held.{Spot, Spots}
use Rattle.cola_clock.specs.Clock.{period, is_odd}
use Rattle.cola_laws.specs.Chain.{visibles}
use Rattle.cola_image.proofs.CellsLemmas.{levels-alike}
use Rattle.cola_pairs.proofs.Order.{all_change}
use Rattle.cola_cell.specs.ToldCells.{IsTold}
use Rattle.cola_verdict.specs.Alike.{told_by, AreCellsAlike}
use Rattle.cola_verdict.specs.Tests.{FileLevel, Tested, IsOfRun, IsLowestBad, EndsOrder, IsFirst, IsLast, IsInOrder, HasSample, HasFew, HasShadow, HasFewLive, levels_in, level_at, below_at, live_pairs}
use Rattle.cola_verdict.specs.Verdict.{Passes, FailsAt, IsOutOfOrder, earlier, IsVerdict}
use Rattle.cola_verdict.specs.declared.verdict.Flaw.{Flaw}
use Rattle.cola_verdict.specs.declared.verdict.Flaw.TheVariants.{Cell, Order, Sample, Length, Shadow, Live, Count, Stamp}
use Rattle.cola_verdict.specs.declared.verdict.Verdict.{Verdict}
use Rattle.cola_verdict.specs.declared.verdict.Verdict.TheVariants.{Sound, Broken}
use Rattle.cola_verdict.proofs.Runs.{cells-alike}

-- the tests as they are made of any levels
module _ (file : Tested) where
  abbrev OrderIn : List FileLevel → ℕ → Type 0
  OrderIn levels j = IsInOrder (level_at levels j).visible

  abbrev SampleIn : List FileLevel → ℕ → Type 0
  SampleIn levels j = HasSample (level_at levels j).visible (visibles (below_at levels j))

  abbrev LengthIn : List FileLevel → ℕ → Type 0
  LengthIn levels j = HasFew file.most (is_odd (period file.clock j)) j (level_at levels j).visible (below_at levels j)

  abbrev ShadowIn : List FileLevel → ℕ → Type 0
  ShadowIn levels zero = ⊤
  ShadowIn levels (suc i) = HasShadow file.most file.clock (suc i) (level_at levels i).visible (level_at levels (suc i)) (below_at levels (suc i))

  abbrev LiveIn : List FileLevel → ℕ → Type 0
  LiveIn levels j = HasFewLive file.most file.clock j (level_at levels j) (below_at levels j)

  -- those of the whole file ask no level
  abbrev CountIn : List FileLevel → ℕ → Type 0
  CountIn levels j = file.count ≡ length (live_pairs (visibles levels))

  abbrev StampIn : List FileLevel → ℕ → Type 0
  StampIn levels j = AllByRecursion (λ pair. pair.1.stamp ≤ file.last) (live_pairs (visibles levels))

-- the places of the runs are the same
same-place : (file : Tested) (others : Spots) (l s i : ℕ) → IsOfRun file l s i → IsOfRun (told_by file others) l s i
same-place file others l s i place = record { level_in = place.level_in; slot_in = place.slot_in; within = place.within }

module _ (file : Tested) (others : Spots) (alike : AreCellsAlike file others) where
  place-here : (l s i : ℕ) → IsOfRun (told_by file others) l s i → IsOfRun file l s i
  place-here = same-place (told_by file others) file.spots

  told-there : (l s i : ℕ) → IsOfRun file l s i → IsTold (file.spots l s i) → IsTold (others l s i)
  told-there l s i place told = subst (λ (spot : Spot). IsTold spot) (sym (alike l s i place)) told

  same-levels : levels_in (told_by file others) ≡ levels_in file
  same-levels = levels-alike file.spots others file.clock 0 file.marks (cells-alike file others alike)

  lowest-there : (j n : ℕ) → IsLowestBad file j n → IsLowestBad (told_by file others) j n
  lowest-there j n h = record {
    slot = h.slot;
    index = h.index;
    place = same-place file others j h.slot h.index h.place;
    bad = alike j h.slot h.index h.place ∙ h.bad;
    number_is = h.number_is;
    lowest = λ l s i place below. told-there l s i (place-here l s i place) (h.lowest l s i (place-here l s i place) below);
  }

  -- a test that is made of the levels
  module _ (T : List FileLevel → ℕ → Type 0) where
    there : (j : ℕ) → T (levels_in file) j → T (levels_in (told_by file others)) j
    there j h = subst (λ (ls : List FileLevel). T ls j) (sym same-levels) h

    here : (j : ℕ) → T (levels_in (told_by file others)) j → T (levels_in file) j
    here j h = subst (λ (ls : List FileLevel). T ls j) same-levels h

    first-there : (j : ℕ) → IsFirst file (T (levels_in file)) j → IsFirst (told_by file others) (T (levels_in (told_by file others))) j
    first-there j h = record { within = h.within; fails = λ p. h.fails (here j p); before = λ i l. there i (h.before i l) }

    last-there : (j : ℕ) → IsLast file (T (levels_in file)) j → IsLast (told_by file others) (T (levels_in (told_by file others))) j
    last-there j h = record { within = h.within; fails = λ p. h.fails (here j p); behind = λ i l k. there i (h.behind i l k) }

  ordered-there : (j n : ℕ) → IsOutOfOrder file j n → IsOutOfOrder (told_by file others) j n
  ordered-there j n h = record {
    first = first-there (OrderIn file) j h.first;
    index = h.index;
    ends = subst (λ (ls : List FileLevel). EndsOrder (level_at ls j).visible h.index) (sym same-levels) h.ends;
    number_is = h.number_is;
  }

  passes-there : (flaw : Flaw) → Passes file flaw → Passes (told_by file others) flaw
  passes-there Cell h = λ l s i place. told-there l s i (place-here l s i place) (h l s i (place-here l s i place))
  passes-there Order h = λ j l. there (OrderIn file) j (h j l)
  passes-there Sample h = λ j l. there (SampleIn file) j (h j l)
  passes-there Length h = λ j l. there (LengthIn file) j (h j l)
  passes-there Shadow h = λ j l. there (ShadowIn file) j (h j l)
  passes-there Live h = λ j l. there (LiveIn file) j (h j l)
  passes-there Count h = there (CountIn file) 0 h
  passes-there Stamp h = there (StampIn file) 0 h

  fails-there : (flaw : Flaw) (j n : ℕ) → FailsAt file flaw j n → FailsAt (told_by file others) flaw j n
  fails-there Cell j n h = lowest-there j n h
  fails-there Order j n h = ordered-there j n h
  fails-there Sample j n h = (first-there (SampleIn file) j h.0, h.1)
  fails-there Length j n h = (first-there (LengthIn file) j h.0, h.1)
  fails-there Shadow j n h = (last-there (ShadowIn file) j h.0, h.1)
  fails-there Live j n h = (first-there (LiveIn file) j h.0, h.1)
  fails-there Count j n h = ((λ p. h.0 (here (CountIn file) 0 p)), h.1, h.2)
  fails-there Stamp j n h = ((λ p. h.0 (here (StampIn file) 0 p)), h.1, h.2)

  pub verdict-there : (v : Verdict) → IsVerdict file v → IsVerdict (told_by file others) v
  verdict-there (Sound keys) h = (
    all_change passes-there (Cell ∷ Order ∷ Sample ∷ Length ∷ Shadow ∷ Live ∷ Count ∷ Stamp ∷ []) h.0,
    subst (λ (ls : List FileLevel). keys ≡ length (live_pairs (visibles ls))) (sym same-levels) h.1,
  )
  verdict-there (Broken flaw j n) h = (all_change passes-there (earlier file flaw) h.0, fails-there flaw j n h.1)

  -- and the other way round
  alike-back : AreCellsAlike (told_by file others) file.spots
  alike-back l s i place = sym (alike l s i (place-here l s i place))

pub same-verdicts : (file : Tested) (others : Spots) → AreCellsAlike file others → (v : Verdict) → IsVerdict file v ↔ IsVerdict (told_by file others) v
same-verdicts file others alike v = (
  verdict-there file others alike v,
  verdict-there (told_by file others) file.spots (alike-back file others alike) v,
)
