-- The verdict on a file: the first test that it fails and where, or that it passes all.
use Rattle.std.specs.Prelude.{◌≡◌, ℕ, List, [], ◌∷◌, length}
use Rattle.std.specs.List.{AllByRecursion}
use Rattle.cola_clock.specs.Clock.{visible_slot}
use Rattle.cola_cell.specs.Places.{number_of}
use Rattle.cola_laws.specs.Chain.{visibles}
use Rattle.cola_verdict.specs.declared.verdict.Flaw.{Flaw}
use Rattle.cola_verdict.specs.declared.verdict.Flaw.TheVariants.{Cell, Order, Sample, Length, Shadow, Live, Count, Stamp}
use Rattle.cola_verdict.specs.declared.verdict.Verdict.{Verdict}
use Rattle.cola_verdict.specs.declared.verdict.Verdict.TheVariants.{Sound, Broken}
use Rattle.cola_verdict.specs.Tests.{Tested, levels_in, level_at, live_pairs, AreCellsTold, IsLowestBad, EndsOrder, OrderAt, SampleAt, LengthAt, ShadowAt, LiveAt, IsCounted, AreStamped, EachLevel, IsFirst, IsLast, visible_cell, shadow_cell}

module _ (file : Tested) where
  -- the file passes the test
  abbrev pub Passes : Flaw → Type 0
  Passes Cell = AreCellsTold file
  Passes Order = EachLevel file (OrderAt file)
  Passes Sample = EachLevel file (SampleAt file)
  Passes Length = EachLevel file (LengthAt file)
  Passes Shadow = EachLevel file (ShadowAt file)
  Passes Live = EachLevel file (LiveAt file)
  Passes Count = IsCounted file
  Passes Stamp = AreStamped file

  -- level j is the first whose visible run is out of order, and its order ends with this cell
  pub record IsOutOfOrder (j number : ℕ) : Type 0 where
    pub first : IsFirst file (OrderAt file) j
    pub index : ℕ
    pub ends : EndsOrder (level_at (levels_in file) j).visible index
    pub number_is : number ≡ number_of j (visible_slot file.clock j) index

  -- the file fails the test, first at this level and this cell. The levels are tested from level 0 down, but for the shadows,
  -- which are tested from the bottom up
  abbrev pub FailsAt : Flaw → ℕ → ℕ → Type 0
  FailsAt Cell j number = IsLowestBad file j number
  FailsAt Order j number = IsOutOfOrder j number
  FailsAt Sample j number = IsFirst file (SampleAt file) j × (number ≡ visible_cell file j)
  FailsAt Length j number = IsFirst file (LengthAt file) j × (number ≡ visible_cell file j)
  FailsAt Shadow j number = IsLast file (ShadowAt file) j × (number ≡ shadow_cell file j)
  FailsAt Live j number = IsFirst file (LiveAt file) j × (number ≡ visible_cell file j)
  FailsAt Count j number = (IsCounted file → ⊥) × (j ≡ 0) × (number ≡ 0)
  FailsAt Stamp j number = (AreStamped file → ⊥) × (j ≡ 0) × (number ≡ 0)

  -- the tests that come before one
  abbrev pub earlier : Flaw → List Flaw
  earlier Cell = []
  earlier Order = Cell ∷ []
  earlier Sample = Cell ∷ Order ∷ []
  earlier Length = Cell ∷ Order ∷ Sample ∷ []
  earlier Shadow = Cell ∷ Order ∷ Sample ∷ Length ∷ []
  earlier Live = Cell ∷ Order ∷ Sample ∷ Length ∷ Shadow ∷ []
  earlier Count = Cell ∷ Order ∷ Sample ∷ Length ∷ Shadow ∷ Live ∷ []
  earlier Stamp = Cell ∷ Order ∷ Sample ∷ Length ∷ Shadow ∷ Live ∷ Count ∷ []

  -- the verdict on the file: it passes all tests and has so many live keys, or it passes those
  -- before a test, which it fails there
  abbrev pub IsVerdict : Verdict → Type 0
  IsVerdict (Sound count) = AllByRecursion Passes (Cell ∷ Order ∷ Sample ∷ Length ∷ Shadow ∷ Live ∷ Count ∷ Stamp ∷ [])
      × (count ≡ length (live_pairs (visibles (levels_in file))))
  IsVerdict (Broken flaw level number) = AllByRecursion Passes (earlier flaw) × FailsAt flaw level number
