-- The tests of one level as the plain program makes them, over a list of levels, which are those of a store for so many keys at
-- a clock.
use Rattle.std.specs.Prelude.{ℕ, zero, suc, ◌<◌, List, length, ⊤}
use Rattle.cola_clock.specs.Clock.{period, is_odd}
use Rattle.cola_laws.specs.Chain.{visibles}
use Rattle.cola_plain_files.specs.declared.verdict.verdicts.LevelTest.{LevelTest}
use Rattle.cola_plain_files.specs.declared.verdict.verdicts.LevelTest.TheVariants.{Order, Sample, Length, Shadow, Live}
use Rattle.cola_verdict.specs.Tests.{FileLevel, level_at, below_at, IsInOrder, HasSample, HasFew, HasShadow, HasFewLive}

-- level j passes a test
abbrev pub PassesAt : LevelTest → ℕ → ℕ → List FileLevel → ℕ → Type 0
PassesAt Order most t levels j = IsInOrder (level_at levels j).visible
PassesAt Sample most t levels j = HasSample (level_at levels j).visible (visibles (below_at levels j))
PassesAt Length most t levels j = HasFew most (is_odd (period t j)) j (level_at levels j).visible (below_at levels j)
PassesAt Shadow most t levels zero = ⊤
PassesAt Shadow most t levels (suc i) = HasShadow most t (suc i) (level_at levels i).visible (level_at levels (suc i)) (below_at levels (suc i))
PassesAt Live most t levels j = HasFewLive most t j (level_at levels j) (below_at levels j)

module _ (test : LevelTest) (most t : ℕ) (levels : List FileLevel) where
  -- each level passes the test
  abbrev pub EachPasses : Type 0
  EachPasses = (j : ℕ) → j < length levels → PassesAt test most t levels j

  -- level j is the first that fails the test
  pub record IsFirstToFail (j : ℕ) : Type 0 where
    pub within : j < length levels
    pub fails : PassesAt test most t levels j → ⊥
    pub before : (i : ℕ) → i < j → PassesAt test most t levels i

  -- level j is the last that fails the test
  pub record IsLastToFail (j : ℕ) : Type 0 where
    pub within : j < length levels
    pub fails : PassesAt test most t levels j → ⊥
    pub behind : (i : ℕ) → j < i → i < length levels → PassesAt test most t levels i
