-- The runs of a file whose live keys are counted, and the verdict by these counts.
use Rattle.std.specs.Prelude.{◌≡◌, ◌≢◌, ◌⊎◌, ℕ, zero, suc, ◌≤◌, ◌<◌, Bool, true, List, [], ◌∷◌, Option, Some, None, IsTrue, if◌then◌else◌, slice_index_or}
use Rattle.cola_cell.specs.declared.cell.Run.{Run}
use Rattle.cola_cell.specs.Places.{number_of}
use Rattle.cola_clock.specs.Clock.{period, is_odd, is_over, visible_slot}
use Rattle.cola_layout.specs.declared.header.Header.{Header}
use Rattle.cola_verdict.specs.declared.verdict.Flaw.TheVariants.{Cell, Order, Sample, Length, Shadow, Live, Count, Stamp}
use Rattle.cola_verdict.specs.declared.verdict.Verdict.{Verdict}
use Rattle.cola_verdict.specs.declared.verdict.Verdict.TheVariants.{Sound, Broken}
use Rattle.cola_check.specs.declared.level_walks.LevelRuns.{LevelRuns}
use Rattle.cola_check.specs.declared.tally.LiveCount.{LiveCount}
use Rattle.cola_check.specs.Found.{visible_of, shadow_of}
use Rattle.cola_check.specs.Tally.{no_count}

-- the shadow of a level, where its window is over
abbrev pub finished_shadow : Header → ℕ → Option Run
finished_shadow header level = if is_over header.clock level then Some (shadow_of header level) else None

-- the runs of a level whose live keys are counted
abbrev pub counted_level : Header → ℕ → LevelRuns
counted_level header level = record { visible = visible_of header level; shadow = finished_shadow header level; odd = is_odd (period header.clock level) }

-- those of so many levels, from one on
abbrev pub counted_from : Header → ℕ → ℕ → List LevelRuns
counted_from header level zero = []
counted_from header level (suc more) = counted_level header level ∷ counted_from header (suc level) more

-- what was counted of a level
abbrev pub count_at : List LiveCount → ℕ → LiveCount
count_at counts level = slice_index_or counts level no_count

-- no more keys are live than the store is for: from the visible run down, and from a finished shadow down
pub record AreFew (most : ℕ) (over : Bool) (count : LiveCount) : Type 0 where
  pub few_visible : count.visible ≤ most
  pub few_shadow : over ≡ true → count.shadow ≤ most

-- the same of a level of a file
abbrev pub AreFewAt : Header → List LiveCount → ℕ → Type 0
AreFewAt header counts level = AreFew header.geometry.keys (is_over header.clock level) (count_at counts level)

-- the same of each level
abbrev pub AreAllFew : Header → List LiveCount → Type 0
AreAllFew header counts = (level : ℕ) → level ≤ header.geometry.bottom → AreFewAt header counts level

-- the first level with more live keys than the store is for
pub record IsFirstCrowded (header : Header) (counts : List LiveCount) (level : ℕ) : Type 0 where
  pub within : level ≤ header.geometry.bottom
  pub crowded : AreFewAt header counts level → ⊥
  pub before : (i : ℕ) → i < level → AreFewAt header counts i

-- what a look for that level found
abbrev pub FindsCrowded : Header → List LiveCount → Option ℕ → Type 0
FindsCrowded header counts None = AreAllFew header counts
FindsCrowded header counts (Some level) = IsFirstCrowded header counts level

-- the verdict by the number of live keys and by whether no live key has a stamp above the last number
abbrev pub JudgesWhole : Header → ℕ → Bool → Verdict → Type 0
JudgesWhole header live stamped (Sound count) = (header.count ≡ live) × IsTrue stamped × (count ≡ live)
JudgesWhole header live stamped (Broken Cell level number) = ⊥
JudgesWhole header live stamped (Broken Order level number) = ⊥
JudgesWhole header live stamped (Broken Sample level number) = ⊥
JudgesWhole header live stamped (Broken Length level number) = ⊥
JudgesWhole header live stamped (Broken Shadow level number) = ⊥
JudgesWhole header live stamped (Broken Live level number) = ⊥
JudgesWhole header live stamped (Broken Count level number) = (header.count ≢ live) × (level ≡ 0) × (number ≡ 0)
JudgesWhole header live stamped (Broken Stamp level number) = (header.count ≡ live) × (IsTrue stamped → ⊥) × (level ≡ 0) × (number ≡ 0)

-- the verdict by what was counted: first by the counts of each level, then by what is live from level 0 down
abbrev pub JudgesCounts : Header → List LiveCount → Bool → Verdict → Type 0
JudgesCounts header counts stamped verdict =
    ((level : ℕ) × (number : ℕ) × (verdict ≡ Broken Live level number) × IsFirstCrowded header counts level
    × (number ≡ number_of level (visible_slot header.clock level) 0))
    ⊎ (AreAllFew header counts × JudgesWhole header (count_at counts 0).visible stamped verdict)
