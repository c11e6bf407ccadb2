-- What the test of a level's shadow asks and what it reads, by the header of a file.
use Rattle.std.specs.Prelude.{◌≡◌, ℕ, zero, suc, ◌-◌, ◌<◌, ◌≤◌, Bool, true, false, not, cond, length, drop, Option, None, Some, ⊤, List}
use Rattle.cola_clock.specs.Clock.{period, is_odd}
use Rattle.cola_clock.specs.Marks.{Marks}
use Rattle.cola_clock.specs.declared.state.Part.TheVariants.{All, Young}
use Rattle.cola_runs.specs.Weave.{IsCut}
use Rattle.cola_cell.specs.declared.cell.Run.{Run}
use Rattle.cola_cell.specs.Order.{key_cmp}
use Rattle.cola_laws.specs.Chain.{part_of, next_runs, first_keys}
use Rattle.cola_laws.specs.Sound.{IsVisible}
use Rattle.cola_layout.specs.declared.header.Header.{Header}
use Rattle.cola_merge.specs.declared.aims.Aim.{Aim}
use Rattle.cola_merge.specs.declared.aims.Feed.TheVariants as feed
use Rattle.cola_verdict.specs.Tests.{FileLevel, Tested, levels_in, level_at, below_at, AreCellsTold, OrderAt, ShadowAt, EachLevel, IsShadowFinished}
use Rattle.cola_check.specs.declared.cut.Cursors.{Cursors}
use Rattle.cola_check.specs.Found.{visible_of, shadow_of}

-- the run that will lie below the next run of a level: of the level below it the shadow in an
-- odd period, the visible run in an even one
abbrev pub next_of : Header → ℕ → Run
next_of header level = cond (is_odd (period header.clock level)) (shadow_of header (suc level)) (visible_of header (suc level))

-- the same, where the level is above the bottom
pub record IsNext (header : Header) (level : ℕ) (next : Option Run) : Type 0 where
  pub above : level < header.geometry.bottom → next ≡ Some (next_of header level)
  pub bottom : header.geometry.bottom ≤ level → next ≡ None

-- what the next run of a level above the bottom is built of: of its own run, the run above it and the sample of its next one
abbrev pub upper_aim : Bool → Run → Run → Run → Aim
upper_aim odd own above next = record {
  level = own.level;
  slot = 1 - own.slot;
  own = feed.Run own;
  incoming = feed.Run above;
  sample = feed.Sampled next;
  part = cond odd Young All;
  young = not odd;
  bottom = false;
}

-- the same at the bottom, which has no next run
abbrev pub lowest_aim : Run → Run → Aim
lowest_aim own above = record {
  level = own.level;
  slot = 1 - own.slot;
  own = feed.Run own;
  incoming = feed.Run above;
  sample = feed.Nothing;
  part = All;
  young = false;
  bottom = true;
}

-- what the next run of a level of 1 and more is built of
pub record IsAimAt (header : Header) (level : ℕ) (aim : Aim) : Type 0 where
  pub above : level < header.geometry.bottom →
      aim ≡ upper_aim (is_odd (period header.clock level)) (visible_of header level) (visible_of header (level - 1)) (next_of header level)
  pub bottom : header.geometry.bottom ≤ level → aim ≡ lowest_aim (visible_of header level) (visible_of header (level - 1))

-- the cursors of a level's marks
abbrev pub cursors_of : Marks → Cursors
cursors_of m = record { own = m.own; incoming = m.incoming; sample = m.sampled }

module _ (file : Tested) where
  -- what the test of the shadow of a level goes by: the cells of the file are told, its visible
  -- runs are well formed, and each level below passes
  pub record IsReached (level : ℕ) : Type 0 where
    pub told : AreCellsTold file
    pub ordered : EachLevel file (OrderAt file)
    pub behind : (i : ℕ) → level < i → i < length file.marks → ShadowAt file i

  -- the keys that a level samples of its next run
  abbrev pub keys_at : ℕ → List (List ℕ)
  keys_at j = first_keys (next_runs file.clock j (below_at (levels_in file) j))

  -- the shadow of a level is a run as it may be visible in the next period
  abbrev pub FitAt : ℕ → Type 0
  FitAt j =
      IsVisible key_cmp file.most (not (is_odd (period file.clock j))) j
      (level_at (levels_in file) j).shadow (below_at (levels_in file) j) (keys_at j)

  -- the cursors of this level, below that one, cut its build after its shadow
  abbrev pub CutsBelow : ℕ → FileLevel → FileLevel → Type 0
  CutsBelow j above level =
      IsCut key_cmp (part_of (is_odd (period file.clock j)) (below_at (levels_in file) j)) level.visible above.visible (keys_at j)
      (drop level.own level.visible) (drop level.incoming above.visible) (drop level.sampled (keys_at j)) level.shadow

  -- the same of a level of 1 and more, by its number
  abbrev pub CutAt : ℕ → Type 0
  CutAt zero = ⊤
  CutAt (suc i) = CutsBelow (suc i) (level_at (levels_in file) i) (level_at (levels_in file) (suc i))

  -- its shadow is finished
  abbrev pub FinishedAt : ℕ → Type 0
  FinishedAt zero = ⊤
  FinishedAt (suc i) =
      IsShadowFinished file.most (is_odd (period file.clock (suc i))) (suc i) (level_at (levels_in file) i).visible
      (level_at (levels_in file) (suc i)) (below_at (levels_in file) (suc i)) (next_runs file.clock (suc i) (below_at (levels_in file) (suc i)))
