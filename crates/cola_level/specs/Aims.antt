-- What the next run of a level is built of, and where, from the clock and the lengths of the runs around it.
use Rattle.std.specs.Prelude.{ℕ, suc, ◌-◌, Bool, true, false, not, cond, if◌then◌else◌, List, [], ◌∷◌}
use Rattle.cola_clock.specs.Clock.{period, is_odd, visible_slot}
use Rattle.cola_clock.specs.Marks.{Marks}
use Rattle.cola_clock.specs.declared.state.Part.{Part}
use Rattle.cola_clock.specs.declared.state.Part.TheVariants.{All, Young}
use Rattle.cola_cell.specs.declared.cell.Cell.{Cell}
use Rattle.cola_cell.specs.declared.cell.Run.{Run}
use Rattle.cola_merge.specs.declared.aims.Feed.{Feed}
use Rattle.cola_merge.specs.declared.aims.Feed.TheVariants as feed
use Rattle.cola_merge.specs.declared.aims.Aim.{Aim}
use Rattle.cola_transfers.specs.Chain.{sampled_slot}

-- the visible run of level j at clock t, of so many cells
abbrev pub visible_run : ℕ → ℕ → ℕ → Run
visible_run t j len = record { level = j; slot = visible_slot t j; len = len }

-- the run that level j samples, where the level below it has these marks: its visible run in an
-- even period of level j, its shadow in an odd one
abbrev pub sampled_run : ℕ → ℕ → Marks → Run
sampled_run t j next = record { level = suc j; slot = sampled_slot t j; len = cond (is_odd (period t j)) next.shadow next.visible }

-- what level j samples, where the levels below it have these marks: nothing at the bottom
abbrev pub sample_of : ℕ → ℕ → List Marks → Feed
sample_of t j [] = feed.Nothing
sample_of t j (next ∷ under) = feed.Sampled (sampled_run t j next)

-- which of its own items a level takes, by the parity of its period: only the young ones in an odd one, but all at the bottom
abbrev pub own_items : Bool → List Marks → Part
own_items odd [] = All
own_items odd (next ∷ under) = if odd then Young else All

-- whether incoming items are marked young: in an even period, but not at the bottom
abbrev pub marks_young : Bool → List Marks → Bool
marks_young odd [] = false
marks_young odd (next ∷ under) = not odd

-- nothing lies below the bottom
abbrev pub is_bottom : List Marks → Bool
is_bottom [] = true
is_bottom (next ∷ under) = false

-- the aim of level j, whose own run has `own` cells, with what comes in from above, where the levels below it have these marks
abbrev pub aim_with : ℕ → ℕ → ℕ → Feed → List Marks → Aim
aim_with t j own incoming below = record {
  level = j;
  slot = 1 - visible_slot t j;
  own = feed.Run (visible_run t j own);
  incoming = incoming;
  sample = sample_of t j below;
  part = own_items (is_odd (period t j)) below;
  young = marks_young (is_odd (period t j)) below;
  bottom = is_bottom below;
}

-- the aim of level i + 1, below a visible run of `above` cells
abbrev pub aim_at : ℕ → ℕ → ℕ → ℕ → List Marks → Aim
aim_at t i own above below = aim_with t (suc i) own (feed.Run (visible_run t i above)) below

-- the aim of level 0, which takes in one cell
abbrev pub top_at : ℕ → ℕ → Cell → List Marks → Aim
top_at t own c below = aim_with t 0 own (feed.One c) below
