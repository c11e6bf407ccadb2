-- What the calls on the clock answer, in the program's own enums.
use Rattle.std.specs.Prelude.{ℕ, ◌==◌, if◌then◌else◌}
use Rattle.cola_clock.specs.Clock.{period, is_odd, works, is_over, window_step}
use Rattle.cola_clock.specs.declared.state.Phase.{Phase}
use Rattle.cola_clock.specs.declared.state.Phase.TheVariants.{Before, Inside, After}
use Rattle.cola_clock.specs.declared.state.Part.{Part}
use Rattle.cola_clock.specs.declared.state.Part.TheVariants.{All, Young}
use Rattle.cola_clock.specs.declared.state.Below.{Below}
use Rattle.cola_clock.specs.declared.state.Below.TheVariants.{Visible, Shadow, Nothing}

-- where level j of 1 and more stands in its period at clock t
unfoldable pub phase_at : ℕ → ℕ → Phase
phase_at t j = if works t j then Inside (window_step t j) else (if is_over t j then After else Before)

-- which items of its own visible run the next run of level j takes, in a store whose lowest level is `bottom`: all at
-- the bottom and in even periods, only young ones in odd periods of a level above it
unfoldable pub part_at : ℕ → ℕ → ℕ → Part
part_at t j bottom = if j == bottom then All else (if is_odd (period t j) then Young else All)

-- which run of level j + 1 the next run of level j is sampled from: the one that will be visible below it once it is
-- itself. None at the bottom
unfoldable pub below_at : ℕ → ℕ → ℕ → Below
below_at t j bottom = if j == bottom then Nothing else (if is_odd (period t j) then Shadow else Visible)
