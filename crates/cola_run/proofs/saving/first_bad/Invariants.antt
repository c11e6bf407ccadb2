use Rattle.std.proofs.Common.{◌≢◌, ◌<◌, ℕ, None}
use Rattle.cola_cell.specs.Places.{number_of}
use Rattle.cola_front.specs.Front.{cell_at}
use Rattle.cola_run.specs.Saving.{IsFrontRun}
use Rattle.cola_run.proofs.saving.first_bad.Given as goal

abbrev pub invariant-loop-level : goal.invariant-loop-level
invariant-loop-level x = (l s i : ℕ) → l < x.level → IsFrontRun x.header l s i → cell_at x.front (number_of l s i) ≢ None
