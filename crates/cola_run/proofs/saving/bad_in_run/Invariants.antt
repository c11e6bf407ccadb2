use Rattle.std.proofs.Common.{◌≢◌, ◌<◌, ℕ, None}
use Rattle.cola_cell.specs.Places.{number_of}
use Rattle.cola_front.specs.Front.{cell_at}
use Rattle.cola_run.proofs.saving.bad_in_run.Given as goal

abbrev pub invariant-loop-index : goal.invariant-loop-index
invariant-loop-index l = (i : ℕ) → i < l.index → cell_at l.front (number_of l.level l.slot i) ≢ None
