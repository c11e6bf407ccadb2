use Rattle.std.proofs.Common.{refl}
use Rattle.cola_line.proofs.Choices.{range_taken}
use Rattle.cola_line.proofs.parse.range.Goals as goal

pub returns-in_err-low-2-clause-means : goal.returns-in_err-low-2-clause-means
returns-in_err-low-2-clause-means c limit = rw (c.from_residual-in_err-low-2.ensures, range_taken, ← c.in_ok-low.ensures) (rw (← c.in_err-low-2.ensures.tested limit) refl)

pub returns-in_err-high-clause-means : goal.returns-in_err-high-clause-means
returns-in_err-high-clause-means c limit = rw (c.from_residual-in_err-high.ensures, range_taken, ← c.in_ok-low.ensures) (rw (← c.in_ok-low-2.ensures.tested limit, ← c.in_err-high.ensures.tested limit) refl)

pub returns-clause-means : goal.returns-clause-means
returns-clause-means c limit = rw (range_taken, ← c.in_ok-low.ensures) (rw (← c.in_ok-low-2.ensures.tested limit, ← c.in_ok-high.ensures.tested limit) refl)
