use Rattle.std.proofs.Common.{refl}
use Rattle.cola_line.proofs.Choices.{scan_taken}
use Rattle.cola_line.proofs.parse.scan.Goals as goal

pub returns-in_err-low-2-clause-means : goal.returns-in_err-low-2-clause-means
returns-in_err-low-2-clause-means c limit = rw (c.from_residual-in_err-low-2.ensures, scan_taken, ← c.in_ok-low.ensures) (rw (← c.in_err-low-2.ensures.tested limit) refl)

pub returns-clause-means : goal.returns-clause-means
returns-clause-means c limit = rw (scan_taken, ← c.in_ok-low.ensures) (rw (← c.in_ok-low-2.ensures.tested limit, ← c.in_ok-most.ensures) refl)
