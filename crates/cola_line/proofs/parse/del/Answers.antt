use Rattle.std.proofs.Common.{refl}
use Rattle.cola_line.proofs.Choices.{del_taken}
use Rattle.cola_line.proofs.parse.del.Goals as goal

pub returns-in_err-key-clause-means : goal.returns-in_err-key-clause-means
returns-in_err-key-clause-means c limit = rw (c.from_residual-in_err-key.ensures, del_taken, ← c.in_ok-one.ensures) (rw (← c.in_err-key.ensures.tested limit) refl)

pub returns-clause-means : goal.returns-clause-means
returns-clause-means c limit = rw (del_taken, ← c.in_ok-one.ensures) (rw (← c.in_ok-key.ensures.tested limit) refl)
