use Rattle.std.proofs.Common.{refl}
use Rattle.cola_cell.specs.declared.format.Format.TheVariants.{Two}
use Rattle.cola_shapes.specs.Shapes.{shape_of}
use Rattle.cola_line.proofs.Choices.{put_if_taken}
use Rattle.cola_line.proofs.parse.put_if_two.Goals as goal

pub returns-in_err-key-2-clause-means : goal.returns-in_err-key-2-clause-means
returns-in_err-key-2-clause-means c limit = rw (c.from_residual-in_err-key-2.ensures, put_if_taken (shape_of Two limit) _ refl, ← c.in_ok-key.ensures) (rw (← c.in_err-key-2.ensures.tested limit) refl)

pub returns-in_err-value-clause-means : goal.returns-in_err-value-clause-means
returns-in_err-value-clause-means c limit = rw (c.from_residual-in_err-value.ensures, put_if_taken (shape_of Two limit) _ refl, ← c.in_ok-key.ensures) (rw (← c.in_ok-key-2.ensures.tested limit, ← c.in_ok-seen.ensures, ← c.in_err-value.ensures.tested limit) refl)

pub returns-clause-means : goal.returns-clause-means
returns-clause-means c limit = rw (put_if_taken (shape_of Two limit) _ refl, ← c.in_ok-key.ensures) (rw (← c.in_ok-key-2.ensures.tested limit, ← c.in_ok-seen.ensures, ← c.in_ok-value.ensures.tested limit) refl)
