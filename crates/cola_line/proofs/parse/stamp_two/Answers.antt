use Rattle.std.proofs.Common.{refl}
use Rattle.cola_cell.specs.declared.format.Format.TheVariants.{Two}
use Rattle.cola_shapes.specs.Shapes.{shape_of}
use Rattle.cola_line.proofs.Choices.{stamp_taken}
use Rattle.cola_line.proofs.parse.stamp_two.Goals as goal

pub returns-in_err-key-clause-means : goal.returns-in_err-key-clause-means
returns-in_err-key-clause-means c limit = rw (c.from_residual-in_err-key.ensures, stamp_taken (shape_of Two limit) _ refl, ← c.in_ok-one.ensures) (rw (← c.in_err-key.ensures.tested limit) refl)

pub returns-clause-means : goal.returns-clause-means
returns-clause-means c limit = rw (stamp_taken (shape_of Two limit) _ refl, ← c.in_ok-one.ensures) (rw (← c.in_ok-key.ensures.tested limit) refl)
