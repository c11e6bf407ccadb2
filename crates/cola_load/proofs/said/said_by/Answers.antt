use Rattle.cola_load.proofs.said.said_by.Goals as goal
use Rattle.std.proofs.Common.{◌∙◌, sym}
use Rattle.cola_shapes.specs.Shapes.{shape_of}
use Rattle.cola_load.proofs.Chains.{some_said}

pub returns-clause-means : goal.returns-clause-means
returns-clause-means c limit =
    rw c.in-Some.is (c.some_text.ensures.means limit ∙ some_said (shape_of c.args.format limit) c.in-Some.text.now (sym (c.if-is_empty.ensures)))
