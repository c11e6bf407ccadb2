use Rattle.std.proofs.Common.{None, Some, refl, sym, ◌∙◌}
use Rattle.cola_shapes.specs.Shapes.{shape_of}
use Rattle.cola_load.proofs.Chains.{pair_tested}
use Rattle.cola_load.proofs.said.pair.Goals as goal

pub returns-in_default-clause-means : goal.returns-in_default-clause-means
returns-in_default-clause-means c limit = pair_tested (shape_of c.args.format limit) c.args.key.now c.args.value.now None _ (sym c.in_default.is ∙ c.key_of.ensures.tested limit) refl

pub returns-in-Some-value_of-clause-means : goal.returns-in-Some-value_of-clause-means
returns-in-Some-value_of-clause-means c limit =
    pair_tested (shape_of c.args.format limit) c.args.key.now c.args.value.now (Some c.in-Some.key) (Some c.in-Some-value_of.value) (c.in-Some.ensures.tested limit) (c.in-Some-value_of.ensures.tested limit)

pub returns-in-None-clause-means : goal.returns-in-None-clause-means
returns-in-None-clause-means c limit = pair_tested (shape_of c.args.format limit) c.args.key.now c.args.value.now (Some c.in-Some.key) None (c.in-Some.ensures.tested limit) (c.in-None.ensures.tested limit)
