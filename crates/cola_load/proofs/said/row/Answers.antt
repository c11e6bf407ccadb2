use Rattle.std.proofs.Common.{ap, sym, ◌∙◌}
use Rattle.std.specs.Option.{option_copied}
use Rattle.cola_line.specs.Words.{words_left}
use Rattle.cola_shapes.specs.Shapes.{shape_of}
use Rattle.cola_load.proofs.Chains.{pair_in, row_taken}
use Rattle.cola_load.proofs.said.row.Goals as goal

pub returns-in-Some-clause-means : goal.returns-in-Some-clause-means
returns-in-Some-clause-means c limit =
    c.pair.ensures.means limit ∙ sym (row_taken (shape_of c.args.format limit) (words_left (option_copied c.args.words)) ∙ ap (pair_in (shape_of c.args.format limit)) (sym c.in-Some.ensures))
