-- The line that is written is that of the word.
use Rattle.std.proofs.Common.{◌∙◌, ℕ, List, subst}
use Rattle.cola_report.specs.Line.{LineEnds}
use Rattle.cola_filling.proofs.loading.write_word.Goals as goal

pub returns : goal.returns
returns g c =
    subst (λ (text : List ℕ). LineEnds g.K.Sink text 14 c.args.sink.now c.write_line.new.sink c.write_line.result) (c.as_slice.ensures.value ∙ c.line_of_word.ensures) c.write_line.ensures
