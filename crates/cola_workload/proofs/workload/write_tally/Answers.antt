-- The line that was written is that of the tally.
use Rattle.std.proofs.Common.{◌∙◌, ℕ, List, subst}
use Rattle.cola_report.specs.Line.{LineEnds}
use Rattle.cola_workload.proofs.workload.write_tally.Goals as goal

pub returns : goal.returns
returns g c =
    subst (λ (text : List ℕ). LineEnds g.K.Sink text 0 c.args.sink.now c.write_line.new.sink c.write_line.result) (c.as_slice.ensures.value ∙ c.line_of-text.ensures) c.write_line.ensures
