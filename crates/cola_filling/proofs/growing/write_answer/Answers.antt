-- The line that is written is that of the number of rows.
use Rattle.std.proofs.Common.{◌∙◌, ℕ, List, Result, sym, subst}
use Rattle.cola_load.specs.declared.fault.GrowFault.{GrowFault}
use Rattle.cola_report.specs.Line.{LineEnds}
use Rattle.cola_filling.specs.Loads.{loaded_line}
use Rattle.cola_filling.specs.Grows.{Tells}
use Rattle.cola_filling.proofs.growing.write_answer.Goals as goal

pub returns-in-Ok : goal.returns-in-Ok
returns-in-Ok g c =
    let line : LineEnds g.K.Sink (loaded_line c.in-Ok.rows) 0 c.args.sink.now c.write_line.new.sink c.write_line.result =
    subst (λ (text : List ℕ). LineEnds g.K.Sink text 0 c.args.sink.now c.write_line.new.sink c.write_line.result) (c.as_slice.ensures.value ∙ c.line_of_rows.ensures) c.write_line.ensures in
    subst (λ (x : Result ℕ GrowFault). Tells g.K.Sink x c.args.sink.now c.write_line.new.sink c.write_line.result) (sym c.in-Ok.is) line
