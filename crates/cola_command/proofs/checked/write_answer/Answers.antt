-- The line that is written is that of the verdict.
use Rattle.std.proofs.Common.{◌∙◌, ℕ, List, Result, sym, subst}
use Rattle.cola_check.specs.declared.fault.CheckFault.{CheckFault}
use Rattle.cola_report.specs.Line.{LineEnds}
use Rattle.cola_verdict.specs.declared.verdict.Verdict.{Verdict}
use Rattle.cola_command.specs.Checked.{verdict_line, verdict_status, Tells}
use Rattle.cola_command.proofs.checked.write_answer.Goals as goal

pub returns-in-Ok : goal.returns-in-Ok
returns-in-Ok g c =
    let line : LineEnds g.K.Sink (verdict_line c.in-Ok.verdict) c.status_of.result c.args.sink.now c.write_line.new.sink c.write_line.result =
    subst (λ (text : List ℕ). LineEnds g.K.Sink text c.status_of.result c.args.sink.now c.write_line.new.sink c.write_line.result) (c.as_slice.ensures.value ∙ c.line_of.ensures) c.write_line.ensures in
    let wrote : LineEnds g.K.Sink (verdict_line c.in-Ok.verdict) (verdict_status c.in-Ok.verdict) c.args.sink.now c.write_line.new.sink c.write_line.result =
    subst (λ (n : ℕ). LineEnds g.K.Sink (verdict_line c.in-Ok.verdict) n c.args.sink.now c.write_line.new.sink c.write_line.result) c.status_of.ensures line in
    subst (λ (x : Result Verdict CheckFault). Tells g.K.Sink x c.args.sink.now c.write_line.new.sink c.write_line.result) (sym c.in-Ok.is) wrote
