use Rattle.std.proofs.Common.{◌∙◌, ap, arith, inr, ◌++◌, take}
use Rattle.cola_spec.specs.Lines.{raw_lines}
use Rattle.cola_spec.specs.Command.{requests}
use Rattle.cola_spec.specs.Machine.{plain_last}
use Rattle.cola_plain.specs.Command.{shape_of}
use Rattle.cola_plain.specs.Lines.{texts}
use Rattle.cola_plain.proofs.SessionLemmas.{run_stops, turns_go_on}
use Rattle.cola_plain.proofs.session.Session.run.Goals as goal

pub loop-raw-preserved : goal.loop-raw-preserved
loop-raw-preserved c state stands =
    let before = c.loop-raw.invariant state stands in
    let shape = shape_of c.args.shape.now in
    let items = c.deref-raw-items.result.now in
    let here = c.in_ok-reply.ensures.text (plain_last shape state (requests shape (texts (take c.loop-raw.raw-index items)))) before.1 in
    turns_go_on shape state items c.loop-raw.raw-index _ c.loop-raw.text.items c.in_ok-reply.reply.items c.extend_from_slice.new.self.items c.answer_line.new.self (omega arith)
    before.0 here.0 (c.in_ok-extend_from_slice.ensures.items ∙ ap (λ xs. c.loop-raw.text.items ++ xs) c.deref.ensures.value) here.1

pub returns-in_err-reply-clause-refused : goal.returns-in_err-reply-clause-refused
returns-in_err-reply-clause-refused c state stands =
    let before = c.loop-raw.invariant state stands in
    let shape = shape_of c.args.shape.now in
    let items = c.deref-raw-items.result.now in
    run_stops c.from_residual-in_err-reply.result shape state items (raw_lines c.args.bytes.now) c.loop-raw.raw-index _ c.answer_line.new.self (omega arith) (ap texts c.deref-raw-items.ensures.value ∙ c.in_ok-lines.ensures)
    (c.in_err-reply.ensures.refused (plain_last shape state (requests shape (texts (take c.loop-raw.raw-index items)))) before.1)

pub returns-in_err-extend_from_slice-clause-refused : goal.returns-in_err-extend_from_slice-clause-refused
returns-in_err-extend_from_slice-clause-refused c state stands =
    let before = c.loop-raw.invariant state stands in
    let shape = shape_of c.args.shape.now in
    let items = c.deref-raw-items.result.now in
    let here = c.in_ok-reply.ensures.text (plain_last shape state (requests shape (texts (take c.loop-raw.raw-index items)))) before.1 in
    run_stops c.from_residual-in_err-extend_from_slice.result shape state items (raw_lines c.args.bytes.now) c.loop-raw.raw-index _ c.answer_line.new.self (omega arith) (ap texts c.deref-raw-items.ensures.value ∙ c.in_ok-lines.ensures)
    (inr here.1)
