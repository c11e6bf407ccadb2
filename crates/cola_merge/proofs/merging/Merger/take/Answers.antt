-- One step: what the heads ask for, done.
use Rattle.std.proofs.Common.{◌<◌, ◌≤◌, sym, subst}
use Rattle.cola_cell.specs.Fault.{step_of_read, step_of_push}
use Rattle.cola_cell.specs.Held.{Held}
use Rattle.cola_merge.proofs.Sums.{took_then, refused_then}
use Rattle.cola_merge.proofs.Reading.{err_is}
use Rattle.cola_merge.proofs.Ruling.{ended_is_used_up}
use Rattle.cola_merge.proofs.Taking.{took_look, refused_look}
use Rattle.cola_merge.proofs.merging.Merger.take.Goals as goal

pub step-requires-clause-ready : goal.step-requires-clause-ready
step-requires-clause-ready g c = (took_look c.requires.ready c.in_ok-choice.ensures.next.looked).goes.ready

pub step-requires-clause-asked : goal.step-requires-clause-asked
step-requires-clause-asked g c = (rw c.in-Some.is at c.in_ok-choice.ensures.next).asked

pub step-requires-clause-suits : goal.step-requires-clause-suits
step-requires-clause-suits g c = (rw c.in-Some.is at c.in_ok-choice.ensures.next).suits

pub step-requires-clause-levels : goal.step-requires-clause-levels
step-requires-clause-levels g c = subst (λ (h : Held). h.fixed.levels ≤ 23) (sym c.in_ok-choice.ensures.next.looked.looks.cells_stay) c.requires.levels

pub step-requires-clause-slot_in : goal.step-requires-clause-slot_in
step-requires-clause-slot_in g c = subst (λ (h : Held). (h.shadows c.args.aim.now.level).slot < 2) (sym c.in_ok-choice.ensures.next.looked.looks.cells_stay) c.requires.slot_in

pub returns-in_err-choice-clause-taken : goal.returns-in_err-choice-clause-taken
returns-in_err-choice-clause-taken g c =
    rw (err_is c.from_residual.result (step_of_read c.in_err-choice.field-0.0) c.from_residual.ensures.1)
    (refused_look c.requires.ready c.in_err-choice.field-0.0 c.in_err-choice.ensures.next)

pub returns-in_default-clause-taken : goal.returns-in_default-clause-taken
returns-in_default-clause-taken g c =
    let k = rw c.in_default.is at c.in_ok-choice.ensures.next in (took_look c.requires.ready k.looked, ended_is_used_up c.args.aim.now c.next.new.self k.fetched k.asked)

pub returns-in_err-step-clause-taken : goal.returns-in_err-step-clause-taken
returns-in_err-step-clause-taken g c =
    rw (err_is c.from_residual-in_err-step.result (step_of_push c.in_err-step.field-0.0) c.from_residual-in_err-step.ensures.1)
    (refused_then c.requires.ready (took_look c.requires.ready c.in_ok-choice.ensures.next.looked) c.in_err-step.ensures.stepped)

pub returns-clause-taken : goal.returns-clause-taken
returns-clause-taken g c =
    took_then c.requires.ready (took_look c.requires.ready c.in_ok-choice.ensures.next.looked) c.in_ok-step.ensures.stepped
