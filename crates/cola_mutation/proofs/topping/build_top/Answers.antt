-- The build of level 0.
use Rattle.std.proofs.Common.{ℕ, [], Result, Ok, Err, sym, ap, subst}
use Rattle.cola_cell.specs.declared.fault.StepFault.{StepFault}
use Rattle.cola_merge.specs.declared.aims.Aim.{Aim}
use Rattle.cola_merge.specs.declared.merging.Merger.{Merger}
use Rattle.cola_merge.specs.Heads.{fresh, IsReady}
use Rattle.cola_merge.specs.Advance.{Advances}
use Rattle.cola_level.specs.Marks.{marks_of}
use Rattle.cola_mutation.specs.Work.{state_of, with_merger, build_aim, Builds}
use Rattle.cola_mutation.proofs.Building.{builds_ok, builds_err}
use Rattle.cola_mutation.proofs.Turning.{err_is}
use Rattle.cola_mutation.proofs.topping.build_top.Goals as goal

pub advance-requires : goal.advance-requires
advance-requires g c =
    subst (λ (m : Merger). IsReady (g.W.CellSource.state c.args.work.now).held c.top_aim-aim.result m) (sym c.begin-merger.ensures)
    (subst (λ (a : Aim). IsReady (g.W.CellSource.state c.args.work.now).held a fresh) (sym (c.top_aim-aim.ensures [])) c.requires.ready)

pub returns-in_err-advance-clause-builds : goal.returns-in_err-advance-clause-builds
returns-in_err-advance-clause-builds g c =
    let t = c.args.clock in
    let next = marks_of c.args.next.now in
    let s = state_of (g.W.CellSource.state c.args.work.now) c.args.steps.now in
    let u = state_of (g.W.CellSource.state c.advance.new.work) c.advance.new.steps in
    let n = c.advance.new.self in
    let fault = c.in_err-advance.field-0.0 in
    subst (λ (r : Result _ StepFault). Builds t c.args.cell s u c.args.top.now c.args.top.now next r) (sym (err_is c.from_residual.result fault c.from_residual.ensures.1))
    (builds_err fault t c.args.cell s u c.args.top.now next n c.requires.empty
    (subst (λ (m : Merger). Advances (build_aim t c.args.cell c.args.top.now next) (with_merger s m) (with_merger u n) 7 (Err fault)) c.begin-merger.ensures
    (subst (λ (a : Aim). Advances a (with_merger s c.begin-merger.result) (with_merger u n) 7 (Err fault)) (c.top_aim-aim.ensures []) c.in_err-advance.ensures.advances)))

pub returns-clause-builds : goal.returns-clause-builds
returns-clause-builds g c =
    let t = c.args.clock in
    let next = marks_of c.args.next.now in
    let s = state_of (g.W.CellSource.state c.args.work.now) c.args.steps.now in
    let u = state_of (g.W.CellSource.state c.advance.new.work) c.advance.new.steps in
    let n = c.advance.new.self in
    let progress = c.in_ok-advance.field-0 in
    builds_ok _ progress t c.args.cell s u c.args.top.now (record { visible = c.args.top.now.visible; shadow = c.shadow_len-top.result; merger = c.args.top.now.merger }) next n c.requires.empty
    (subst (λ (m : Merger). Advances (build_aim t c.args.cell c.args.top.now next) (with_merger s m) (with_merger u n) 7 (Ok progress)) c.begin-merger.ensures
    (subst (λ (a : Aim). Advances a (with_merger s c.begin-merger.result) (with_merger u n) 7 (Ok progress)) (c.top_aim-aim.ensures []) c.in_ok-advance.ensures.advances))
    (ap (λ (n : ℕ). record { visible = c.args.top.now.visible; shadow = n; merger = c.args.top.now.merger }) c.shadow_len-top.ensures.value)
