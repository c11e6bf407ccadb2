-- One step of the heads that are held.
use Rattle.std.proofs.Common.{◌+◌, ◌<◌, sym, subst}
use Rattle.cola_merge.specs.Fetched.{Head}
use Rattle.cola_merge.specs.Rules.{choice_cell}
use Rattle.cola_merge.specs.States.{state}
use Rattle.cola_merge.proofs.Reading.{heads_of, with_same, with_passed, err_is}
use Rattle.cola_merge.proofs.Stepping.{took_step, refused_step, small_after}
use Rattle.cola_merge.proofs.merging.Merger.step.Goals as goal

pub pass-requires : goal.pass-requires
pass-requires g c =
    subst (λ (h : Head). h.at + 1 < 4294967296) (sym c.head_mut-head.ensures.value) (small_after c.args.choice.now.head (heads_of c.requires.ready) c.requires.levels)

pub returns-in_err-emit-clause-stepped : goal.returns-in_err-emit-clause-stepped
returns-in_err-emit-clause-stepped g c =
    let s = state (g.W.CellSource.state c.args.work.now) c.args.self.now c.args.steps.now in
    rw (with_same c.args.self.now c.args.choice.now.head c.head_mut-head.result.now c.head_mut-head.ensures.value, err_is c.from_residual.result c.in_err-emit.field-0.0 c.from_residual.ensures.1)
    (refused_step s (g.W.CellSource.state c.emit.new.work) c.emit.new.steps c.args.choice.now.head (choice_cell c.args.self.now c.args.choice.now) c.in_err-emit.field-0.0 c.requires.ready c.requires.fetched c.requires.asked
    (rw c.head_mut-head.ensures.value at c.in_err-emit.ensures.adds))

pub returns-clause-stepped : goal.returns-clause-stepped
returns-clause-stepped g c =
    let s = state (g.W.CellSource.state c.args.work.now) c.args.self.now c.args.steps.now in
    rw (with_passed c.args.self.now c.args.choice.now.head c.head_mut-head.result.now c.pass.new.self c.head_mut-head.ensures.value c.pass.ensures)
    (took_step s (g.W.CellSource.state c.emit.new.work) c.emit.new.steps c.args.choice.now.head (choice_cell c.args.self.now c.args.choice.now) c.requires.ready c.requires.fetched c.requires.asked
    (rw c.head_mut-head.ensures.value at c.in_ok-emit.ensures.adds))
