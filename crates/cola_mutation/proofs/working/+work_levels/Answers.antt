-- The turns of all levels: those that rest are passed over, and then the first that works, and the others.
use Rattle.std.proofs.Common.{ℕ, List, ◌∷◌, ◌++◌, take, drop, Result, Ok, sym, subst, add-one, arith, ap, ◌∙◌, ◌≡◌, ◌+◌, []}
use Rattle.cola_cell.specs.declared.fault.StepFault.{StepFault}
use Rattle.cola_level.specs.declared.level.Level.{Level}
use Rattle.cola_mutation.specs.Levels.{AreFit}
use Rattle.cola_mutation.specs.Work.{state_of, TakeTurns}
use Rattle.cola_mutation.proofs.Turning.{turns_no_level, turns_refused, turns_then, past_turns, past_fit, rest_fit, err_is}
use Rattle.cola_mutation.proofs.working.+work_levels.Goals as goal

pub returns-in_default-clause-turns : goal.returns-in_default-clause-turns
returns-in_default-clause-turns g t c =
    let s = state_of (g.W.CellSource.state c.args.work.now) c.args.steps.now in
    past_turns (Ok tt) c.args.clock c.args.upper c.args.above c.resting-rest.result s s c.args.levels.now c.split_at_mut-left.result.1.now c.resting-rest.ensures.rest c.requires.fit c.resting-rest.ensures.few
    c.above_behind-over.ensures c.split_at_mut-left.ensures.front c.split_at_mut-left.ensures.back
    (turns_no_level tt c.args.clock (c.args.upper + c.resting-rest.result) c.above_behind-over.result s c.split_at_mut-left.result.1.now c.in_default.ensures.cases)

pub work_now-requires-clause-fits : goal.work_now-requires-clause-fits
work_now-requires-clause-fits g t c =
    (past_fit (g.W.CellSource.state c.args.work.now).held c.args.clock c.args.upper c.args.above c.resting-rest.result c.args.levels.now c.in-Some.level.now c.in-Some.below.now c.requires.fit c.resting-rest.ensures.few
    c.above_behind-over.ensures c.split_at_mut-left.ensures.back c.in-Some.ensures.cases.0).0

pub returns-in_err-work_now-clause-turns : goal.returns-in_err-work_now-clause-turns
returns-in_err-work_now-clause-turns g t c =
    let s = state_of (g.W.CellSource.state c.args.work.now) c.args.steps.now in
    let u = state_of (g.W.CellSource.state c.work_now.new.work) c.work_now.new.steps in
    let fit = past_fit (g.W.CellSource.state c.args.work.now).held c.args.clock c.args.upper c.args.above c.resting-rest.result c.args.levels.now c.in-Some.level.now c.in-Some.below.now c.requires.fit c.resting-rest.ensures.few
    c.above_behind-over.ensures c.split_at_mut-left.ensures.back c.in-Some.ensures.cases.0 in
    let fault = c.in_err-work_now.field-0.0 in
    let number = c.args.upper + c.resting-rest.result in
    past_turns c.from_residual.result c.args.clock c.args.upper c.args.above c.resting-rest.result s u c.args.levels.now (c.work_now.new.level ∷ c.in-Some.below.now) c.resting-rest.ensures.rest c.requires.fit c.resting-rest.ensures.few
    c.above_behind-over.ensures c.split_at_mut-left.ensures.front (sym c.in-Some.ensures.cases.0 ∙ c.split_at_mut-left.ensures.back)
    (subst (λ (r : Result _ StepFault). TakeTurns c.args.clock number c.above_behind-over.result s u (c.in-Some.level.now ∷ c.in-Some.below.now) (c.work_now.new.level ∷ c.in-Some.below.now) r)
    (sym (err_is c.from_residual.result fault c.from_residual.ensures.1))
    (turns_refused fault c.args.clock number c.above_behind-over.result s u c.in-Some.level.now c.work_now.new.level c.in-Some.below.now fit.0 fit.1 c.in_err-work_now.ensures.turn))

pub work_levels-requires : goal.work_levels-requires
work_levels-requires g t c κs within =
    let s = state_of (g.W.CellSource.state c.args.work.now) c.args.steps.now in
    let u = state_of (g.W.CellSource.state c.work_now.new.work) c.work_now.new.steps in
    let number = c.args.upper + c.resting-rest.result in
    let fit = past_fit (g.W.CellSource.state c.args.work.now).held c.args.clock c.args.upper c.args.above c.resting-rest.result c.args.levels.now c.in-Some.level.now c.in-Some.below.now c.requires.fit c.resting-rest.ensures.few
    c.above_behind-over.ensures c.split_at_mut-left.ensures.back c.in-Some.ensures.cases.0 in
    let fewer = c.in-Some.ensures.cases.1 in
    let back = c.split_at_mut-left.ensures.back_len in (
      omega (arith, fewer, back, c.decreases),
      (
        within.0,
        (
          within.1,
          (
            subst (λ (n : ℕ). AreFit (g.W.CellSource.state c.work_now.new.work).held c.args.clock n c.work_now.new.level.visible c.in-Some.below.now) (sym (add-one number))
                (rest_fit c.work_now.result c.args.clock number c.above_behind-over.result s u c.in-Some.level.now c.work_now.new.level c.in-Some.below.now fit c.work_now.ensures.turn),
            (c.requires.clock_in, omega (arith, fewer, back, c.requires.levels_in)),
          ),
        ),
      ),
    )

pub returns-clause-turns : goal.returns-clause-turns
returns-clause-turns g t c =
    let s = state_of (g.W.CellSource.state c.args.work.now) c.args.steps.now in
    let u = state_of (g.W.CellSource.state c.work_now.new.work) c.work_now.new.steps in
    let v = state_of (g.W.CellSource.state c.work_levels.new.work) c.work_levels.new.steps in
    let number = c.args.upper + c.resting-rest.result in
    let fit = past_fit (g.W.CellSource.state c.args.work.now).held c.args.clock c.args.upper c.args.above c.resting-rest.result c.args.levels.now c.in-Some.level.now c.in-Some.below.now c.requires.fit c.resting-rest.ensures.few
    c.above_behind-over.ensures c.split_at_mut-left.ensures.back c.in-Some.ensures.cases.0 in
    let rest = subst (λ (n : ℕ). TakeTurns c.args.clock n c.work_now.new.level.visible u v c.in-Some.below.now c.work_levels.new.levels c.work_levels.result) (add-one number) c.work_levels.ensures.turns in
    past_turns c.work_levels.result c.args.clock c.args.upper c.args.above c.resting-rest.result s v c.args.levels.now (c.work_now.new.level ∷ c.work_levels.new.levels) c.resting-rest.ensures.rest c.requires.fit c.resting-rest.ensures.few
    c.above_behind-over.ensures c.split_at_mut-left.ensures.front (sym c.in-Some.ensures.cases.0 ∙ c.split_at_mut-left.ensures.back)
    (turns_then c.work_levels.result c.in_ok-work_now.field-0 c.args.clock number c.above_behind-over.result s u v c.in-Some.level.now c.work_now.new.level c.in-Some.below.now c.work_levels.new.levels fit.0 c.in_ok-work_now.ensures.turn rest)
