-- One mutation.
use Rattle.std.proofs.Common.{◌≡◌, ℕ, suc, ◌-◌, ◌%◌, ◌^◌, List, length, Ok, sym, ap, subst, ◌∙◌}
use Rattle.cola_cell.specs.Shadows.{Restarts}
use Rattle.cola_level.specs.declared.level.Level.{Level}
use Rattle.cola_mutation.specs.Work.{state_of}
use Rattle.cola_mutation.specs.Standing.{new_cell}
use Rattle.cola_mutation.specs.Steps.{Mutates}
use Rattle.cola_mutation.proofs.Accepting.{done_all}
use Rattle.cola_mutation.proofs.Results.{steps_on, stays_back, clock_fits}
use Rattle.cola_mutation.proofs.stepping.step.Goals as goal

pub build_shadows-requires-clause-clock_in : goal.build_shadows-requires-clause-clock_in
build_shadows-requires-clause-clock_in g c = clock_fits c.requires.chain c.known.ensures

pub visible_slot-requires-clause-clock_in_range : goal.visible_slot-requires-clause-clock_in_range
visible_slot-requires-clause-clock_in_range g c = clock_fits c.requires.chain c.known.ensures

pub returns-in-Err-clause-steps : goal.returns-in-Err-clause-steps
returns-in-Err-clause-steps g c =
    let s = state_of (g.W.CellSource.state c.args.work.now) c.args.steps.now in
    let u = state_of (g.W.CellSource.state c.build_shadows.new.work) c.build_shadows.new.steps in
    stays_back s u (g.W.CellSource.state c.restart.new.self) c.args.clock c.args.key.now c.args.item.now c.in-Err.fault c.args.levels.now c.build_shadows.new.levels c.requires.chain c.in-Err.ensures.prepares
    (subst (λ (x : ℕ). Restarts u.held (g.W.CellSource.state c.restart.new.self).held 0 (1 - x)) c.visible_slot.ensures.value c.restart.ensures.restarts)
    c.restart.ensures.spends_nothing

pub end_levels-requires-clause-clock_in : goal.end_levels-requires-clause-clock_in
end_levels-requires-clause-clock_in g c = clock_fits c.requires.chain c.known.ensures

pub end_levels-requires-clause-done : goal.end_levels-requires-clause-done
end_levels-requires-clause-done g c =
    let s = state_of (g.W.CellSource.state c.args.work.now) c.args.steps.now in
    let u = state_of (g.W.CellSource.state c.build_shadows.new.work) c.build_shadows.new.steps in
    done_all c.args.clock (new_cell c.args.key.now c.args.item.now) s u c.args.levels.now c.build_shadows.new.levels c.requires.chain c.in_default.ensures.prepares

pub clock_after-requires-clause-clock_in : goal.clock_after-requires-clause-clock_in
clock_after-requires-clause-clock_in g c = clock_fits c.requires.chain c.known.ensures

pub returns-clause-steps : goal.returns-clause-steps
returns-clause-steps g c =
    let t = c.args.clock in
    let s = state_of (g.W.CellSource.state c.args.work.now) c.args.steps.now in
    let u = state_of (g.W.CellSource.state c.build_shadows.new.work) c.build_shadows.new.steps in
    let v = state_of (g.W.CellSource.state c.end_levels.new.work) c.build_shadows.new.steps in
    let done = steps_on s u (g.W.CellSource.state c.end_levels.new.work) t c.args.key.now c.args.item.now c.args.levels.now c.build_shadows.new.levels c.requires.chain c.in_default.ensures.prepares c.end_levels.ensures.restarted c.end_levels.ensures.spends_nothing in
    let next : c.clock_after.result ≡ suc t % 2 ^ length c.args.levels.now = c.clock_after.ensures ∙ ap (λ (n : ℕ). suc t % 2 ^ n) (ap (λ (ls : List Level). length ls) c.end_levels.ensures.ended ∙ done.counted) in
    subst (λ (n : ℕ). Mutates t c.args.key.now c.args.item.now s v c.args.levels.now c.end_levels.new.levels (Ok n)) (sym next)
    (subst (λ (ls : List Level). Mutates t c.args.key.now c.args.item.now s v c.args.levels.now ls (Ok (suc t % 2 ^ length c.args.levels.now))) (sym c.end_levels.ensures.ended) done)
