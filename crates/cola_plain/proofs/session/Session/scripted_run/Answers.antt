use Rattle.std.proofs.Common.{arith, map, refl, subst, sym, ◌+◌, ◌∷◌, [], ◌++◌}
use Rattle.cola_spec.specs.Machine.{History}
use Rattle.cola_plain.specs.Command.{request_with, shape_of}
use Rattle.cola_plain.specs.Scripts.{scripted_last}
use Rattle.cola_plain.proofs.ScriptLemmas.{IsGoing, going_begins, going_ends, going_on, going_stops}
use Rattle.cola_plain.proofs.StepLaws.{script_is_run}
use Rattle.cola_plain.proofs.session.Session.scripted_run.Goals as goal

pub loop-place-init : goal.loop-place-init
loop-place-init c state stands = going_begins c.args.script.now (shape_of c.args.shape.now) state c.args.requests.now c.args.self.now c.new-turns.result.items c.new-turns.ensures.items stands

pub loop-place-preserved : goal.loop-place-preserved
loop-place-preserved c state stands =
    going_on c.args.script.now (shape_of c.args.shape.now) state c.args.requests.now c.loop-place.turns.items c.loop-place.place c.loop-place.self c.scripted_turn.new.self _ c.in_ok-turn.turn c.move_at.result c.push.new.self.items
    (omega arith) c.move_at.ensures c.in_ok-push.ensures.items (c.loop-place.invariant state stands) c.in_ok-turn.ensures.turn

pub returns-clause-turns : goal.returns-clause-turns
returns-clause-turns c state stands =
    going_ends c.args.script.now (shape_of c.args.shape.now) state c.args.requests.now c.loop-place.turns.items c.loop-place.place c.loop-place.self (omega arith) (c.loop-place.invariant state stands)

pub returns-clause-run : goal.returns-clause-run
returns-clause-run c state stands all =
    let ended = going_ends c.args.script.now (shape_of c.args.shape.now) state c.args.requests.now c.loop-place.turns.items c.loop-place.place c.loop-place.self (omega arith) (c.loop-place.invariant state stands) in
    let asked = map request_with c.args.requests.now in
    subst (λ turns. History (shape_of c.args.shape.now) state turns (scripted_last c.args.script.now (shape_of c.args.shape.now) state asked)) (sym ended.0)
    (script_is_run c.args.script.now (shape_of c.args.shape.now) state asked all)

pub returns-in_err-turn-clause-refused : goal.returns-in_err-turn-clause-refused
returns-in_err-turn-clause-refused c state stands =
    going_stops c.from_residual.result c.args.script.now (shape_of c.args.shape.now) state c.args.requests.now c.loop-place.turns.items c.loop-place.place c.loop-place.self c.scripted_turn.new.self (c.loop-place.invariant state stands) c.in_err-turn.ensures.kept

pub returns-in_err-push-clause-refused : goal.returns-in_err-push-clause-refused
returns-in_err-push-clause-refused c state stands =
    let asked = c.args.requests.now in
    let script = c.args.script.now in
    let shape = shape_of c.args.shape.now in
    let turns = c.loop-place.turns.items ++ c.in_ok-turn.turn ∷ [] in
    let going : IsGoing script shape state asked turns (c.loop-place.place + 1) c.scripted_turn.new.self =
    going_on script shape state asked c.loop-place.turns.items c.loop-place.place c.loop-place.self c.scripted_turn.new.self _ c.in_ok-turn.turn c.move_at.result turns
    (omega arith) c.move_at.ensures refl (c.loop-place.invariant state stands) c.in_ok-turn.ensures.turn in
    going_stops c.from_residual-in_err-push.result script shape state asked turns (c.loop-place.place + 1) c.scripted_turn.new.self c.scripted_turn.new.self going (λ now h. h)
