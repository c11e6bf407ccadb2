use Rattle.std.proofs.Common.{◌≡◌, ◌∙◌, ap, subst, map, IfOk}
use Rattle.cola_spec.specs.Map.{empty_map}
use Rattle.cola_spec.specs.Lines.{raw_lines}
use Rattle.cola_spec.specs.Command.{requests}
use Rattle.cola_spec.specs.Machine.{Open}
use Rattle.cola_plain.specs.Command.{request_with, shape_of}
use Rattle.cola_plain.specs.Session.{SessionStands}
use Rattle.cola_plain.specs.Scripts.{scripted_last, scripted_turns}
use Rattle.cola_plain.specs.Turns.{turns_with}
use Rattle.cola_plain.proofs.SessionLemmas.{ok_first}
use Rattle.cola_plain.proofs.script.scripted_session.Goals as goal

pub returns-clause-turns : goal.returns-clause-turns
returns-clause-turns c =
    let shape = shape_of c.args.shape.now in
    let script = c.args.script.now in
    ok_first (λ turns. turns_with turns.items ≡ scripted_turns script shape (Open empty_map) (requests shape (raw_lines c.args.bytes.now))) _ c.scripted_run.result
    (subst (λ asked. IfOk c.scripted_run.result (λ turns. (turns_with turns.items ≡ scripted_turns script shape (Open empty_map) asked) × SessionStands c.scripted_run.new.self (scripted_last script shape (Open empty_map) asked)))
    (ap (map request_with) c.deref.ensures.value ∙ c.in_ok-asked.ensures)
    (c.scripted_run.ensures.turns (Open empty_map) c.new.ensures))
