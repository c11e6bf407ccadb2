use Rattle.std.proofs.Common.{◌≡◌, false, take}
use Rattle.cola_spec.specs.Command.{requests}
use Rattle.cola_spec.specs.Machine.{State, plain_last, plain_turns, turns_text}
use Rattle.cola_plain.specs.Command.{shape_of}
use Rattle.cola_plain.specs.Lines.{texts}
use Rattle.cola_plain.specs.Session.{SessionStands}
use Rattle.cola_plain.proofs.session.Session.run.Given as goal

abbrev pub invariant-loop-raw : goal.invariant-loop-raw
invariant-loop-raw l =
    (state : State) → SessionStands l.fn.self state
    → (l.text.items ≡ turns_text false (plain_turns (shape_of l.shape) state (requests (shape_of l.shape) (texts (take l.raw-index l.raw-items)))))
    × SessionStands l.self (plain_last (shape_of l.shape) state (requests (shape_of l.shape) (texts (take l.raw-index l.raw-items))))
