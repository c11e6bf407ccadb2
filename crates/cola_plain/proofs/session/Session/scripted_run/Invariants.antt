use Rattle.cola_spec.specs.Machine.{State}
use Rattle.cola_plain.specs.Command.{shape_of}
use Rattle.cola_plain.specs.Session.{SessionStands}
use Rattle.cola_plain.proofs.ScriptLemmas.{IsGoing}
use Rattle.cola_plain.proofs.session.Session.scripted_run.Given as goal

abbrev pub invariant-loop-place : goal.invariant-loop-place
invariant-loop-place l = (state : State) → SessionStands l.fn.self state → IsGoing l.script (shape_of l.shape) state l.requests l.turns.items l.place l.self
