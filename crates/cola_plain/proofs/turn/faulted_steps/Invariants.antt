use Rattle.std.proofs.Common.{◌≡◌, ◌≤◌, ◌+◌, drop}
use Rattle.cola_spec.specs.Machine.{faulted_steps}
use Rattle.cola_plain.specs.Turns.{turns_with}
use Rattle.cola_plain.proofs.turn.faulted_steps.Given as goal

abbrev pub invariant-loop-turn : goal.invariant-loop-turn
invariant-loop-turn l = record { few : l.steps ≤ l.turn-index; so_far : l.steps + faulted_steps (turns_with (drop l.turn-index l.turns)) ≡ faulted_steps (turns_with l.turns) }
