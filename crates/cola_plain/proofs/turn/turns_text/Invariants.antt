use Rattle.std.proofs.Common.{◌≡◌, take}
use Rattle.cola_spec.specs.Machine.{turns_text}
use Rattle.cola_plain.specs.Turns.{turns_with}
use Rattle.cola_plain.proofs.turn.turns_text.Given as goal

abbrev pub invariant-loop-turn : goal.invariant-loop-turn
invariant-loop-turn l = l.text.items ≡ turns_text l.cost (turns_with (take l.turn-index l.turns))
