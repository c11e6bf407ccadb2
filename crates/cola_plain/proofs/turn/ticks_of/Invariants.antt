use Rattle.std.proofs.Common.{◌≡◌, ◌≤◌, ◌+◌, ◌-◌, ◌^◌, drop}
use Rattle.cola_spec.specs.Machine.{ticks_of}
use Rattle.cola_plain.specs.Turns.{turns_with}
use Rattle.cola_plain.proofs.BoundLemmas.{in_word}
use Rattle.cola_plain.proofs.turn.ticks_of.Given as goal

abbrev pub invariant-loop-turn : goal.invariant-loop-turn
invariant-loop-turn l = record { small : l.ticks ≤ 2 ^ 64 - 1; so_far : in_word (l.ticks + ticks_of (turns_with (drop l.turn-index l.turns))) ≡ in_word (ticks_of (turns_with l.turns)) }
