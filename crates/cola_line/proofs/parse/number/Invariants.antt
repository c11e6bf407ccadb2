use Rattle.std.proofs.Common.{◌≤◌, length}
use Rattle.cola_spec.proofs.Digits.{IsNext}
use Rattle.cola_line.proofs.parse.number.Given as goal

abbrev pub invariant-loop-digit : goal.invariant-loop-digit
invariant-loop-digit l = record { few : length l.word ≤ 19; so_far : IsNext l.word l.digit-index l.value }
