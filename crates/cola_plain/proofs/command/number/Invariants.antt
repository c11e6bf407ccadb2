use Rattle.std.proofs.Common.{◌≤◌, length}
use Rattle.cola_spec.proofs.Digits.{IsNext}
use Rattle.cola_plain.proofs.command.number.Given as goal

abbrev pub invariant-loop-byte : goal.invariant-loop-byte
invariant-loop-byte l = record { few : length l.word ≤ 19; so_far : IsNext l.word l.byte-index l.value }
