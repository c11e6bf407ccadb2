use Rattle.std.proofs.Common.{◌≡◌, ◌^◌}
use Rattle.cola_plain.proofs.bounds.power_of_two.Given as goal

abbrev pub invariant-loop : goal.invariant-loop
invariant-loop l = l.reached ≡ 2 ^ l.counter
