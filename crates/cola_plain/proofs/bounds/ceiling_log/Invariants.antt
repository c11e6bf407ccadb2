use Rattle.std.proofs.Common.{ℕ, ◌≡◌, ◌<◌, ◌^◌}
use Rattle.cola_plain.proofs.BoundLemmas.{in_word}
use Rattle.cola_plain.proofs.bounds.ceiling_log.Given as goal

abbrev pub invariant-loop-power : goal.invariant-loop-power
invariant-loop-power l = record { is : l.reached ≡ in_word (2 ^ l.power); above : (before : ℕ) → before < l.power → 2 ^ before < l.number }
