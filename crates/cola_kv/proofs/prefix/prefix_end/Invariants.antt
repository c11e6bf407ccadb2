use Rattle.std.proofs.Common.{◌≡◌, ◌≤◌, length, drop, None}
use Rattle.cola_kv.specs.Prefix.{prefix_end}
use Rattle.cola_kv.proofs.prefix.prefix_end.Given as goal

-- what is left behind has no end
abbrev pub invariant-loop-len : goal.invariant-loop-len
invariant-loop-len l = record {
  few : l.len ≤ length l.prefix;
  behind : prefix_end (drop l.len l.prefix) ≡ None;
}

abbrev pub decreases-loop-len : goal.decreases-loop-len
decreases-loop-len l = l.len
