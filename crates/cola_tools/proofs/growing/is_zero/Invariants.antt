use Rattle.std.proofs.Common.{◌≡◌, ◌<◌, ℕ, slice_index}
use Rattle.cola_tools.proofs.growing.is_zero.Given as goal

abbrev pub invariant-loop-index : goal.invariant-loop-index
invariant-loop-index l = record {
  all_zero : l.ones ≡ 0 → (k : ℕ) → k < l.index → slice_index l.bytes k ≡ 0;
  no_ones : ((k : ℕ) → k < l.index → slice_index l.bytes k ≡ 0) → l.ones ≡ 0;
}
