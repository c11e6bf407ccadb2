use Rattle.std.proofs.Common.{◌≡◌, ◌≤◌, ◌<◌, ◌*◌, ◌↔◌, ℕ, slice_index}
use Rattle.cola_cell.proofs.short.is_zero_from.Given as goal

abbrev pub invariant-loop-word : goal.invariant-loop-word
invariant-loop-word l = (l.rest ≡ 0) ↔ ((k : ℕ) → l.start ≤ k → k < 8 * l.word → slice_index l.room k ≡ 0)
