use Rattle.std.proofs.Common.{◌≡◌, ℕ, ◌≤◌, false, length}
use Rattle.cola_cache.specs.Order.{Holds, blocks_of, outside, is_within}
use Rattle.cola_cache.proofs.order.Order.give_up_range.Given as goal

abbrev pub invariant-loop-block : goal.invariant-loop-block
invariant-loop-block l = record {
  above : l.fn.first ≤ l.block;
  blocks : blocks_of l.self ≡ outside l.fn.first l.block (blocks_of l.initial.self);
  count : length l.self ≡ length l.initial.self;
  same : (other held : ℕ) → Holds l.self other held → Holds l.initial.self other held × (is_within l.fn.first l.block held ≡ false);
}
