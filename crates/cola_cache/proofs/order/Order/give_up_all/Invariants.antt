use Rattle.std.proofs.Common.{◌≡◌, ℕ, ◌≤◌, length}
use Rattle.cola_cache.specs.Order.{Holds}
use Rattle.cola_cache.proofs.order.Order.give_up_all.Given as goal

abbrev pub invariant-loop-frame : goal.invariant-loop-frame
invariant-loop-frame l = record {
  count : length l.self ≡ length l.initial.self;
  done : (other held : ℕ) → Holds l.self other held → l.frame ≤ other;
}
