use Rattle.std.proofs.Common.{◌≡◌, ◌≤◌}
use Rattle.cola_cache.specs.Order.{unheld}
use Rattle.cola_cache.proofs.order.Order.new.Given as goal

abbrev pub invariant-loop-frame : goal.invariant-loop-frame
invariant-loop-frame l = (l.slots.entries ≡ unheld l.frame) × (l.fn.count ≤ l.slots.cap)
