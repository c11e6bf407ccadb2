use Rattle.std.proofs.Common.{◌≡◌, ℕ, ◌+◌, ◌*◌, ◌/◌, List, length, Option}
use Rattle.cola_device.specs.Bytes.{part, HasRange}
use Rattle.cola_cache.specs.Order.{Holds}
use Rattle.cola_cache.specs.Cache.{Agree, IsWritten}
use Rattle.cola_cache.proofs.CacheLemmas.{IsRenewed}
use Rattle.cola_cache.proofs.cached.renew.Given as goal

abbrev pub invariant-loop-step : goal.invariant-loop-step
invariant-loop-step l = record {
  room : length l.copies ≡ length l.initial.copies;
  agree : (told now : Option (List ℕ)) → IsWritten l.at l.from told now → HasRange told l.at (length l.from) → Agree told l.order l.initial.copies l.size
      → (frame block : ℕ) → Holds l.order frame block → IsRenewed told now (l.at / l.size) (l.at / l.size + l.step) l.size block (part l.copies (frame * l.size) l.size);
}
