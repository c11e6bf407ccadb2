use Rattle.std.proofs.Common.{◌≡◌, ◌<◌, ℕ, Some, None}
use Rattle.cola_cache.specs.Blocks.{AreCopies, last_in, to_copy}
use Rattle.cola_cache.proofs.buffers.copy_late.Given as goal

abbrev pub invariant-loop-buffer : goal.invariant-loop-buffer
invariant-loop-buffer g l = record {
  copies : AreCopies (to_copy g.D.Device.lends (g.D.Device.bytes l.device.device)) l.copies l.lasts l.shares l.size;
  fewer : (other : ℕ) → last_in l.fn.shares other ≡ None → last_in l.shares other ≡ None;
  done : (other : ℕ) → other < l.buffer → last_in l.lasts other ≡ Some l.leaving → last_in l.shares other ≡ None;
}
