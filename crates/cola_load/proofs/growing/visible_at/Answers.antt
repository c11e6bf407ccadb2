use Rattle.std.proofs.Common.{◌+◌, arith}
use Rattle.cola_layout.proofs.Powers.{power-le}
use Rattle.cola_load.proofs.growing.visible_at.Goals as goal

pub visible_slot-requires-clause-clock_in_range : goal.visible_slot-requires-clause-clock_in_range
visible_slot-requires-clause-clock_in_range c =
    let h = c.args.header.now in
    omega (arith, h.clock_fits, power-le (h.geometry.bottom + 1) 23 (omega (arith, h.geometry.shallow)))
