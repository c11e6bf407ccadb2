use Rattle.std.proofs.Common.{◌+◌, arith}
use Rattle.cola_layout.proofs.Powers.{power-le}
use Rattle.cola_run.proofs.saving.visible_at.Goals as goal

pub visible_slot-requires-clause-clock_in_range : goal.visible_slot-requires-clause-clock_in_range
visible_slot-requires-clause-clock_in_range c =
    omega (
      arith,
      c.args.header.now.clock_fits,
      power-le (c.args.header.now.geometry.bottom + 1) 23 (omega (arith, c.args.header.now.geometry.shallow)),
    )
