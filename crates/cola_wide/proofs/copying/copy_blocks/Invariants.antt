use Rattle.std.proofs.Common.{◌≡◌, ◌*◌, ◌-◌}
use Rattle.cola_layout.specs.Fields.{fields_of}
use Rattle.cola_wide.specs.Copied.{block_cells}
use Rattle.cola_wide.specs.Upgrade.{BlocksAreCopied}
use Rattle.cola_wide.proofs.copying.copy_blocks.Given as goal

abbrev pub invariant-loop-block : goal.invariant-loop-block
invariant-loop-block g l = record {
  so_far : BlocksAreCopied g.D.Device g.E.Device (fields_of l.header) l.fn.from l.from l.fn.to l.to (block_cells (fields_of l.header)) (block_cells (fields_of l.header) * l.block) (l.block - 1);
  bytes_stay : g.D.Device.bytes l.from ≡ g.D.Device.bytes l.fn.from;
  kept : g.D.Device.kept l.from ≡ g.D.Device.kept l.fn.from;
  other_kept : g.E.Device.kept l.to ≡ g.E.Device.kept l.fn.to;
}
