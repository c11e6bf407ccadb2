use Rattle.std.proofs.Common.{◌*◌}
use Rattle.cola_outside.specs.Told.{Both}
use Rattle.cola_mirror.specs.Rebuild.{IsSameBelow, OnlyMoves, IsMoved}
use Rattle.cola_mirror.proofs.rebuilding.copy_behind.Given as goal

abbrev pub invariant-loop-piece : goal.invariant-loop-piece
invariant-loop-piece g l = record {
  so_far : IsMoved g.D.Device g.E.Device l.fn.from l.from l.fn.to l.to 512 (512 * l.piece);
  below : Both (g.E.Device.bytes l.fn.to) (g.E.Device.bytes l.to) (IsSameBelow 512);
  only : OnlyMoves g.D.Device g.E.Device l.fn.from l.from l.fn.to l.to l.piece;
}
