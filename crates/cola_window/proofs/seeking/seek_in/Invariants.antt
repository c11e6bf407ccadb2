use Rattle.std.proofs.Common.{◌≡◌, ◌*◌, drop}
use Rattle.cola_cell.specs.Format.{width}
use Rattle.cola_window.specs.Seeking.{AllBelow}
use Rattle.cola_window.proofs.seeking.seek_in.Given as goal

abbrev pub invariant-loop-index : goal.invariant-loop-index
invariant-loop-index g l = record {
  left_is : l.left ≡ drop (l.index * width l.format) l.window;
  below : AllBelow l.format l.key l.window l.index;
}
