use Rattle.std.proofs.Common.{◌*◌, None}
use Rattle.cola_mirror.specs.Differ.{differ_within, IsPlace, OnlyRead}
use Rattle.cola_mirror.proofs.comparing.compare_pieces.Given as goal

abbrev pub invariant-loop-piece : goal.invariant-loop-piece
invariant-loop-piece g l = record {
  so_far : IsPlace g.D.Device g.E.Device l.fn.first l.first l.fn.second l.second (differ_within 0 (512 * l.piece)) None;
  only_read : OnlyRead g.D.Device g.E.Device l.fn.first l.first l.fn.second l.second l.piece 0;
}
