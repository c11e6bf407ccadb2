use Rattle.std.proofs.Common.{◌≡◌, ◌*◌, ◌++◌, drop}
use Rattle.cola_cell.specs.Format.{width}
use Rattle.cola_front.specs.Front.{places_in, stored_all}
use Rattle.cola_front.proofs.block.put_cells.Given as goal

abbrev pub invariant-loop-place : goal.invariant-loop-place
invariant-loop-place l = l.block ≡ stored_all l.format (places_in l.format l.bytes l.first l.place) ++ drop (width l.format * l.place) l.fn.block
