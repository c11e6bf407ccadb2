-- What a test of a run asks of one cell.
use Rattle.std.specs.Prelude.{◌≡◌, Option, Some, None, ⊤}
use Rattle.std.specs.declared.cmp.Ordering.TheVariants.{Less}
use Rattle.cola_runs.specs.Cells.{place_cmp}
use Rattle.cola_cell.specs.declared.cell.Cell.{Cell}
use Rattle.cola_cell.specs.Held.{LawCell, as_cell}
use Rattle.cola_cell.specs.Order.{key_cmp}

-- a cell stands behind the one that was read last, where there is one
abbrev pub StandsBehind : Option Cell → LawCell → Type 0
StandsBehind None c = ⊤
StandsBehind (Some last) c = place_cmp key_cmp (as_cell last) c ≡ Less
