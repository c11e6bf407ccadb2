use Rattle.std.proofs.Common.{◌≡◌, ℕ, take}
use Rattle.cola_shapes.specs.Shapes.{shape_of}
use Rattle.cola_load.specs.PlainLines.{lines_of}
use Rattle.cola_load.specs.Rows.{rows_said}
use Rattle.cola_load.proofs.plain.rows_said.Given as goal

abbrev pub invariant-loop-line : goal.invariant-loop-line
invariant-loop-line l = (keys : ℕ) → l.rows.items ≡ rows_said (shape_of l.format keys) (lines_of (take l.line-index l.lines))
