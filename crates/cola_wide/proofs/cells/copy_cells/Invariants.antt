use Rattle.cola_layout.specs.Fields.{fields_of}
use Rattle.cola_wide.specs.Copied.{IsBlockCopied}
use Rattle.cola_wide.proofs.cells.copy_cells.Given as goal

abbrev pub invariant-loop-place : goal.invariant-loop-place
invariant-loop-place l = IsBlockCopied (fields_of l.header) l.first l.place l.narrow l.wide
