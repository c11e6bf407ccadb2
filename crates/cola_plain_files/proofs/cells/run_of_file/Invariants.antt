use Rattle.std.proofs.Common.{ℕ}
use Rattle.cola_cell.specs.Places.{number_of}
use Rattle.cola_plain_files.proofs.Spelled.{AreSpelled}
use Rattle.cola_plain_files.proofs.cells.run_of_file.Given as goal

abbrev pub invariant-loop-index : goal.invariant-loop-index
invariant-loop-index l = AreSpelled l.format l.bytes (λ (k : ℕ). number_of l.level l.slot k) l.index l.cells.items
