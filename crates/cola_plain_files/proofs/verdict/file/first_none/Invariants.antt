use Rattle.std.proofs.Common.{ℕ, ◌<◌, None, get_or}
use Rattle.cola_cell.specs.Flat.{spot_of}
use Rattle.cola_cell.specs.ToldCells.{IsTold}
use Rattle.cola_plain_files.proofs.verdict.file.first_none.Given as goal

-- the places so far have a cell
abbrev pub invariant-loop-i : goal.invariant-loop-i
invariant-loop-i l = (k : ℕ) → k < l.i → IsTold (spot_of (get_or l.found k None))
