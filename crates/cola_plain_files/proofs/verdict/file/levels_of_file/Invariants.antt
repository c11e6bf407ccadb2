use Rattle.std.proofs.Common.{◌≡◌, ◌++◌, length, drop}
use Rattle.cola_layout.specs.Cells.{slot_cells}
use Rattle.cola_laws.specs.Slots.{levels_of}
use Rattle.cola_plain_files.specs.Levels.{as_levels}
use Rattle.cola_plain_files.specs.File.{file_of}
use Rattle.cola_verdict.specs.Tests.{AreCellsTold, levels_in}
use Rattle.cola_plain_files.proofs.verdict.file.levels_of_file.Given as goal

-- the levels so far, and those of the rest of the marks
abbrev pub invariant-loop-level : goal.invariant-loop-level
invariant-loop-level l =
    (length l.levels.items ≡ l.level)
    × (AreCellsTold (file_of l.header l.bytes) →
    as_levels l.levels.items ++ levels_of (slot_cells (file_of l.header l.bytes).spots) (file_of l.header l.bytes).clock l.level (drop l.level (file_of l.header l.bytes).marks) ≡ levels_in (file_of l.header l.bytes))
