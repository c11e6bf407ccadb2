use Rattle.std.proofs.Common.{ℕ, ◌<◌}
use Rattle.cola_plain_files.specs.File.{file_of, IsLevelTold}
use Rattle.cola_plain_files.proofs.verdict.file.lowest_bad.Given as goal

-- the levels so far are told
abbrev pub invariant-loop-level : goal.invariant-loop-level
invariant-loop-level l = (j : ℕ) → j < l.level → IsLevelTold (file_of l.header l.bytes) j
