use Rattle.std.proofs.Common.{ℕ, ◌<◌}
use Rattle.cola_plain_files.specs.File.{file_of, IsSlotTold}
use Rattle.cola_plain_files.proofs.verdict.file.lowest_of_level.Given as goal

-- the slots so far are told
abbrev pub invariant-loop-slot : goal.invariant-loop-slot
invariant-loop-slot l = (s : ℕ) → s < l.slot → IsSlotTold (file_of l.header l.bytes) l.level s
