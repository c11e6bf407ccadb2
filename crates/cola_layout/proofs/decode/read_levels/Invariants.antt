use Rattle.std.proofs.Common.{◌≡◌, length, drop}
use Rattle.cola_layout.specs.Read.{levels_in}
use Rattle.cola_layout.proofs.decode.read_levels.Given as goal

abbrev pub invariant-loop-level : goal.invariant-loop-level
invariant-loop-level l = record {
  read_so_far : l.read.items ≡ levels_in l.level (drop 48 l.bytes);
  size : length l.read.items ≡ l.level;
}
