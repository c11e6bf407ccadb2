use Rattle.std.proofs.Common.{◌≡◌, ◌+◌, ◌*◌, ◌++◌, length, take, flat_map}
use Rattle.cola_layout.specs.Header.{marks_bytes}
use Rattle.cola_layout.proofs.encode.write_levels.Given as goal

abbrev pub invariant-loop-level : goal.invariant-loop-level
invariant-loop-level l = record {
  written : take (48 + 20 * l.level) l.into ≡ take 48 l.fn.into ++ flat_map marks_bytes (take l.level l.levels);
  size : length l.into ≡ 512;
}
