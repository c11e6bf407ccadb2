use Rattle.std.proofs.Common.{◌≡◌, map, take, length}
use Rattle.cola_cursor.specs.Turning.{end_line}
use Rattle.cola_cursor.proofs.starts.end_lines.Given as goal

abbrev pub invariant-loop-run : goal.invariant-loop-run
invariant-loop-run l = record {
  made : l.lines.items ≡ map end_line (take l.run-index l.runs);
  count : length l.lines.items ≡ l.run-index;
}
