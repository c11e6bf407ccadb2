use Rattle.std.proofs.Common.{◌≡◌, map, take, length}
use Rattle.cola_cursor.specs.Turning.{turned_line}
use Rattle.cola_cursor.proofs.starts.turned_lines.Given as goal

abbrev pub invariant-loop-line : goal.invariant-loop-line
invariant-loop-line l = record {
  made : l.turned.items ≡ map turned_line (take l.line-index l.lines);
  count : length l.turned.items ≡ l.line-index;
}
