use Rattle.std.proofs.Common.{◌≡◌, ◌+◌, ◌*◌, ◌≤◌, ◌^◌, drop}
use Rattle.cola_cursor.specs.Lines.{all_left}
use Rattle.cola_kv.proofs.backward.cells_left.Given as goal

-- what is counted, and what is left to count, is what the lines have still to read
abbrev pub invariant-loop-line : goal.invariant-loop-line
invariant-loop-line l = record {
  all : l.left + all_left (drop l.line-index l.lines) ≡ all_left l.lines;
  few : l.left ≤ l.line-index * 2 ^ 32;
}
