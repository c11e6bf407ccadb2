-- How much of lines is left.
use Rattle.std.proofs.Common.{◌≡◌, ◌+◌, ◌≤◌, Option, None, Some, ap, arith}
use Rattle.cola_cell.specs.declared.cell.Cell.{Cell}
use Rattle.cola_cell.specs.declared.cell.Run.{Run}
use Rattle.cola_cursor.specs.declared.line.Line.{Line}
use Rattle.cola_cursor.specs.Lines.{heads_of, left_of}

at_most_one : (head : Option Cell) → heads_of head ≤ 1
at_most_one None = omega arith
at_most_one (Some c) = omega arith

-- a line that passes a cell has as much to read
pub left_behind : (line behind : Line) → behind.run ≡ line.run → behind.place ≡ line.place + 1 → behind.head ≡ None → left_of behind ≤ left_of line
left_behind line behind run place head =
    let a : behind.run.len ≡ line.run.len = ap (λ (r : Run). r.len) run in
    let b = ap heads_of head in
    let c = at_most_one line.head in
    omega arith
