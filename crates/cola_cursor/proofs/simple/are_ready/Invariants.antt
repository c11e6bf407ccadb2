use Rattle.std.proofs.Common.{drop}
use Rattle.std.specs.List.{AllByRecursion}
use Rattle.cola_cursor.specs.Lines.{IsReady}
use Rattle.cola_cursor.proofs.simple.are_ready.Given as goal

-- all lines are ready where those that are left are
abbrev pub invariant-loop-line : goal.invariant-loop-line
invariant-loop-line l = AllByRecursion IsReady (drop l.line-index l.lines) → AllByRecursion IsReady l.lines
