use Rattle.std.proofs.Common.{drop}
use Rattle.cola_cursor.specs.Passing.{NoneHas}
use Rattle.cola_cursor.proofs.simple.any_has.Given as goal

-- none has the key where none of those that are left has it
abbrev pub invariant-loop-i : goal.invariant-loop-i
invariant-loop-i l = NoneHas l.key (drop l.i l.lines) → NoneHas l.key (drop l.from l.lines)
