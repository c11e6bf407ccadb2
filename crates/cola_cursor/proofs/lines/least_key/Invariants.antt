use Rattle.cola_cursor.specs.Results.{key_in}
use Rattle.cola_cursor.proofs.First.{Seen}
use Rattle.cola_cursor.proofs.lines.least_key.Given as goal

abbrev pub invariant-loop-i : goal.invariant-loop-i
invariant-loop-i l = Seen l.falls l.lines l.i (key_in l.least) l.first
