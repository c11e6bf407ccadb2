use Rattle.std.proofs.Common.{ℕ, ◌+◌, ◌-◌, ◌^◌, ◌<◌, ◌≤◌, List, ◌++◌, length, take, drop, Result}
use Rattle.std.specs.declared.io.Error.{Error}
use Rattle.cola_filedev.specs.Work.{InPieces, Taking}
use Rattle.cola_filedev.proofs.handle.put.Given as goal

abbrev pub invariant-loop-done : goal.invariant-loop-done
invariant-loop-done g l =
    (l.done ≤ length l.from)
    × (l.at + length l.from < 2 ^ 64)
    × ((answer : Result (Unit {0}) Error) (rest : List ℕ) (new : _) →
    InPieces (Taking g.F.OpenedFile.took) l.file (l.at + l.done) (drop l.done l.from) answer rest new →
    InPieces (Taking g.F.OpenedFile.took) l.fn.file l.at l.from answer (take l.done l.from ++ rest) new)

abbrev pub decreases-loop-done : goal.decreases-loop-done
decreases-loop-done g l = (length l.from - l.done) + l.tries
