use Rattle.std.proofs.Common.{◌≡◌, ℕ, ◌+◌, ◌-◌, ◌^◌, ◌<◌, ◌≤◌, List, ◌++◌, length, take, drop, Result}
use Rattle.std.specs.declared.io.Error.{Error}
use Rattle.cola_filedev.specs.Work.{InPieces}
use Rattle.cola_filedev.proofs.handle.read.Given as goal

abbrev pub invariant-loop-done : goal.invariant-loop-done
invariant-loop-done g l =
    (l.done ≤ length l.into)
    × (length l.into ≡ length l.fn.into)
    × (l.at + length l.into < 2 ^ 64)
    × ((answer : Result (Unit {0}) Error) (rest : List ℕ) (new : _) →
    InPieces g.F.OpenedFile.gave l.file (l.at + l.done) (drop l.done l.into) answer rest new →
    InPieces g.F.OpenedFile.gave l.fn.file l.at l.fn.into answer (take l.done l.into ++ rest) new)

abbrev pub decreases-loop-done : goal.decreases-loop-done
decreases-loop-done g l = (length l.initial.into - l.done) + l.tries
