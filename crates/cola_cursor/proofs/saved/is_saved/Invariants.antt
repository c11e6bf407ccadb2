use Rattle.std.proofs.Common.{◌≡◌, drop}
use Rattle.cola_cursor.specs.Saving.{is_saved}
use Rattle.cola_cursor.proofs.saved.is_saved.Given as goal

-- whether it is saved among those that are left is whether it is saved
abbrev pub invariant-loop-one : goal.invariant-loop-one
invariant-loop-one l = is_saved l.number (drop l.one-index l.saved) ≡ is_saved l.number l.saved
