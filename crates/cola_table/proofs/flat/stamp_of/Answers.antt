use Rattle.std.proofs.Common.{ℕ, List, [], sym, ap, Some}
use Rattle.cola_spec.specs.Map.{Stored}
use Rattle.cola_table.proofs.FlatMap.{find_at}
use Rattle.cola_table.proofs.flat.stamp_of.Goals as goal

-- the entry at its place has the stamp 0
pub returns-in-Ok : goal.returns-in-Ok
returns-in-Ok c =
    let d : List ℕ × Stored = ([], record { value = []; stamp = 0 }) in
    let found = c.in-Ok.ensures.found in
    rw (find_at c.args.entries.now.list c.requires.rising c.args.key.now c.in-Ok.field-0 d found) (ap (λ (n : ℕ). Some n) (sym (c.requires.unstamped c.in-Ok.field-0 d found.in_range)))
