use Rattle.std.proofs.Common.{refl}
use Rattle.cola_table.proofs.FlatMap.{find_at}
use Rattle.cola_table.proofs.flat.find.Goals as goal

-- the entry at its place has the value
pub returns-in-Ok : goal.returns-in-Ok
returns-in-Ok c = rw (find_at c.args.entries.now.list c.requires c.args.key.now c.in-Ok.place c.at.result.now c.in-Ok.ensures.found, c.at.ensures, c.value.ensures) refl
