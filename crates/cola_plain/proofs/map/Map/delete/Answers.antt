use Rattle.std.proofs.Common.{refl}
use Rattle.cola_plain.proofs.MapLemmas.{stands_without}
use Rattle.cola_plain.proofs.map.Map.delete.Goals as goal

pub returns-clause-deleted : goal.returns-clause-deleted
returns-clause-deleted c m stands = (c.in_ok-old.ensures m stands, stands_without c.args.self.now m c.args.key.now _ stands c.in_ok-self.ensures refl)
