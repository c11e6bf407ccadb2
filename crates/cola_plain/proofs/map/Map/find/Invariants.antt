use Rattle.std.proofs.Common.{◌≡◌, drop}
use Rattle.std.specs.FinMap.Entries.{find}
use Rattle.cola_spec.specs.Map.{key_cmp}
use Rattle.cola_plain.specs.Map.{listed}
use Rattle.cola_plain.proofs.map.Map.find.Given as goal

abbrev pub invariant-loop-entry : goal.invariant-loop-entry
invariant-loop-entry l = find key_cmp l.key (listed l.self.entries.items) ≡ find key_cmp l.key (listed (drop l.entry-index l.self.entries.items))
