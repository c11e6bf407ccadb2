use Rattle.std.proofs.Common.{◌≡◌, take}
use Rattle.cola_plain.specs.Map.{listed}
use Rattle.cola_plain.proofs.MapLemmas.{others_of}
use Rattle.cola_plain.proofs.map.Map.without.Given as goal

abbrev pub invariant-loop-entry : goal.invariant-loop-entry
invariant-loop-entry l = listed l.kept.items ≡ others_of l.key (take l.entry-index l.self.entries.items)
