use Rattle.std.proofs.Common.{◌≡◌, take, map}
use Rattle.std.specs.Option.{option_copied}
use Rattle.cola_plain.specs.Map.{pair_with}
use Rattle.cola_plain.proofs.MapLemmas.{rows_of}
use Rattle.cola_plain.proofs.map.Map.range.Given as goal

abbrev pub invariant-loop-entry : goal.invariant-loop-entry
invariant-loop-entry l = map pair_with l.rows.items ≡ rows_of l.low (option_copied l.high) (take l.entry-index l.self.entries.items)
