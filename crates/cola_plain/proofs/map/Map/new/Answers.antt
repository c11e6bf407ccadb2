use Rattle.std.proofs.Common.{refl, sym, ap, ◌∙◌}
use Rattle.cola_spec.specs.Map.{empty_map}
use Rattle.cola_spec.proofs.Entries.{entries_empty}
use Rattle.cola_plain.specs.Map.{listed}
use Rattle.cola_plain.proofs.map.Map.new.Goals as goal

pub returns : goal.returns
unfolding empty_map
returns c = record { same_entries = entries_empty ∙ sym (ap listed c.new.ensures.items); same_last = refl }
