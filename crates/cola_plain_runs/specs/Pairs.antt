-- The entries and pairs of the plain program as those of the definitions.
use Rattle.std.specs.Prelude.{List, map}
use Rattle.cola_plain_runs.specs.declared.cells.PlainItem.{PlainItem}
use Rattle.cola_runs.specs.Cells.{Item}
use Rattle.cola_plain_runs.specs.Runs.{as_item}

-- the entry that a plain one is
abbrev pub as_entry : {K V : Type 0} → K × PlainItem V → K × Item V
as_entry e = (e.0, as_item e.1)

-- the entries that a list of plain ones is
abbrev pub as_entries : {K V : Type 0} → List (K × PlainItem V) → List (K × Item V)
as_entries = map as_entry
