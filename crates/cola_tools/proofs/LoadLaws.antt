-- What the end of a load says of maps.
use Rattle.std.proofs.Common.{◌≡◌, ◌∙◌, ℕ, ◌+◌, List, [], ◌∷◌, refl, ap}
use Rattle.std.specs.Prelude.{map}
use Rattle.cola_cell.specs.declared.format.Format.{Format}
use Rattle.cola_layout.specs.declared.geometry.Geometry.{Geometry}
use Rattle.cola_shapes.specs.Shapes.{shape_of}
use Rattle.cola_spec.specs.Map.{Shape, pair_of}
use Rattle.cola_load.specs.Filled.{Row, AreRows, entry_of, map_of}
use Rattle.cola_load.proofs.FilledMaps.{entries-are, count-is}
use Rattle.cola_tools.specs.Growing.{IsFilledIn}
use Rattle.cola_tools.specs.Loading.{Pair, Loads, Holds, Ends, StandForPairs, numbered, last_of, geometry_of}
use Rattle.cola_tools.proofs.GrowLaws.{filled-in}
use Rattle.cola_tools.proofs.Loaded.{last-fits, numbered-long}

-- rows have the pairs that were numbered
pairs-again : (format : Format) (number : ℕ) (rows : List Pair) → map pair_of (map entry_of (numbered format number rows)) ≡ rows
pairs-again format number [] = refl
pairs-again format number (pair ∷ rows) = ap (λ (rest : List Pair). pair ∷ rest) (pairs-again format (number + 1) rows)

pub stand-for : (load : Loads) (rows : List Pair) (bytes : List ℕ) → Holds load rows → Ends load bytes → StandForPairs (geometry_of load) rows bytes
stand-for load rows bytes holds ends =
    let g : Geometry = geometry_of load in
    let last : ℕ = last_of g in
    let rs : List Row = numbered g.format 1 rows in
    let shape : Shape = shape_of g.format g.keys in
    let filled : IsFilledIn g last rs bytes = ends rows holds in
    let are : AreRows shape last rs = filled.are_rows in
    record {
      stands = filled-in g last rs (map_of last rs) bytes (last-fits g.format g.keys g.keys_in_range) refl filled;
      pairs_are = ap (map pair_of) (entries-are shape last rs are) ∙ pairs-again g.format 1 rows;
      many = count-is shape last rs are ∙ numbered-long g.format 1 rows;
    }
