-- Where the search of a list of runs stops.
use Rattle.std.specs.Prelude.{◌≡◌, List, [], ◌∷◌, ℕ, ⊤}
use Rattle.std.specs.declared.cmp.Ordering.{Ordering}
use Rattle.cola_runs.specs.Cells.{Cell}
use Rattle.cola_runs.specs.Search.{place, stop, link_at, first_len}

module _ {K V : Type 0} (cmp : K → K → Ordering) (q : K) where
  -- the search of each run, from the link of the one above, stops at the key's place
  abbrev pub StopsAtPlaces : ℕ → List (List (Cell K V)) → Type 0
  StopsAtPlaces start [] = ⊤
  StopsAtPlaces start (run ∷ runs) = (stop cmp q start run ≡ place cmp q run) × StopsAtPlaces (link_at run (first_len runs) (place cmp q run)) runs
