-- Lists of cells that are runs, and where searches of them stop.
use Rattle.std.proofs.Common.{◌≡◌, ℕ, suc, ◌+◌, ◌≤◌, List, [], ◌∷◌, length, refl, sym, ◌∙◌, arith, Ordering}
use Rattle.std.specs.Cmp.{IsTotalOrder}
use Rattle.std.specs.List.{AllByRecursion}
use Rattle.cola_runs.specs.Cells.{Cell, IsRising}
use Rattle.cola_runs.specs.Search.{AreSampled, place, link_at}
use Rattle.cola_runs.proofs.Searches.{stops_at_place, place_in_window}
use Rattle.cola_cell.specs.declared.cell.Run.{Run}
use Rattle.cola_cell.specs.Held.{Held, Spot, LawCell}
use Rattle.cola_cell.specs.Listed.{Stands, IsRun}
use Rattle.cola_cell.proofs.RunLemmas.{told_same}
use Rattle.cola_look.specs.Stops.{StopsAtPlaces}

stands_one : (spots : ℕ → Spot) (i : ℕ) (cells others : List LawCell) → length cells ≡ length others → Stands spots i cells → Stands spots i others → cells ≡ others
stands_one spots i [] [] e h k = refl
stands_one spots i [] (d ∷ others) e h k = absurd (omega arith)
stands_one spots i (c ∷ cells) [] e h k = absurd (omega arith)
stands_one spots i (c ∷ cells) (d ∷ others) e h k =
    let a : c ≡ d = told_same c d (sym h.0 ∙ k.0) in
    let b : cells ≡ others = stands_one spots (suc i) cells others (omega arith) h.1 k.1 in
    cc

-- a run is one list
pub one_run : (held : Held) (run : Run) (cells others : List LawCell) → IsRun held run cells → IsRun held run others → cells ≡ others
one_run held run cells others h k = stands_one (held.spots run.level run.slot) 0 cells others (sym h.length_is ∙ k.length_is) h.stands k.stands

module _ {K V : Type 0} {cmp : K → K → Ordering} (o : IsTotalOrder cmp) (q : K) where
  -- the search stops at the key's place in every run
  pub stops_at_places : (start : ℕ) (run : List (Cell K V)) (runs : List (List (Cell K V))) → AreSampled cmp (run ∷ runs) →
      start ≤ place cmp q run → place cmp q run ≤ start + 7 → StopsAtPlaces cmp q start (run ∷ runs)
  stops_at_places start run [] h a b = (stops_at_place cmp q start run a b, tt)
  stops_at_places start run (next ∷ runs) h a b =
      let w = place_in_window o q run next h.0 h.2.0.rising h.1 in
      (stops_at_place cmp q start run a b, stops_at_places (link_at run (length next) (place cmp q run)) next runs h.2 w.0 w.1)

-- sampled runs rise
pub sampled_rise : {K V : Type 0} (cmp : K → K → Ordering) (runs : List (List (Cell K V))) → AreSampled cmp runs → AllByRecursion (IsRising cmp) runs
sampled_rise cmp [] h = tt
sampled_rise cmp (run ∷ runs) h = (h.0.rising, sampled_rise cmp runs h.2)
