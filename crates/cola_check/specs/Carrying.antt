-- A finished shadow beside the runs that it was built of.
use Rattle.std.specs.Prelude.{◌≡◌, ℕ, Bool, false, cond, List}
use Rattle.cola_runs.specs.Seen.{Seen, seen}
use Rattle.cola_runs.specs.Weave.{Part, bottom_items}
use Rattle.cola_laws.specs.Chain.{upper_part}
use Rattle.cola_laws.specs.Sound.{Carried, Keeps}
use Rattle.cola_cell.specs.declared.cell.Run.{Run}
use Rattle.cola_cell.specs.Held.{Held, LawCell, Stamped}
use Rattle.cola_cell.specs.Order.{key_cmp}
use Rattle.cola_cell.specs.ToldCells.{run_cells}

-- the part that a level builds, by the parity of its period and by whether it is the bottom
abbrev pub part_at : Bool → Bool → Part
part_at odd bottom = cond bottom bottom_items (upper_part odd)

-- a finished shadow fits what the run above and the own run have of one key: it has what it carries, and above the bottom in
-- an even period it keeps the own run's item
pub record FitsAt (odd bottom : Bool) (above own shadow : Seen Stamped) : Type 0 where
  pub carried : Carried (part_at odd bottom) above own shadow
  pub keeps : bottom ≡ false → odd ≡ false → Keeps own shadow

-- the same of each key
pub record IsCarried (odd bottom : Bool) (above own shadow : List LawCell) : Type 0 where
  pub carried : (q : List ℕ) → Carried (part_at odd bottom) (seen key_cmp q above) (seen key_cmp q own) (seen key_cmp q shadow)
  pub keeps : bottom ≡ false → odd ≡ false → (q : List ℕ) → Keeps (seen key_cmp q own) (seen key_cmp q shadow)

-- the same of the cells of three runs
abbrev pub AreCarried : Held → Bool → Bool → Run → Run → Run → Type 0
AreCarried held odd bottom above own shadow = IsCarried odd bottom (run_cells held above) (run_cells held own) (run_cells held shadow)
