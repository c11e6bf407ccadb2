-- The cells, runs and levels of the plain program as those of the tests, and its tests of one level.
use Rattle.std.specs.Prelude.{◌≡◌, ℕ, Bool, true, false, cond, Vec, List, [], ◌∷◌, map, drop, Option, None, Some, ⊤}
use Rattle.std.specs.List.{AllByRecursion}
use Rattle.std.specs.Option.{option_map}
use Rattle.cola_cell.specs.declared.cell.Cell.{Cell}
use Rattle.cola_cell.specs.Held.{LawCell, Stamped, as_cell}
use Rattle.cola_cell.specs.Bytes.{IsKey}
use Rattle.cola_cell.specs.Order.{key_cmp}
use Rattle.cola_laws.specs.Chain.{visibles, shadows}
use Rattle.cola_laws.specs.Sound.{Carried, Keeps}
use Rattle.cola_runs.specs.Cells.{Item, Entry, Look, key_of}
use Rattle.cola_plain_runs.specs.Runs.{as_item, as_run}
use Rattle.cola_runs.specs.Seen.{Seen, Nothing, Old, Young, seen}
use Rattle.cola_runs.specs.Weave.{Part, IsCut}
use Rattle.cola_plain_runs.specs.declared.cells.PlainCell.{PlainCell}
use Rattle.cola_plain_runs.specs.declared.cells.PlainItem.{PlainItem}
use Rattle.cola_plain_files.specs.declared.verdict.level.PlainLevel.{PlainLevel}
use Rattle.cola_plain_files.specs.declared.verdict.seen.PlainSeen.{PlainSeen}
use Rattle.cola_plain_files.specs.declared.verdict.seen.PlainSeen.TheVariants as plain
use Rattle.cola_verdict.specs.Tests.{FileLevel, HasFewLive}

-- the cells that were found, as the laws of runs have them
abbrev pub found_cells : List (Option Cell) → List LawCell
found_cells [] = []
found_cells (None ∷ found) = found_cells found
found_cells (Some cell ∷ found) = as_cell cell ∷ found_cells found

-- what a run has of a key
abbrev pub as_seen : PlainSeen → Seen Stamped
as_seen plain.Nothing = Nothing
as_seen (plain.Old item) = Old (as_item item)
as_seen (plain.Young item) = Young (as_item item)

-- an item or none
abbrev pub as_held : Option (PlainItem Stamped) → Option (Item Stamped)
as_held = option_map as_item

-- a finished shadow has of a key what it must have, beside the run above it and its level's own run; and it keeps what it must,
-- where it keeps all items of the own run
pub record IsCarriedAt (part : Part) (keeps_all : Bool) (above own shadow : Seen Stamped) : Type 0 where
  pub carried : Carried part above own shadow
  pub keeps : keeps_all ≡ true → Keeps own shadow

-- the same of a key in three runs
abbrev pub CarriesKey : Part → Bool → List LawCell → List LawCell → List LawCell → List ℕ → Type 0
CarriesKey part keeps_all above own shadow q = IsCarriedAt part keeps_all (seen key_cmp q above) (seen key_cmp q own) (seen key_cmp q shadow)

-- whether a cell is a young item
abbrev pub is_young : LawCell → Bool
is_young (Entry k i y l) = y
is_young (Look k l) = false

-- a level of the plain program
abbrev pub as_level : PlainLevel → FileLevel
as_level l = record { visible = as_run l.visible.items; shadow = as_run l.shadow.items; own = l.own; incoming = l.incoming; sampled = l.sampled }

-- its levels
abbrev pub as_levels : List PlainLevel → List FileLevel
as_levels = map as_level

-- its runs
abbrev pub as_runs : {A : Type 0} → List (Vec (PlainCell (List ℕ) Stamped) A) → List (List LawCell)
as_runs = map (λ run. as_run run.items)

-- the run of a level that is asked for: its shadow, or the visible one
abbrev pub shown_of : Bool → FileLevel → List LawCell
shown_of shadow level = cond shadow level.shadow level.visible

-- the runs that are seen from level j down: its shadow and the runs below it, or the visible ones
abbrev pub runs_from : Bool → ℕ → ℕ → List FileLevel → List (List LawCell)
runs_from shadow t j levels = cond shadow (shadows t j levels) (visibles levels)

-- each cell has a key that a cell may have
abbrev pub HaveKeys : List LawCell → Type 0
HaveKeys = AllByRecursion (λ c. IsKey (key_of c))

-- a level's cursors cut its build after its shadow
abbrev pub IsLevelCut : Part → List LawCell → FileLevel → List (List ℕ) → Type 0
IsLevelCut part above level keys = IsCut key_cmp part level.visible above keys (drop level.own level.visible) (drop level.incoming above) (drop level.sampled keys) level.shadow

-- the runs from the first of these levels down, where it is level j, have no more live keys than the store is for
abbrev pub HasFewFrom : ℕ → ℕ → ℕ → List FileLevel → Type 0
HasFewFrom most t j [] = ⊤
HasFewFrom most t j (level ∷ below) = HasFewLive most t j level below
