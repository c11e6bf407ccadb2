-- What the tests of one run ask of its cells, and what is known of the cells up to one of them.
use Rattle.std.specs.Prelude.{◌≡◌, ◌↔◌, ℕ, ◌-◌, ◌*◌, ◌/◌, ◌≤◌, min, IsTrue, List, [], ◌∷◌, ◌++◌, length, slice_get, Option, Some, None, IfSome, ⊤}
use Rattle.std.specs.List.{AllByRecursion}
use Rattle.cola_runs.specs.Cells.{Entry, Look, link_of, look_keys, count_looks, count_young, sample, IsOldValue}
use Rattle.cola_cell.specs.declared.cell.Cell.{Cell}
use Rattle.cola_cell.specs.declared.cell.Run.{Run}
use Rattle.cola_cell.specs.Held.{Held, LawCell, as_cell}
use Rattle.cola_cell.specs.ToldCells.{run_cells}
use Rattle.cola_verdict.specs.Tests.{IsInOrder, EndsOrder, HasFewItems}
use Rattle.cola_check.specs.declared.prefix.Prefix.{Prefix}
use Rattle.cola_check.specs.declared.visible.Few.{Few}
use Rattle.cola_check.specs.declared.visible.Few.TheVariants.{Items, Cells}
use Rattle.cola_check.specs.Kinds.{StandsBehind}
use Rattle.cola_check.specs.Reading.{IsRunTold}

-- the cells are in order, or their order ends with the cell of this index
abbrev pub OrderIs : List LawCell → Option ℕ → Type 0
OrderIs cells None = IsInOrder cells
OrderIs cells (Some index) = EndsOrder cells index

-- a run has as few cells as it may have: at most so many items and young ones of them, or at most so many cells
abbrev pub IsFew : Few → List LawCell → Type 0
IsFew (Items items young) cells = HasFewItems items young cells
IsFew (Cells most) cells = length cells ≤ most

-- the lists of the runs below a run: of the next one, where there is one, and then the rest; none below the bottom
abbrev pub lists_below : Held → Option Run → List (List LawCell) → List (List LawCell)
lists_below held None rest = []
lists_below held (Some next) rest = run_cells held next ∷ rest

-- a run is told, and the run below it, where there is one
pub record AreBothTold (held : Held) (run : Run) (below : Option Run) : Type 0 where
  pub run_told : IsRunTold held run
  pub below_told : IfSome below (IsRunTold held)

-- how many keys the sample of the run below has
abbrev pub sample_len : Option Run → ℕ
sample_len None = 0
sample_len (Some next) = next.len / 8

-- a cell that goes on the order of those before it: behind the last of them, with the link of so many lookahead cells
pub record ComesNext (last : Option Cell) (looks : ℕ) (c : LawCell) : Type 0 where
  pub behind : StandsBehind last c
  pub link : link_of c ≡ 8 * looks

-- a cell is what test `Sample` asks behind so many lookahead cells: an old value at the bottom, else an item or the
-- lookahead cell of the next key of the sample
abbrev pub Suits : List (List LawCell) → ℕ → LawCell → Type 0
Suits [] looks c = IsOldValue c
Suits (next ∷ runs) looks (Entry key item young link) = ⊤
Suits (next ∷ runs) looks (Look key link) = slice_get (sample next) looks ≡ Some key

-- how many cells of the run below are read for a cell behind so many lookahead cells
abbrev pub sample_reads : Option Run → ℕ → LawCell → ℕ
sample_reads below looks (Entry key item young link) = 0
sample_reads below looks (Look key link) = min 1 (sample_len below - looks)

-- cells that may begin a run which passes test `Sample`: old values at the bottom, else their lookahead cells begin the sample
abbrev pub BeginsSample : List LawCell → List (List LawCell) → Type 0
BeginsSample cells [] = AllByRecursion IsOldValue cells
BeginsSample cells (next ∷ runs) = (rest : List (List ℕ)) × (look_keys cells ++ rest ≡ sample next)

-- the last of the cells is the one that was read last
abbrev pub IsLast : List LawCell → Option Cell → Type 0
IsLast cells None = cells ≡ []
IsLast cells (Some last) = (before : List LawCell) × (cells ≡ before ++ as_cell last ∷ [])

-- what is known of cells that were read, over the lists of the runs below
pub record IsSeen (lists : List (List LawCell)) (cells : List LawCell) (seen : Prefix) : Type 0 where
  pub place_is : seen.place ≡ length cells
  pub looks_is : seen.looks ≡ count_looks cells
  pub young_is : seen.young ≡ count_young cells
  pub last_is : IsLast cells seen.last
  pub order_is : OrderIs cells seen.disorder
  pub sampled_is : IsTrue seen.is_sampled ↔ BeginsSample cells lists
