-- What the laws of spellings say, and those of the lists of cells that are taken of an object.
use Rattle.std.specs.Prelude.{◌≡◌, ℕ, List, Option, Some}
use Rattle.cola_cell.specs.declared.cell.Cell.{Cell}
use Rattle.cola_cell.specs.declared.cell.Run.{Run}
use Rattle.cola_cell.specs.declared.format.Format.{Format}
use Rattle.cola_cell.specs.Spelling.{IsSpelling, Decodes}
use Rattle.cola_cell.specs.Decoded.{decoded}
use Rattle.cola_cell.specs.Held.{Held, LawCell}
use Rattle.cola_cell.specs.Listed.{IsRun}
use Rattle.cola_cell.specs.ToldCells.{AreTold, run_cells}

-- an answer of decoding a cell's spelling is that cell
abbrev pub DecodingGivesBack : Type 0
DecodingGivesBack =
    (format : Format) (cell : Cell) (bytes : List ℕ) (answer : Option Cell) →
    IsSpelling format cell bytes → Decodes format bytes answer → answer ≡ Some cell

-- two spellings of a cell in a format are the same bytes
abbrev pub SpellingIsOne : Type 0
SpellingIsOne =
    (format : Format) (cell : Cell) (first second : List ℕ) →
    IsSpelling format cell first → IsSpelling format cell second → first ≡ second

-- two cells that the same bytes spell in a format are the same
abbrev pub CellIsOne : Type 0
CellIsOne =
    (format : Format) (first second : Cell) (bytes : List ℕ) →
    IsSpelling format first bytes → IsSpelling format second bytes → first ≡ second

-- an answer of decoding is what the function gives
abbrev pub DecodingIsDecoded : Type 0
DecodingIsDecoded =
    (format : Format) (bytes : List ℕ) (answer : Option Cell) → Decodes format bytes answer → answer ≡ decoded format bytes

-- the function gives the cell whose spelling the bytes are
abbrev pub DecodedGivesBack : Type 0
DecodedGivesBack =
    (format : Format) (cell : Cell) (bytes : List ℕ) → IsSpelling format cell bytes → decoded format bytes ≡ Some cell

-- a run of which each cell is told is the list of its cells
abbrev pub ToldRunIsItsCells : Type 0
ToldRunIsItsCells =
    (held : Held) (run : Run) → AreTold (held.spots run.level run.slot) run.len → IsRun held run (run_cells held run)

-- each cell of a run that is a list of cells is told
abbrev pub RunIsTold : Type 0
RunIsTold =
    (held : Held) (run : Run) (cells : List LawCell) → IsRun held run cells → AreTold (held.spots run.level run.slot) run.len

-- a run is no other list than that of its cells
abbrev pub RunHasItsCells : Type 0
RunHasItsCells = (held : Held) (run : Run) (cells : List LawCell) → IsRun held run cells → run_cells held run ≡ cells
