-- Lines that were changed, each saved as it was.
use Rattle.std.specs.Prelude.{Bool, ◌≡◌, ℕ, ◌<◌, ◌==◌, Bool, List, [], ◌∷◌, map, length, slice_set, Option, Result, Ok, Err}
use Rattle.std.specs.List.{AllByRecursion, IsDistinct, list_any}
use Rattle.cola_cursor.specs.declared.cursor.Cursor.{Cursor}
use Rattle.cola_cursor.specs.declared.line.Line.{Line}
use Rattle.cola_cursor.specs.declared.saved.Saved.{Saved}
use Rattle.cola_cell.specs.declared.fault.ReadFault.{ReadFault}

-- the numbers of saved lines
abbrev pub numbers : List Saved → List ℕ
numbers = map (λ one. one.number)

-- whether the line of this number is saved
abbrev pub is_saved : ℕ → List Saved → Bool
is_saved number saved = list_any (λ n. number == n) (numbers saved)

-- lines that were saved, no number twice, each of them a number of one of so many lines
pub record SavedOnce (count : ℕ) (saved : List Saved) : Type 0 where
  pub distinct : IsDistinct ◌==◌ (numbers saved)
  pub within : AllByRecursion (λ n. n < count) (numbers saved)

-- the lines with each saved one put back, the last saved one first
abbrev pub restored : List Saved → List Line → List Line
restored [] lines = lines
restored (one ∷ saved) lines = slice_set (restored saved lines) one.number one.line

-- a change of lines that saves what it changes: put back, they are those that came of the lines before it
pub record Saves (olds news : List Line) (before now : List Saved) : Type 0 where
  pub count : length news ≡ length olds
  pub once : SavedOnce (length news) now
  pub restores : restored now news ≡ restored before olds

-- a cursor at these lines
abbrev pub cursor_at : List Line → Option (List ℕ) → Bool → Cursor
cursor_at lines end falls = record { lines = record { items = lines }; end = end; falls = falls }

-- the lines that an answer leaves: after a refusal the saved ones are put back
abbrev pub lines_left : {T : Type 0} → Result T ReadFault → List Saved → List Line → List Line
lines_left (Ok answer) saved lines = lines
lines_left (Err fault) saved lines = restored saved lines
