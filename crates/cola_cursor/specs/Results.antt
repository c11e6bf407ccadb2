-- What calls on lines answer, seen as numbers and facts.
use Rattle.std.specs.Prelude.{◌≡◌, ◌⊎◌, ℕ, cond, List, [], ◌∷◌, Option, None, Some, option_map, Result, Ok, Err, ⊤, Bool, true, false}
use Rattle.std.specs.Borrow.{Bor}
use Rattle.std.specs.Ordering.{is_lt}
use Rattle.cola_outside.specs.Faults.{Rose}
use Rattle.cola_cell.specs.Cell.{key_of}
use Rattle.cola_cell.specs.declared.fault.ReadFault.TheVariants.{Device, BadCell}
use Rattle.cola_cell.specs.declared.cell.Cell.{Cell}
use Rattle.cola_cell.specs.declared.cell.Cell.TheVariants as cell
use Rattle.cola_cell.specs.declared.cell.Item.{Item}
use Rattle.cola_cell.specs.declared.cell.Item.TheVariants as item
use Rattle.cola_cell.specs.declared.fault.ReadFault.{ReadFault}
use Rattle.cola_cell.specs.Held.{Held}
use Rattle.cola_cursor.specs.declared.line.Line.{Line}
use Rattle.cola_cursor.specs.Lines.{LineFits, IsReady, left_of, all_left, HasBadAhead}
use Rattle.cola_cursor.specs.Way.{way_cmp, within_end}

-- what a line has still to read after a call: nothing is asked of a refused one
abbrev pub left_after : {T : Type 0} → Result T ReadFault → Line → ℕ
left_after (Ok answer) line = left_of line
left_after (Err fault) line = 0

-- the item of a head
abbrev pub item_of : Option Cell → Option Item
item_of None = None
item_of (Some (cell.Item key item young link)) = Some item
item_of (Some (cell.Look key link)) = None

-- an item with a value
abbrev pub is_value : Option Item → Bool
is_value (Some (item.Value value stamp)) = true
is_value (Some item.Tombstone) = false
is_value None = false

-- what lines have still to read after a call: nothing is asked of a refused one
abbrev pub left_then : {T : Type 0} → Result T ReadFault → List Line → ℕ
left_then (Ok answer) lines = all_left lines
left_then (Err fault) lines = 0

-- the key of a cell that is lent, if there is one
abbrev pub key_in : Option (Bor Cell) → Option (List ℕ)
key_in = option_map (λ cell. key_of cell.now)

module _ (falls : Bool) where
  -- a line with its next cell read
  pub record Fetches (held : Held) (old new : Line) : Type 0 where
    pub run_is : new.run ≡ old.run
    pub place_is : new.place ≡ old.place
    pub keeps : (cell : Cell) → old.head ≡ Some cell → new.head ≡ Some cell
    pub fits : LineFits falls held new
    pub ready : IsReady new

  -- lines with their next cells read, one by one
  abbrev pub FetchAll : Held → List Line → List Line → Type 0
  FetchAll held [] [] = ⊤
  FetchAll held [] (new ∷ news) = ⊥
  FetchAll held (old ∷ olds) [] = ⊥
  FetchAll held (old ∷ olds) (new ∷ news) = Fetches held old new × FetchAll held olds news

  -- a cell that one of the lines has still to read whose bytes spell none, and its number
  abbrev pub HasBadLine : Held → ℕ → List Line → Type 0
  HasBadLine held number [] = ⊥
  HasBadLine held number (line ∷ lines) = HasBadAhead falls held line number ⊎ HasBadLine held number lines

  -- the cause of a refused call on lines: the count of faults rose, or a cell ahead is bad
  abbrev pub LinesCause : Held → List Line → ℕ → ℕ → ReadFault → Type 0
  LinesCause held lines before now Device = Rose before now
  LinesCause held lines before now (BadCell number) = HasBadLine held number lines

  -- the lesser of two keys, where there is a first
  abbrev pub lesser : Option (List ℕ) → List ℕ → Option (List ℕ)
  lesser None k = Some k
  lesser (Some l) k = cond (is_lt (way_cmp falls k l)) (Some k) (Some l)

  -- the same with the key of a head, where that is below the upper end
  abbrev pub lowered : Option (List ℕ) → Option (List ℕ) → Option Cell → Option (List ℕ)
  lowered end least None = least
  lowered end least (Some cell) = cond (within_end falls end (key_of cell)) (lesser least (key_of cell)) least

  -- a head has a lesser key than one, where there is one
  abbrev pub is_lower : Option Cell → Option (List ℕ) → Bool
  is_lower None least = false
  is_lower (Some cell) None = true
  is_lower (Some cell) (Some l) = is_lt (way_cmp falls (key_of cell) l)

  -- the least key of the heads below the upper end, if there is one, and of one more key
  abbrev pub least_from : Option (List ℕ) → Option (List ℕ) → List Line → Option (List ℕ)
  least_from end least [] = least
  least_from end least (line ∷ lines) = least_from end (lowered end least line.head) lines
