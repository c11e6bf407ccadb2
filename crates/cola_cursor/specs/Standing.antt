-- Where a cursor stands over an object, and which pairs are ahead of it.
use Rattle.std.specs.Prelude.{◌≡◌, ◌⊎◌, ℕ, ◌≤◌, ◌<◌, Bool, false, List, [], ◌∷◌, map, take, drop, Option, None, Some, Result, Ok, Err, ⊤, IsTrue, option_map}
use Rattle.std.specs.List.{AllByRecursion}
use Rattle.std.specs.declared.cmp.Ordering.TheVariants.{Less}
use Rattle.cola_runs.specs.Cells as laws
use Rattle.cola_runs.specs.Search.{AreSampled}
use Rattle.cola_cell.specs.declared.cell.Cell.{Cell}
use Rattle.cola_cell.specs.declared.cell.Run.{Run}
use Rattle.cola_cell.specs.declared.fault.ReadFault.{ReadFault}
use Rattle.cola_cell.specs.Cell.{key_of}
use Rattle.cola_cell.specs.Held.{Held, Told, Tells, LawCell, Stamped}
use Rattle.cola_cell.specs.Order.{key_cmp}
use Rattle.cola_look.specs.Runs.{AreRuns, BeginsNear}
use Rattle.cola_pairs.specs.Live.{live}
use Rattle.cola_cursor.specs.declared.line.Line.{Line}
use Rattle.cola_cursor.specs.declared.cursor.Cursor.{Cursor}
use Rattle.cola_cursor.specs.Lines.{LineFits}
use Rattle.cola_cursor.specs.Way.{way, way_cmp, within_end, spot_at}

-- the runs of lines
abbrev pub runs_of : List Line → List Run
runs_of = map (λ line. line.run)

-- runs as the search of a key wants them: each is well formed and has the sample of the next, and the key's place in the first, of which the search begins at the first cell, is near enough
pub record AreSearched (key : List ℕ) (lists : List (List LawCell)) : Type 0 where
  pub sampled : AreSampled key_cmp lists
  pub near : BeginsNear key lists

-- an answer takes the first of the pairs that were ahead, if there is one, and leaves the others ahead; a refusal takes none
abbrev pub TakesNext : (List (List ℕ × Stamped) → Type 0) → List (List ℕ × Stamped) → Result (Option (List ℕ × List ℕ × ℕ)) ReadFault → Type 0
TakesNext ahead pairs (Ok None) = (pairs ≡ []) × ahead []
TakesNext ahead pairs (Ok (Some pair)) =
    (others : List (List ℕ × Stamped)) × (pairs ≡ (pair.0, record { value = pair.1; stamp = pair.2 }) ∷ others) × ahead others
TakesNext ahead pairs (Err fault) = ahead pairs

-- no key is hidden
abbrev pub none_hidden : List ℕ → Type 0
none_hidden k = ⊥

-- the key of an answer
abbrev pub answered_key : Option (List ℕ × List ℕ × ℕ) → Option (List ℕ)
answered_key None = None
answered_key (Some pair) = Some pair.0

-- an answer, its pair with this stamp
abbrev pub with_stamp : ℕ → Result (Option (List ℕ × List ℕ)) ReadFault → Result (Option (List ℕ × List ℕ × ℕ)) ReadFault
with_stamp stamp (Ok answer) = Ok (option_map (λ pair. (pair.0, pair.1, stamp)) answer)
with_stamp stamp (Err fault) = Err fault

-- the cells of each line's run stay from one object to another
abbrev pub RunsStay : Held → Held → List Line → Type 0
RunsStay old new = AllByRecursion (λ line. (i : ℕ) → i < line.run.len → new.spots line.run.level line.run.slot i ≡ old.spots line.run.level line.run.slot i)

module _ (falls : Bool) where
  -- the cells of runs from the places of lines on
  abbrev pub rests : List Line → List (List LawCell) → List (List LawCell)
  rests [] lists = []
  rests (line ∷ lines) [] = []
  rests (line ∷ lines) (cells ∷ lists) = drop line.place (way falls cells) ∷ rests lines lists

  -- the cells of runs before the places of lines
  abbrev pub befores : List Line → List (List LawCell) → List (List LawCell)
  befores [] lists = []
  befores (line ∷ lines) [] = []
  befores (line ∷ lines) (cells ∷ lists) = take line.place (way falls cells) ∷ befores lines lists

  -- every key before one of the places is below every key at or after any of them
  abbrev pub AreApart : List (List LawCell) → List (List LawCell) → Type 0
  AreApart befores rests =
      AllByRecursion (AllByRecursion (λ c. AllByRecursion (AllByRecursion (λ d. way_cmp falls (laws.key_of c) (laws.key_of d) ≡ Less)) rests)) befores

  -- a cursor over an object, in this direction: its lines stand in runs of the object, and where these are told to be runs as the search of any key wants them, every key before one of its places is below every key at or after any of them
  pub record StandsAlong (held : Held) (cursor : Cursor) : Type 0 where
    pub fit : AllByRecursion (LineFits falls held) cursor.lines.items
    pub apart : (lists : List (List LawCell)) → AreRuns held (runs_of cursor.lines.items) lists →
        ((key : List ℕ) → AreSearched key lists) → AreApart (befores cursor.lines.items lists) (rests cursor.lines.items lists)

  -- these pairs, each with its stamp, are ahead of a cursor in this direction: its runs are told and in order, every key before one of its places is below every key at or after any of them, and the pairs are the live pairs within its end in the rests
  pub record AheadAlong (held : Held) (cursor : Cursor) (pairs : List (List ℕ × Stamped)) : Type 0 where
    pub lists : List (List LawCell)
    pub told : AreRuns held (runs_of cursor.lines.items) lists
    pub rising : AllByRecursion (laws.IsRising key_cmp) lists
    pub apart : AreApart (befores cursor.lines.items lists) (rests cursor.lines.items lists)
    pub pairs_are : pairs ≡
        live (way_cmp falls) (within_end falls cursor.end) (rests cursor.lines.items lists)

  -- the head of a line is at or past the upper end, or there is none
  abbrev pub HeadEnds : Option (List ℕ) → ℕ → ℕ → Option Cell → Type 0
  HeadEnds end place len None = place ≡ len
  HeadEnds end place len (Some cell) = within_end falls end (key_of cell) ≡ false

  -- a line at the end of its run, or at a key that is not below the upper end
  abbrev pub LineEnds : Option (List ℕ) → Line → Type 0
  LineEnds end line = HeadEnds end line.place line.run.len line.head

  -- the cause of an answer, by its key: none comes where every line ends, and a key is below the upper end
  abbrev pub AnswerCause : Cursor → Option (List ℕ) → Type 0
  AnswerCause cursor None = AllByRecursion (LineEnds cursor.end) cursor.lines.items
  AnswerCause cursor (Some key) = IsTrue (within_end falls cursor.end key)

  -- a tombstone of this key that a line passed from one place to another
  pub record HasTombstone (held : Held) (old new : Line) (key : List ℕ) : Type 0 where
    pub index : ℕ
    pub from : old.place ≤ index
    pub before : index < new.place
    pub young : Bool
    pub link : ℕ
    pub told : Tells (spot_at falls held old.run index)
        (Told (laws.Entry key laws.Tombstone young link))

  -- a cell that a line passed: a lookahead cell, or one of the answered key, or of a key that is hidden or of which the line passed a tombstone
  pub record PassedCell (held : Held) (old new : Line) (answered : Option (List ℕ)) (hidden : List ℕ → Type 0) (j : ℕ) : Type 0 where
    pub cell : LawCell
    pub told : Tells (spot_at falls held old.run j) (Told cell)
    pub reason : IsTrue (laws.is_look cell) ⊎ (answered ≡ Some (laws.key_of cell)) ⊎
        hidden (laws.key_of cell) ⊎ HasTombstone held old new (laws.key_of cell)

  -- a line that went on in its run, and each cell that it passed
  pub record LinePassed (held : Held) (old new : Line) (answered : Option (List ℕ)) (hidden : List ℕ → Type 0) : Type 0 where
    pub run_is : new.run ≡ old.run
    pub goes : old.place ≤ new.place
    pub cells : (j : ℕ) → old.place ≤ j → j < new.place → PassedCell held old new answered hidden j

  -- lines that went on in their runs: each cell that one passed is a lookahead cell, or has the answered key, or a key that is hidden or of which it or a line before it passed a tombstone
  abbrev pub LinesPassed : Held → Option (List ℕ) → (List ℕ → Type 0) → List Line → List Line → Type 0
  LinesPassed held answered hidden [] [] = ⊤
  LinesPassed held answered hidden [] (new ∷ news) = ⊥
  LinesPassed held answered hidden (old ∷ olds) [] = ⊥
  LinesPassed held answered hidden (old ∷ olds) (new ∷ news) =
      LinePassed held old new answered hidden × LinesPassed held answered (λ k. hidden k ⊎ HasTombstone held old new k) olds news

  -- a value of this key that a line passed from one place to another
  pub record HasValue (held : Held) (old new : Line) (key value : List ℕ) (stamp : ℕ) : Type 0 where
    pub index : ℕ
    pub from : old.place ≤ index
    pub before : index < new.place
    pub young : Bool
    pub link : ℕ
    pub told : Tells (spot_at falls held old.run index)
        (Told (laws.Entry key (laws.Value (record { value = value; stamp = stamp })) young link))

  -- the same of one of the lines
  abbrev pub AnyHasValue : Held → List ℕ → List ℕ → ℕ → List Line → List Line → Type 0
  AnyHasValue held key value stamp [] news = ⊥
  AnyHasValue held key value stamp (old ∷ olds) [] = ⊥
  AnyHasValue held key value stamp (old ∷ olds) (new ∷ news) = HasValue held old new key value stamp ⊎ AnyHasValue held key value stamp olds news

  -- an answered pair is a value that was passed
  abbrev pub IsPassed : Held → List Line → List Line → Option (List ℕ × List ℕ × ℕ) → Type 0
  IsPassed held olds news None = ⊤
  IsPassed held olds news (Some pair) = AnyHasValue held pair.0 pair.1 pair.2 olds news

-- a cursor over an object, the way that it goes
abbrev pub Stands : Held → Cursor → Type 0
Stands held cursor = StandsAlong cursor.falls held cursor

-- these pairs are ahead of a cursor, the way that it goes
abbrev pub Ahead : Held → Cursor → List (List ℕ × Stamped) → Type 0
Ahead held cursor = AheadAlong cursor.falls held cursor
