-- What a table gave where it was asked by a command, whether it holds a map or not: its own meanings of its calls.
use Rattle.std.specs.Prelude.{ℕ, ◌≡◌, ◌⊎◌, Bool, true, false, nat_lt, List, [], ◌∷◌, ◌++◌, length, take, Option, Some, None, Result, Ok, Err, is_err}
use Rattle.cola_cell.specs.declared.fault.ReadFault.{ReadFault}
use Rattle.cola_io.specs.Streams.{Appended}
use Rattle.cola_io.specs.declared.sink.Sink as sink
use Rattle.cola_spec.specs.Command.{Command, Range, Scan}
use Rattle.cola_spec.specs.Reply.{Reply, Rows, Cut, rows_text}
use Rattle.cola_spec.specs.Machine.{Turn}
use Rattle.cola_table.specs.declared.table.Table as table
use Rattle.cola_table.specs.Replies.{read_failure}

-- a key with its value
abbrev pub Pair : Type 0
Pair = List ℕ × List ℕ

-- whether another row is wanted
abbrev pub wants : Option ℕ → ℕ → Bool
wants None rows = true
wants (Some most) rows = nat_lt rows most

module _ {T W : Type 0} (t : table.Ghosts T W) where
  -- a walk gave these pairs, one after another, and that table and that walk are left
  abbrev pub Gave : T → W → List Pair → T → W → Type 0
  Gave old walk [] new walk' = (new ≡ old) × (walk' ≡ walk)
  Gave old walk (pair ∷ pairs) new walk' = (u : T) × ((v : W) × (t.goes old walk (Ok (Some pair)) u v × Gave u v pairs new walk'))

  -- a range was begun and gave these rows so far
  pub record Walked (low : List ℕ) (high : Option (List ℕ)) (old : T) (rows : List Pair) (new : T) (walk : W) : Type 0 where
    pub begun : T
    pub first : W
    pub begins : t.begins old low high (Ok first) begun
    pub gave : Gave begun first rows new walk

  -- another row was wanted, and none was left
  pub record NoneLeft (most : Option ℕ) (rows : List Pair) (old : T) (walk : W) (new : T) (answer : Reply) : Type 0 where
    pub wanted : wants most (length rows) ≡ true
    pub after : W
    pub goes : t.goes old walk (Ok None) new after
    pub answer_is : answer ≡ Rows rows

  -- another row was wanted, and was refused
  pub record CutShort (most : Option ℕ) (rows : List Pair) (old : T) (walk : W) (new : T) (answer : Reply) : Type 0 where
    pub wanted : wants most (length rows) ≡ true
    pub fault : ReadFault
    pub after : W
    pub goes : t.goes old walk (Err fault) new after
    pub answer_is : answer ≡ Cut rows (read_failure fault)

  -- the range was refused
  pub record RangeRefused (low : List ℕ) (high : Option (List ℕ)) (old : T) (answer : Reply) (new : T) : Type 0 where
    pub fault : ReadFault
    pub begins : t.begins old low high (Err fault) new
    pub answer_is : answer ≡ Cut [] (read_failure fault)

-- no other row was wanted
pub record NoneWanted {T : Type 0} (most : Option ℕ) (rows : List Pair) (old new : T) (answer : Reply) : Type 0 where
  pub unwanted : wants most (length rows) ≡ false
  pub table_stays : new ≡ old
  pub answer_is : answer ≡ Rows rows

-- the sink took no more: the answer begins with these rows, and some front of their text was written
pub record BrokenOff {T A E : Type 0} (result : Result A E) (written written' : Option (List ℕ)) (rows : List Pair) (old new : T) (answer : Reply) : Type 0 where
  pub failed : is_err result ≡ true
  pub table_stays : new ≡ old
  pub more : List Pair
  pub answer_is : answer ≡ Rows (rows ++ more)
  pub wrote : (n : ℕ) × Appended (take n (rows_text rows)) written written'

module _ {T W K A E : Type 0} (t : table.Ghosts T W) (k : sink.Ghosts K) where
  -- the rows ended in one of these ways
  abbrev pub Ended : Option ℕ → Result A E → List Pair → T → W → K → Reply → T → K → Type 0
  Ended most result rows old walk sink answer new sink' =
      NoneLeft t most rows old walk new answer ⊎ NoneWanted most rows old new answer ⊎ CutShort t most rows old walk new answer
      ⊎ BrokenOff result (k.written sink) (k.written sink') rows old new answer

  -- rows as the table gave them
  pub record RowsWalked (low : List ℕ) (high : Option (List ℕ)) (most : Option ℕ) (result : Result A E) (old : T) (sink : K) (answer : Reply) (new : T) (sink' : K) : Type 0 where
    pub rows : List Pair
    pub table : T
    pub walk : W
    pub walked : Walked t low high old rows table walk
    pub ended : Ended most result rows table walk sink answer new sink'

  -- what the table gave for the rows from one end up to another, at most so many
  abbrev pub RowsGiven : List ℕ → Option (List ℕ) → Option ℕ → Result A E → T → K → Reply → T → K → Type 0
  RowsGiven low high most result old sink answer new sink' =
      RangeRefused t low high old answer new ⊎ RowsWalked low high most result old sink answer new sink'

  -- what the table gave for a command: the turn is the one that it answered, or lists the pairs that it gave
  abbrev pub Given : Command → Result A E → T → K → Turn → T → K → Type 0
  Given (Range low high) result old sink turn new sink' = RowsGiven low (Some high) None result old sink turn.answer new sink'
  Given (Scan low most) result old sink turn new sink' = RowsGiven low None (Some most) result old sink turn.answer new sink'
  Given _ result old sink turn new sink' = t.answers old turn new
