-- Walks over an open store: when one stands, which pairs are ahead of it, and what its calls say on every file.
use Rattle.std.specs.Prelude.{◌≡◌, false, ℕ, ◌+◌, ◌*◌, ◌≤◌, List, length, map, Option, Result, Ok, Err, IfOk, IfErr}
use Rattle.cola_cell.specs.declared.fault.ReadFault.{ReadFault}
use Rattle.cola_cell.specs.Held.{LawCell, Stamped}
use Rattle.cola_cell.specs.Spent.{Spent, Ticks}
use Rattle.cola_device.specs.declared.counts.Counts.{Counts}
use Rattle.cola_look.specs.Outcome.{Answers}
use Rattle.cola_look.specs.Runs.{AreRuns}
use Rattle.cola_table.specs.Answers.{KeepsWalks}
use Rattle.cola_cursor.specs.declared.cursor.Cursor.{Cursor}
use Rattle.cola_cursor.specs.Lines.{all_left, all_ahead}
use Rattle.cola_cursor.specs.Results.{LinesCause}
use Rattle.cola_cursor.specs.Seeking.{places_from, places_of, places_told, range_ticks, left_sought, RunsCause}
use Rattle.cola_cursor.specs.Standing as standing
use Rattle.cola_cursor.specs.Standing.{AnswerCause, LinesPassed, IsPassed, none_hidden, answered_key, with_stamp}
use Rattle.cola_store.specs.Store.{Stored, held_of, spent_of, faults_of, levels_of, runs_of}
use Rattle.cola_store.specs.Calls.{Same}

-- a pair without its stamp
abbrev pub pair_of : List ℕ × Stamped → List ℕ × List ℕ
pair_of pair = (pair.0, pair.1.value)

-- how many cells a walk may still read, and how many it has still to pass
abbrev pub left_of : Cursor → ℕ
left_of walk = all_left walk.lines.items

abbrev pub cells_ahead : Cursor → ℕ
cells_ahead walk = all_ahead walk.lines.items

-- ticks made, as an object counts them, and left to make, within a number
pub record TicksFew (old new : Spent) (left most : ℕ) : Type 0 where
  pub made : ℕ
  pub counted : Ticks old.ticked new.ticked made
  pub few : made + left ≤ most

-- the same of the blocks turned to, at most one for each tick; none is written
pub record TurnsWithin (old new : Spent) (left most : ℕ) : Type 0 where
  pub turned_stays : old.turned ≤ new.turned
  pub turned_rises : new.turned + left ≤ old.turned + most
  pub written_is : new.written ≡ old.written
  pub ticks : TicksFew old new left most

-- what a walk that was refused may still read: nothing is asked of it
abbrev pub left_after : {A : Type 0} → Cursor → Result A ReadFault → ℕ
left_after walk (Ok a) = left_of walk
left_after walk (Err fault) = 0

module _ {D : Type 0} (bytes : D → Option (List ℕ)) where
  -- a walk stands over a store: it is one over the store's cells, in the store's visible runs
  pub record Stands (store : Stored D) (walk : Cursor) : Type 0 where
    pub cursor : standing.Stands (held_of bytes store) walk
    pub visible : standing.runs_of walk.lines.items ≡ runs_of store

  -- these pairs are ahead of a walk over a store, each with some stamp
  pub record Ahead (store : Stored D) (walk : Cursor) (pairs : List (List ℕ × List ℕ)) : Type 0 where
    pub stamped : List (List ℕ × Stamped)
    pub cursor : standing.Ahead (held_of bytes store) walk stamped
    pub pairs_are : pairs ≡ map pair_of stamped
    pub visible : standing.runs_of walk.lines.items ≡ runs_of store

  -- the walks that stand over one store stand over the other, with the same pairs ahead
  abbrev pub WalksStay : (old new : Stored D) → Type 0
  WalksStay old new = KeepsWalks (Stands old) (Stands new) (Ahead old) (Ahead new)

module _ {D : Type 0} (bytes : D → Option (List ℕ)) (counts : D → Counts) where
  -- the blocks turned to and left to turn to by a call on a store
  abbrev pub TurnsBy : (old new : Stored D) → (left most : ℕ) → Type 0
  TurnsBy old new left most = TurnsWithin (spent_of counts old) (spent_of counts new) left most

  -- why a range is refused: the count of faults rose, or this cell of a visible run is bad
  abbrev pub RangeCause : (old new : Stored D) → ReadFault → Type 0
  RangeCause old new = RunsCause (held_of bytes old) (runs_of old) (faults_of counts old) (faults_of counts new)

  -- why a next is: the count of faults rose, or this cell that a line of the walk reads next is bad
  abbrev pub NextCause : (old new : Stored D) → Cursor → ReadFault → Type 0
  NextCause old new walk = LinesCause walk.falls (held_of bytes old) walk.lines.items (faults_of counts old) (faults_of counts new)

  -- what the lines of a walk pass where a next answers this
  abbrev pub Passes : Stored D → (walk after : Cursor) → Option (List ℕ × List ℕ × ℕ) → Type 0
  Passes old walk after answer =
      LinesPassed walk.falls (held_of bytes old) (answered_key answer) none_hidden walk.lines.items after.lines.items

  -- a range with these ends gives a walk whose place in each visible run is where a search stops, or is refused with its cause
  pub record Begins (old : Stored D) (low : List ℕ) (high : Option (List ℕ)) (result : Result Cursor ReadFault) (new : Stored D) : Type 0 where
    pub ends : IfOk result (λ walk. walk.end ≡ high)
    pub way : IfOk result (λ walk. walk.falls ≡ false)
    pub places : (lists : List (List LawCell)) → AreRuns (held_of bytes old) (runs_of old) lists →
        IfOk result (λ walk. map (λ line. line.place) walk.lines.items ≡ places_from low 0 lists)
    -- on all files the same as far as the cells are told: a bad cell that a search needs is answered
    pub exact : Answers (places_told (held_of bytes old) low 0 (runs_of old)) (λ (walk : Cursor). places_of walk.lines) result
    pub few : (spent_of counts new).turned ≤ (spent_of counts old).turned + 2 * length (runs_of old)
    pub cause : IfErr result (RangeCause old new)
    pub turns : TurnsBy old new (left_sought result) (range_ticks (levels_of old))
    pub same : Same bytes counts old new
    pub account_is : new.account ≡ old.account

  -- a walk gives a pair that it passed, with some stamp, or none where every line ends, and passes no other value; or it is refused with its cause
  pub record Goes (old : Stored D) (walk : Cursor) (result : Result (Option (List ℕ × List ℕ)) ReadFault) (new : Stored D) (after : Cursor) : Type 0 where
    pub stamp : ℕ
    pub answers : IfOk (with_stamp stamp result) (λ answer. AnswerCause walk.falls after (answered_key answer))
    pub pair : IfOk (with_stamp stamp result)
        (IsPassed walk.falls (held_of bytes old) walk.lines.items after.lines.items)
    pub passes : IfOk (with_stamp stamp result) (Passes old walk after)
    pub end_is : after.end ≡ walk.end
    pub way_is : after.falls ≡ walk.falls
    pub cause : IfErr result (NextCause old new walk)
    pub turns : TurnsBy old new (left_after after result) (left_of walk)
    pub same : Same bytes counts old new
    pub account_is : new.account ≡ old.account

  -- answered calls on a walk, one after another, each on the store and the walk that the one before it left
  pub data GoesOn : Stored D → Cursor → Stored D → Cursor → Type 0 where
    Stays : {store : Stored D} {walk : Cursor} → GoesOn store walk store walk
    Then : {old mid new : Stored D} {walk after last : Cursor} (answer : Option (List ℕ × List ℕ)) →
        Goes old walk (Ok answer) mid after → GoesOn mid after new last → GoesOn old walk new last
