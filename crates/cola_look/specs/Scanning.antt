-- What a search of a window sees.
use Rattle.std.specs.Prelude.{◌≡◌, ℕ, ◌+◌, ◌≤◌, ◌<◌, ◌⊎◌, true, false, not, if◌then◌else◌, List, None, Result, Ok, Err}
use Rattle.std.specs.Ordering.{is_lt}
use Rattle.cola_cell.specs.declared.cell.Cell.{Cell}
use Rattle.cola_cell.specs.declared.fault.ReadFault.{ReadFault}
use Rattle.cola_cell.specs.declared.format.Format.{Format}
use Rattle.cola_cell.specs.Cell.{key_of}
use Rattle.cola_cell.specs.Decoded.{standing}
use Rattle.cola_cell.specs.Held.{as_cell}
use Rattle.cola_cell.specs.Order.{key_cmp}
use Rattle.cola_cell.specs.Reads.{Reads}
use Rattle.cola_cell.specs.Spelling.{IsNoSpelling}
use Rattle.cola_cell.specs.Spent.{Search}
use Rattle.cola_cell.specs.State.{State}
use Rattle.cola_cell.specs.Windows.{Scanned}
use Rattle.cola_cell.specs.declared.cell.Run.{Run}
use Rattle.cola_cell.specs.declared.windows.Reach.{Reach}
use Rattle.cola_window.specs.Seeking.{nth, HasCell, AllBelow}
use Rattle.cola_window.specs.Windows.{Spells}
use Rattle.cola_look.specs.declared.scanning.Sight.{Sight}
use Rattle.cola_look.specs.Seek.{seat_at, seat_of, as_seat}

-- the search of so many cells stops at the one behind those that it passed: its key is not below the key sought, and the seat there is the one
-- that was seen
pub record StopsThere (most : ℕ) (key : List ℕ) (format : Format) (bytes : List ℕ) (sight : Sight) : Type 0 where
  pub within : sight.passed < most
  pub has : HasCell format bytes sight.passed
  pub spells : Spells format (nth format bytes sight.passed)
  pub not_below : is_lt (key_cmp (key_of (standing format (nth format bytes sight.passed))) key) ≡ false
  pub seat : (pos : ℕ) → as_seat (seat_of sight pos) ≡ seat_at key pos (as_cell (standing format (nth format bytes sight.passed)))

-- a search of a window passes cells below the key, as many as it may at most, and stops at the one behind them: but where it passed as
-- many, or where no cell is spelled there, which is left to who goes on. Each cell passed is an access, and the one at which it stops
pub record Sees (before after : Sight) (key : List ℕ) (format : Format) (bytes : List ℕ) (ticks : ℕ) : Type 0 where
  pub few : after.passed ≤ before.most
  pub below : AllBelow format key bytes after.passed
  pub stops : after.stops ≡ true → StopsThere before.most key format bytes after
  pub goes_on : after.stops ≡ false → (after.passed ≡ before.most) ⊎ (HasCell format bytes after.passed → IsNoSpelling format (nth format bytes after.passed))
  pub ticks_are : ticks ≡ (if after.stops then after.passed + 1 else after.passed)
  pub misses : after.stops ≡ false → after.hit ≡ None

-- a run from an index on
abbrev pub reach_of : Run → ℕ → Reach
reach_of run index = record { run = run; from = index }

-- a search of so many cells at most saw a window of the run
pub record IsScanned (old new : State) (run : Run) (index most : ℕ) (key : List ℕ) (sight : Sight) (from to : ℕ) : Type 0 where
  pub blank : Sight
  pub most_is : blank.most ≡ most
  pub ticks : ℕ
  pub scanned : Scanned Sees old new (reach_of run index) blank sight key from to ticks

-- a search saw one cell of the run, which it read: it passed it, or stopped there
pub record IsReadAlone (old new : State) (run : Run) (index : ℕ) (key : List ℕ) (sight : Sight) (from to : ℕ) : Type 0 where
  pub cell : Cell
  pub read : Reads old new Search run.level run.slot index (Ok cell)
  pub one_tick : to ≡ from + 1
  pub passed_is : sight.passed ≡ (if sight.stops then 0 else 1)
  pub order_is : is_lt (key_cmp (key_of cell) key) ≡ not sight.stops
  pub seat : sight.stops ≡ true → (pos : ℕ) → as_seat (seat_of sight pos) ≡ seat_at key pos (as_cell cell)
  pub misses : sight.stops ≡ false → sight.hit ≡ None

-- what a call answers that leaves what it saw in a room: what the room has afterwards, or why it was refused
abbrev pub sight_in : Sight → Result (Unit {0}) ReadFault → Result Sight ReadFault
sight_in sight (Ok a) = Ok sight
sight_in sight (Err fault) = Err fault

-- a search looked on from a cell of a run: what it saw, or that this cell was refused
abbrev pub LooksOn : (old new : State) → Run → (index most : ℕ) → List ℕ → (from to : ℕ) → Result Sight ReadFault → Type 0
LooksOn old new run index most key from to (Ok sight) =
    IsScanned old new run index most key sight from to ⊎ IsReadAlone old new run index key sight from to
LooksOn old new run index most key from to (Err fault) = Reads old new Search run.level run.slot index (Err fault) × (to ≡ from + 1)
