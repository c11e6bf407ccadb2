-- What was written of the rows of an interval.
use Rattle.std.specs.Prelude.{ℕ, ◌≡◌, ◌⊎◌, Bool, false, List, take, Option, Some, None, Result}
use Rattle.cola_io.specs.declared.sink.Sink as sink
use Rattle.cola_spec.specs.Map.{Map, pairs_between}
use Rattle.cola_spec.specs.Reply.{Reply, Rows, Cut, Fault, reply_text}
use Rattle.cola_spec.specs.Machine.{kind_of}
use Rattle.cola_table.specs.declared.table.Table as table
use Rattle.cola_line.specs.Given.{Pair, RowsGiven}
use Rattle.cola_line.specs.Replied.{Wrote, KindFaults}

-- all pairs of a list, or the first `most` of them
abbrev pub first_of : Option ℕ → List Pair → List Pair
first_of None pairs = pairs
first_of (Some most) pairs = take most pairs

-- all rows that were asked for, or some of them, cut by a fault of the device
abbrev pub RowsFor : List Pair → Reply → Type 0
RowsFor rows answer = (answer ≡ Rows rows) ⊎ ((n : ℕ) × (answer ≡ Cut (take n rows) Fault))

-- the text of this answer was written, its rows are those that the table gave, and where the table holds the map m they are the map's
pub record Listed {T W K A E : Type 0} (t : table.Ghosts T W) (k : sink.Ghosts K) (m : Map) (low : List ℕ) (high : Option (List ℕ)) (most : Option ℕ) (result : Result A E) (old new : T) (sink sink' : K) (answer : Reply) : Type 0 where
  pub wrote : Wrote (reply_text false 0 answer) result (k.written sink) (k.written sink')
  -- no cost stands behind rows
  pub costless : (cost : Bool) (ticks : ℕ) → reply_text cost ticks answer ≡ reply_text false 0 answer
  pub faults : KindFaults (kind_of answer) (t.faults old) (t.faults new)
  pub given : RowsGiven t k low high most result old sink answer new sink'
  pub rows : t.holds old m → RowsFor (first_of most (pairs_between m low high)) answer
