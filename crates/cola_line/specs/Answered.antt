-- What a table and a sink did for a command, of any table and any sink.
use Rattle.std.specs.Prelude.{ℕ, ◌≡◌, ◌+◌, ◌≤◌, Bool, Some, Result}
use Rattle.cola_io.specs.declared.sink.Sink as sink
use Rattle.cola_spec.specs.Map.{Map}
use Rattle.cola_spec.specs.Command.{Command}
use Rattle.cola_spec.specs.Machine.{Turn, kind_of, turn_text}
use Rattle.cola_table.specs.declared.table.Table as table
use Rattle.cola_table.specs.Terms.{shape}
use Rattle.cola_line.specs.Given.{Given}
use Rattle.cola_line.specs.Replied.{Wrote, KindFaults, StepsFrom}

-- what a call keeps of a table, its terms and what it has beside its map; the count of faults does not fall, and the steps rise by at most the bound
pub record Calls {T W : Type 0} (t : table.Ghosts T W) (old new : T) (steps steps' bound : ℕ) : Type 0 where
  pub kept : t.kept new ≡ t.kept old
  pub same_terms : t.terms new ≡ t.terms old
  pub faults_kept : t.faults old ≤ t.faults new
  pub steps_kept : steps ≤ steps'
  pub within : steps' ≤ steps + bound

-- the table gave this turn: by its own meaning, with the faults of its kind, and as a step of the session machine from any map that it held
pub record GaveTurn {T W : Type 0} (t : table.Ghosts T W) (old : T) (turn : Turn) (new : T) : Type 0 where
  pub given : t.answers old turn new
  pub faults : KindFaults (kind_of turn.answer) (t.faults old) (t.faults new)
  pub step : (m : Map) → t.holds old m → StepsFrom (shape (t.terms old)) m (t.holds new) turn

-- the turn answers the command: its text was written, its cell accesses are those that were made, its faults are those of its kind, the table gave it, and where the table held the map m it is a step of the session machine from m
pub record Answered {T W K A E : Type 0} (t : table.Ghosts T W) (k : sink.Ghosts K) (m : Map) (command : Command) (cost : Bool) (result : Result A E) (old new : T) (sink sink' : K) (steps steps' : ℕ) (turn : Turn) : Type 0 where
  pub asked : turn.request ≡ Some command
  pub wrote : Wrote (turn_text cost turn) result (k.written sink) (k.written sink')
  pub counted : steps' ≡ steps + turn.ticks
  pub faults : KindFaults (kind_of turn.answer) (t.faults old) (t.faults new)
  pub given : Given t k command result old sink turn new sink'
  pub step : t.holds old m → StepsFrom (shape (t.terms old)) m (t.holds new) turn
