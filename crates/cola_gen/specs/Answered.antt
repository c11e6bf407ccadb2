-- What a table answered to a list of commands, of any table.
use Rattle.std.specs.Prelude.{ℕ, ◌+◌, ◌-◌, ◌≡◌, ◌≤◌, ◌<◌, ◌⊎◌, true, List, [], ◌∷◌, All, length, Some, Result, Ok, Err}
use Rattle.cola_cell.specs.declared.fault.ReadFault.{ReadFault}
use Rattle.cola_spec.specs.Map.{Shape, Map}
use Rattle.cola_spec.specs.Command.{Command}
use Rattle.cola_spec.specs.Reply.{Reply, Failed, Fault}
use Rattle.cola_spec.specs.Machine.{Turn, open_reply, ticks_of}
use Rattle.cola_spec.specs.Bounds.{command_bound}
use Rattle.cola_table.specs.declared.PutFault.{PutFault}
use Rattle.cola_table.specs.declared.table.Table as table
use Rattle.cola_table.specs.Terms.{shape}
use Rattle.cola_table.specs.Replies.{turn_of, put_refused, read_failure}
use Rattle.cola_gen.specs.declared.Tally.{Tally}
use Rattle.cola_gen.specs.Keys.{evens, HasOdd}
use Rattle.cola_gen.specs.Commands.{puts, deletes, map_after, after_first}
use Rattle.cola_gen.specs.Turns.{Tallied, TalliedOne, TalliedAll, accepts, refuses}

-- why a get was refused, as a reply
abbrev pub read_refused : ReadFault → Reply
read_refused refusal = Failed (read_failure refusal)

-- a table with a tally and a number of steps, before or after a call
pub record State (T : Type 0) : Type 0 where
  pub table : T
  pub tally : Tally
  pub steps : ℕ

-- the state of these three
abbrev pub at : {T : Type 0} → T → Tally → ℕ → State T
at table tally steps = record { table = table; tally = tally; steps = steps }

-- each turn's reply is that of the map that the turns before it left; the newest turn stands first
abbrev pub AsMap : Shape → Map → (ℕ → Command) → List Turn → Type 0
AsMap shape m command [] = Unit {0}
AsMap shape m command (turn ∷ turns) = (turn.answer ≡ open_reply shape (after_first shape m command (length turns)) (command (length turns)))
    × AsMap shape m command turns

module _ {T W : Type 0} (t : table.Ghosts T W) where
  -- what a call keeps of a table: its terms and what it has beside its map
  pub record Keeps (old new : T) : Type 0 where
    pub kept : t.kept new ≡ t.kept old
    pub same_terms : t.terms new ≡ t.terms old

  -- what a table has beside its map stays, and the steps rise by at most this
  pub record Spent (most : ℕ) (old new : State T) : Type 0 where
    pub keeps : Keeps old.table new.table
    pub steps_kept : old.steps ≤ new.steps
    pub within : new.steps ≤ old.steps + most

  -- the table answered the first commands of a list, one after another, and refused none; the newest turn stands first
  abbrev pub Gave : (ℕ → Command) → T → List Turn → T → Type 0
  Gave command old [] new = new ≡ old
  Gave command old (turn ∷ turns) new =
      (before : T) × (Gave command old turns before × t.answers before turn new × (turn.request ≡ Some (command (length turns)))
      × (accepts turn.answer (command (length turns)) ≡ true))

  -- so many commands were answered by these turns: what they made is tallied, their cell accesses were counted
  -- and those of each are within the bound, no fault came, and a table that held a map answered as the map does
  pub record Answered (command : ℕ → Command) (bound levels count : ℕ) (old new : State T) (turns : List Turn) : Type 0 where
    pub number : length turns ≡ count
    pub gave : Gave command old.table turns new.table
    pub tallied : Tallied levels turns old.tally new.tally
    pub ticks : new.steps ≡ old.steps + ticks_of turns
    pub within : All (λ turn. turn.ticks ≤ bound) turns
    pub faults : t.faults new.table ≡ t.faults old.table
    pub keeps : Keeps old.table new.table
    pub as_map : (m : Map) → t.holds old.table m → AsMap (shape (t.terms old.table)) m command turns
        × t.holds new.table (after_first (shape (t.terms old.table)) m command count)

  -- a command was answered by this turn: what it made is tallied, its cell accesses were counted
  -- and are within the bound, no fault came, and a table that held a map answered as the map does
  pub record Accepted (command : Command) (bound levels place : ℕ) (old new : State T) : Type 0 where
    pub turn : Turn
    pub asked : turn.request ≡ Some command
    pub accepted : accepts turn.answer command ≡ true
    pub given : t.answers old.table turn new.table
    pub tallied : TalliedOne levels place turn old.tally new.tally
    pub ticks : new.steps ≡ old.steps + turn.ticks
    pub within : turn.ticks ≤ bound
    pub faults : t.faults new.table ≡ t.faults old.table
    pub keeps : Keeps old.table new.table
    pub as_map : (m : Map) → t.holds old.table m → (turn.answer ≡ open_reply (shape (t.terms old.table)) m command)
        × t.holds new.table (map_after (shape (t.terms old.table)) m command)

  -- a command was refused by this reply: a table that held a map refused as the map does or by
  -- a fault of its device, and holds the map still
  pub record Refused (command : Command) (answer : Reply) (old new : State T) : Type 0 where
    pub refuses : refuses answer command ≡ true
    pub given : t.answers old.table (turn_of command answer (new.steps - old.steps)) new.table
    pub same_tally : new.tally ≡ old.tally
    pub steps_kept : old.steps ≤ new.steps
    pub within : new.steps ≤ old.steps + command_bound (t.terms old.table).depth command
    pub keeps : Keeps old.table new.table
    pub as_map : (m : Map) → t.holds old.table m → ((answer ≡ Failed Fault) ⊎ (answer ≡ open_reply (shape (t.terms old.table)) m command)) × t.holds new.table m

  -- the first command that was refused ended the rest
  pub record Stopped (command : ℕ → Command) (bound levels count : ℕ) (answer : Reply) (old new : State T) : Type 0 where
    pub place : ℕ
    pub in_range : place < count
    pub before : State T
    pub turns : List Turn
    pub answered : Answered command bound levels place old before turns
    pub refused : Refused (command place) answer before new

  -- all of these commands were answered, the newest turn first
  pub record AllAnswered (command : ℕ → Command) (bound levels count : ℕ) (old new : State T) : Type 0 where
    pub turns : List Turn
    pub answered : Answered command bound levels count old new turns

  -- how a list of commands ended: all were answered, or the first that was refused ended the rest
  abbrev pub Ran : {E : Type 0} → (ℕ → Command) → (E → Reply) → ℕ → ℕ → ℕ → Result (Unit {0}) E → State T → State T → Type 0
  Ran command reply bound levels count (Ok _) old new = AllAnswered command bound levels count old new
  Ran command reply bound levels count (Err fault) old new = Stopped command bound levels count (reply fault) old new

  -- the puts were all answered, and then the deletes ended so
  pub record Second (bound levels number : ℕ) (result : Result (Unit {0}) PutFault) (old new : State T) : Type 0 where
    pub between : State T
    pub first : AllAnswered puts bound levels number old between
    pub second : Ran deletes put_refused bound levels (evens number) result between new

  -- how the puts and deletes ended
  abbrev pub Generated : ℕ → ℕ → ℕ → Result (Unit {0}) PutFault → State T → State T → Type 0
  Generated bound levels number (Ok _) old new = Second bound levels number (Ok tt) old new
  Generated bound levels number (Err fault) old new = Stopped puts bound levels number (put_refused fault) old new
      ⊎ Second bound levels number (Err fault) old new

  -- the table holds the keys of the odd places below the number, each with its value, and no
  -- other; each put made a key, and each delete found its own
  pub record MadeOdd (number : ℕ) (old new : State T) : Type 0 where
    pub map : Map
    pub holds : t.holds new.table map
    pub odd : HasOdd number map
    pub tallied : TalliedAll number old.tally new.tally
