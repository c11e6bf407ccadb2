-- Words of the laws: what they call an accepted put, the map of a state, and a request that fits a shape.
use Rattle.std.specs.Prelude.{ℕ, ◌≡◌, Bool, true, false, List, Option, Some, None}
use Rattle.std.specs.declared.cmp.Ordering.TheVariants.{Less}
use Rattle.std.specs.List.{AllPairs}
use Rattle.cola_spec.specs.Map.{Shape, Map, key_cmp, is_key, is_value, PutOutcome, New, Old, Full, Worn, Other}
use Rattle.cola_spec.specs.Command.{Command, Put, PutIf, Del, Get, Stamp, Range, Scan, Count, Close, Reopen}
use Rattle.cola_spec.specs.Machine.{State, Open, Closing, Closed}

-- the put gave its key the value
abbrev pub is_accepted : PutOutcome → Bool
is_accepted New = true
is_accepted (Old _) = true
is_accepted Full = false
is_accepted Worn = false
is_accepted (Other _) = false

-- the keys strictly rise, so that no key stands twice
abbrev pub Rises : List (List ℕ × List ℕ) → Type 0
Rises rows = AllPairs (λ a b. key_cmp a.0 b.0 ≡ Less) rows

-- the map that a state has, open or not
abbrev pub map_of : State → Map
map_of (Open m) = m
map_of (Closing m) = m
map_of (Closed m byte) = m

-- the keys and values of a command fit the shape
abbrev pub CommandFits : Shape → Command → Type 0
CommandFits shape (Put key value) = (is_key shape key ≡ true) × (is_value shape value ≡ true)
CommandFits shape (PutIf key seen value) = (is_key shape key ≡ true) × (is_value shape value ≡ true)
CommandFits shape (Del key) = is_key shape key ≡ true
CommandFits shape (Get key) = is_key shape key ≡ true
CommandFits shape (Stamp key) = is_key shape key ≡ true
CommandFits shape (Range low high) = (is_key shape low ≡ true) × (is_key shape high ≡ true)
CommandFits shape (Scan low most) = is_key shape low ≡ true
CommandFits shape Count = Unit {0}
CommandFits shape Close = Unit {0}
CommandFits shape Reopen = Unit {0}

-- a request fits the shape, as one that is no command does
abbrev pub RequestFits : Shape → Option Command → Type 0
RequestFits shape None = Unit {0}
RequestFits shape (Some command) = CommandFits shape command
