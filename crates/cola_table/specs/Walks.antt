-- Walks over a table in memory.
use Rattle.std.specs.Prelude.{ℕ, ◌-◌, ◌^◌, ◌≡◌, List}
use Rattle.cola_table.specs.declared.flat.FlatWalk.{FlatWalk}
use Rattle.cola_table.specs.Flat.{Flat, pairs_ahead}

-- any walk stands
abbrev pub Stands : Flat → FlatWalk → Type 0
Stands table walk = Unit {0}

-- these are the pairs ahead of the walk
abbrev pub Ahead : Flat → FlatWalk → List (List ℕ × List ℕ) → Type 0
Ahead table walk pairs = pairs ≡ pairs_ahead table.map walk.place walk.high

-- at most so many pairs are ahead: as many as there are places from the walk's on
abbrev pub most_ahead : FlatWalk → ℕ
most_ahead walk = 2 ^ 32 - walk.place
