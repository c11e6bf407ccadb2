-- The abstract cell.
use Rattle.std.specs.Prelude.{ℕ, Bool}

-- what a mutation leaves of its key: the value that was put, or a tombstone where the key was deleted
pub data Item (V : Type 0) : Type 0 where
  Value : V → Item V
  Tombstone : Item V

-- an item with its key, its young flag and its link, or a lookahead cell with its key and its link
pub data Cell (K V : Type 0) : Type 0 where
  Entry : K → Item V → Bool → ℕ → Cell K V
  Look : K → ℕ → Cell K V
