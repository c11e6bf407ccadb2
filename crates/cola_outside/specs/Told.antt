-- What an object tells of its content: a value, or nothing where its implementation tells none.
use Rattle.std.specs.Prelude.{Option, Some, None, ⊤}

-- both contents are told and stand in this relation, or none is told
abbrev pub Both : {A B : Type 0} → Option A → Option B → (A → B → Type 0) → Type 0
Both None None relation = ⊤
Both None (Some after) relation = ⊥
Both (Some before) None relation = ⊥
Both (Some before) (Some after) relation = relation before after
