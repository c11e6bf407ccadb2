-- What the sessions of this crate stand for.
use Rattle.std.specs.Prelude.{ℕ, ◌≡◌, false}
use Rattle.cola_plain.specs.declared.session.Session.{Session}
use Rattle.cola_plain.specs.declared.session.Stage.{Stage}
use Rattle.cola_plain.specs.declared.session.Stage.TheVariants as stage
use Rattle.cola_plain.specs.Map.{Stands}
use Rattle.cola_spec.specs.Map as spec_map
use Rattle.cola_spec.specs.Machine.{State, Open, Closing, Closed}

-- the state of a stage, with the map
abbrev pub state_at : Stage → spec_map.Map → State
state_at stage.Open m = Open m
state_at stage.Closing m = Closing m
state_at (stage.Closed byte) m = Closed m byte

-- the session is at the stage of the state, with its map
abbrev pub SessionStands : Session → State → Type 0
SessionStands session (Open m) = (session.stage ≡ stage.Open) × Stands session.map m
SessionStands session (Closing m) = (session.stage ≡ stage.Closing) × Stands session.map m
SessionStands session (Closed m byte) = (session.stage ≡ stage.Closed byte) × Stands session.map m

-- the shape of a map without stamps: keys of at most 24 bytes, and values of at most 32
abbrev pub small_shape : ℕ → spec_map.Shape
small_shape limit = record { limit = limit; key_limit = 24; value_limit = 32; stamped = false }
