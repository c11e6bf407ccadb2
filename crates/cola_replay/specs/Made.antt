-- The map after the calls of a log.
use Rattle.std.specs.Prelude.{◌&&◌, if◌then◌else◌, List, [], ◌∷◌}
use Rattle.cola_spec.specs.Map.{Shape, Map, is_key, is_value, after_put, after_put_if, after_delete}
use Rattle.cola_log.specs.Format.{Logged, Put, PutIf, Delete}

-- the map after a call: one with a key or a value that no map of the shape has leaves it, and so does one that it refuses
abbrev pub after : Shape → Map → Logged → Map
after shape m (Put key value) = if is_key shape key && is_value shape value then after_put shape m key value else m
after shape m (PutIf key seen value) = if is_key shape key && is_value shape value then after_put_if shape m key seen value else m
after shape m (Delete key) = if is_key shape key then after_delete m key else m

-- the map after some, one behind the other
abbrev pub after_all : Shape → Map → List Logged → Map
after_all shape m [] = m
after_all shape m (it ∷ calls) = after_all shape (after shape m it) calls
