-- The commands of the workload, and the map that they leave.
use Rattle.std.specs.Prelude.{ℕ, zero, suc, ◌*◌}
use Rattle.cola_spec.specs.Map.{Shape, Map, after_put, after_delete}
use Rattle.cola_spec.specs.Command.{Command, Put, Del, Get}
use Rattle.cola_gen.specs.Keys.{key_text, value_text, evens}

-- a put of each key with its value
abbrev pub puts : ℕ → Command
puts place = Put (key_text place) (value_text place)

-- a delete of each key at an even place
abbrev pub deletes : ℕ → Command
deletes half = Del (key_text (2 * half))

-- a get of each key
abbrev pub gets : ℕ → Command
gets place = Get (key_text place)

-- the map after a command
abbrev pub map_after : Shape → Map → Command → Map
map_after shape m (Put key value) = after_put shape m key value
map_after shape m (Del key) = after_delete m key
map_after shape m _ = m

-- the map after the first commands of a list
abbrev pub after_first : Shape → Map → (ℕ → Command) → ℕ → Map
after_first shape m command zero = m
after_first shape m command (suc count) = map_after shape (after_first shape m command count) (command count)

-- the map after so many puts, and after the deletes of every second of their keys
abbrev pub left_by : Shape → Map → ℕ → Map
left_by shape m number = after_first shape (after_first shape m puts number) deletes (evens number)
