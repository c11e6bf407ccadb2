-- The maps of a format, and what a map stores of a key as a cell has it.
use Rattle.std.specs.Prelude.{ℕ, Bool, true, false}
use Rattle.cola_spec.specs.Map.{Shape, Stored}
use Rattle.cola_cell.specs.declared.format.Format.{Format}
use Rattle.cola_cell.specs.declared.format.Format.TheVariants.{One, Two}
use Rattle.cola_cell.specs.Format.{key_limit, value_limit}
use Rattle.cola_cell.specs.Held.{Stamped}

-- whether puts take stamps: in format Two
abbrev pub is_stamped : Format → Bool
is_stamped One = false
is_stamped Two = true

-- the maps of a format with a limit
abbrev pub shape_of : Format → ℕ → Shape
shape_of format limit = record { limit = limit; key_limit = key_limit format; value_limit = value_limit format; stamped = is_stamped format }

-- what a map stores, as the laws of runs have it in a cell: the same value with the same stamp
abbrev pub stamped_of : Stored → Stamped
stamped_of s = record { value = s.value; stamp = s.stamp }

-- what a cell has, as a map stores it
abbrev pub stored_of : Stamped → Stored
stored_of s = record { value = s.value; stamp = s.stamp }
