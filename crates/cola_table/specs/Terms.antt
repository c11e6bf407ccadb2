-- What a table is held to: its format, its limit and its levels, which no call changes, and what one call may spend.
use Rattle.std.specs.Prelude.{ℕ, ◌+◌, ◌≤◌, ◌≡◌}
use Rattle.cola_cell.specs.declared.format.Format.{Format}
use Rattle.cola_shapes.specs.Shapes.{shape_of}
use Rattle.cola_spec.specs.Map.{Shape}

-- the format of a table's keys and values, the most keys that it holds, and the number that bounds its cell accesses
pub record Terms : Type 0 where
  pub format : Format
  pub limit : ℕ
  pub depth : ℕ

-- the maps that a table of these terms may stand for
abbrev pub shape : Terms → Shape
shape terms = shape_of terms.format terms.limit

-- the terms stay, the count of faults does not fall, and the steps rise by at most the bound
pub record Call (terms terms' : Terms) (faults faults' steps steps' bound : ℕ) : Type 0 where
  pub same_terms : terms' ≡ terms
  pub faults_kept : faults ≤ faults'
  pub steps_kept : steps ≤ steps'
  pub within : steps' ≤ steps + bound
