-- The two directions of a cursor.
use Rattle.std.specs.Prelude.{ℕ, suc, ◌-◌, Bool, cond, List, reverse, Option}
use Rattle.std.specs.declared.cmp.Ordering.{Ordering}
use Rattle.cola_cell.specs.declared.cell.Run.{Run}
use Rattle.cola_cell.specs.Held.{Held, Spot}
use Rattle.cola_cell.specs.Order.{key_cmp}
use Rattle.cola_pairs.specs.Live.{below_end}
use Rattle.cola_reverse.specs.Falling.{from_low}

module _ (falls : Bool) where
  -- the order of keys in this direction
  abbrev pub way_cmp : List ℕ → List ℕ → Ordering
  way_cmp x y = cond falls (key_cmp y x) (key_cmp x y)

  -- a key lies within the end to which the cursor goes
  abbrev pub within_end : Option (List ℕ) → List ℕ → Bool
  within_end end key = cond falls (from_low key_cmp end key) (below_end key_cmp end key)

  -- the cells of a run from where the cursor comes
  abbrev pub way : {X : Type 0} → List X → List X
  way cells = cond falls (reverse cells) cells

  -- the index of the cell that comes after so many in this direction
  abbrev pub at : ℕ → ℕ → ℕ
  at len place = cond falls (len - suc place) place

  -- what an object has there
  abbrev pub spot_at : Held → Run → ℕ → Spot
  spot_at held run place = held.spots run.level run.slot (at run.len place)
