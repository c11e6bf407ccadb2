-- Entries that lie in slots, and the order of the slots.
use Rattle.std.specs.Prelude.{ℕ, ◌+◌, ◌≡◌, ◌≤◌, ◌<◌, List, [], ◌++◌, length, map, nat_eq, slice_index_or}
use Rattle.std.specs.List.{All, IsDistinct}
use Rattle.cola_spec.specs.Map.{Stored}

-- the entry in a slot
abbrev pub entry_in : List (List ℕ × Stored) → ℕ → List ℕ × Stored
entry_in slots slot = slice_index_or slots slot ([], record { value = []; stamp = 0 })

-- the entries of the slots of this order
abbrev pub in_order : List (List ℕ × Stored) → List ℕ → List (List ℕ × Stored)
in_order slots order = map (entry_in slots) order

-- each slot is in the order once, or free once, and there are at most as many as the limit
pub record AreSlots (limit count : ℕ) (order free : List ℕ) : Type 0 where
  pub distinct : IsDistinct nat_eq (order ++ free)
  pub in_range : All (λ slot. slot < count) (order ++ free)
  pub counted : count ≡ length order + length free
  pub within : count ≤ limit
