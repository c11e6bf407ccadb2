-- Levels as they stand on an object of cells, whatever its cells are.
use Rattle.std.specs.Prelude.{◌≡◌, ℕ, suc, ◌-◌, ◌<◌, ◌≤◌, ◌^◌, true, false, List, [], ◌∷◌, length, ⊤, ◌+◌}
use Rattle.cola_clock.specs.Clock.{works, visible_slot}
use Rattle.cola_clock.specs.Marks.{Marks, AreChainMarks}
use Rattle.cola_cell.specs.Held.{Held}
use Rattle.cola_merge.specs.Heads.{fresh, IsReady}
use Rattle.cola_level.specs.declared.level.Level.{Level}
use Rattle.cola_level.specs.Marks.{all_marks_of, level_with}
use Rattle.cola_level.specs.Aims.{aim_at}

-- level i + 1, under a visible run of `above` cells and over levels with the marks `below`, stands on the object at clock t:
-- its shadow is the object's, in the slot that is not visible; where the level works, its merge may be called, and where it
-- rests, it has none under way
pub record Fits (held : Held) (t i above : ℕ) (l : Level) (below : List Marks) : Type 0 where
  pub level_in : suc i < held.fixed.levels
  pub shadow_is : l.shadow ≡ (held.shadows (suc i)).len
  pub slot_is : (held.shadows (suc i)).slot ≡ 1 - visible_slot t (suc i)
  pub ready : works t (suc i) ≡ true → IsReady held (aim_at t i l.visible above below) l.merger
  pub rests : works t (suc i) ≡ false → l.merger ≡ fresh

-- the same of each level from level i + 1 on
abbrev pub AreFit : Held → ℕ → ℕ → ℕ → List Level → Type 0
AreFit held t i above [] = ⊤
AreFit held t i above (l ∷ below) = Fits held t i above l (all_marks_of below) × AreFit held t (suc i) l.visible below

-- so many levels from level i + 1 on rest at the clock
abbrev pub DoRest : ℕ → ℕ → ℕ → Type 0
DoRest t i n = (k : ℕ) → k < n → works t (i + k + 1) ≡ false

-- the length of the last visible run of levels, or of the one above them, where there are none
abbrev pub last_visible : ℕ → List Level → ℕ
last_visible above [] = above
last_visible above (l ∷ ls) = last_visible l.visible ls

-- level 0 between two mutations: its shadow is empty and stands in the slot that is not visible, and no merge is under way
pub record IsTop (held : Held) (t : ℕ) (top : Level) : Type 0 where
  pub empty : (held.shadows 0).len ≡ 0
  pub slot_is : (held.shadows 0).slot ≡ 1 - visible_slot t 0
  pub merger : top.merger ≡ fresh

-- the levels from level 0 on stand on the object
abbrev pub AreAllFit : Held → ℕ → List Level → Type 0
AreAllFit held t [] = ⊤
AreAllFit held t (top ∷ below) = IsTop held t top × AreFit held t 0 top.visible below

-- a chain between two mutations, at clock t: it has level 0 and one more at least, as many as the object, they stand on it,
-- and they have marks that they may have
pub record IsChain (held : Held) (t : ℕ) (levels : List Level) : Type 0 where
  pub many : 2 ≤ length levels
  pub counted : length levels ≡ held.fixed.levels
  pub clock_in : t < 2 ^ length levels
  pub fit : AreAllFit held t levels
  pub marks : AreChainMarks t (all_marks_of levels)

-- levels with these marks, none of whose heads was read
abbrev pub levels_with : List Marks → List Level
levels_with [] = []
levels_with (m ∷ ms) = level_with m ∷ levels_with ms

-- the object's shadows from level j on are as long as these marks say, and stand in the slots that are not visible
abbrev pub ArePlaced : Held → ℕ → ℕ → List Marks → Type 0
ArePlaced held t j [] = ⊤
ArePlaced held t j (m ∷ ms) = ((held.shadows j).len ≡ m.shadow) × ((held.shadows j).slot ≡ 1 - visible_slot t j) × ArePlaced held t (suc j) ms
