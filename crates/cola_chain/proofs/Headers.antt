-- A chain and the header of its file.
use Rattle.std.proofs.Common.{◌≡◌, inl, inr, ℕ, suc, ◌+◌, ◌-◌, ◌<◌, ◌≤◌, Bool, true, false, cond, List, [], ◌∷◌, length, refl, arith}
use Rattle.cola_clock.specs.Clock.{period, is_odd, visible_slot}
use Rattle.cola_clock.specs.Marks.{Marks, AreAllMarks}
use Rattle.cola_clock.proofs.Wrap.{slot-of_parity}
use Rattle.cola_cell.specs.Held.{Held, Spots}
use Rattle.cola_cell.specs.Places.{IsPlace}
use Rattle.cola_image.specs.Standing.{AreRunsAlike}
use Rattle.cola_level.specs.declared.level.Level.{Level}
use Rattle.cola_level.specs.Marks.{all_marks_of}
use Rattle.cola_mutation.specs.Levels.{AreFit, IsChain}
use Rattle.cola_mutation.proofs.Advancing.{visible_apart}
use Rattle.cola_run.specs.Saving.{SameReads}

two-slots : (b : Bool) (v : ℕ) → v ≡ cond b 1 0 → v < 2
two-slots true v e = omega (arith, e)
two-slots false v e = omega (arith, e)

pub slot-in : (t j : ℕ) → visible_slot t j < 2
slot-in t j = two-slots (is_odd (period t j)) (visible_slot t j) (slot-of_parity t j)

-- spots that are alike at every place are alike in each run
pub alike-places : (levels : ℕ) (spots others : Spots) (t j above : ℕ) (marks : List Marks) → AreAllMarks 0 t j above marks → j + length marks ≤ levels →
    ((l s i : ℕ) → IsPlace levels l s i → others l s i ≡ spots l s i) → AreRunsAlike spots others t j marks
alike-places levels spots others t j above [] marks within same = tt
alike-places levels spots others t j above (m ∷ below) marks within same = (
  λ i h. same j (visible_slot t j) i (record { level_in = omega (arith, within); slot_in = slot-in t j; index_in = omega (arith, h, marks.0.visible_fits) }),
  λ i h. same j (1 - visible_slot t j) i (record { level_in = omega (arith, within); slot_in = omega arith; index_in = omega (arith, h, marks.0.shadow_fits) }),
  alike-places levels spots others t (suc j) m.visible below marks.1 (omega (arith, within)) same,
)

alike-behind : (held now : Held) (t i above : ℕ) (levels : List Level) → SameReads held now → AreFit held t i above levels → AreRunsAlike held.spots now.spots t (suc i) (all_marks_of levels)
alike-behind held now t i above [] same fit = tt
alike-behind held now t i above (l ∷ below) same fit = (
  λ k h. same.spots_stay (suc i) (visible_slot t (suc i)) k (inl (visible_apart t (suc i) (held.shadows (suc i)).slot fit.0.slot_is)),
  λ k h. same.spots_stay (suc i) (1 - visible_slot t (suc i)) k (inr (let e = fit.0.shadow_is in omega (arith, e, h))),
  alike-behind held now t (suc i) l.visible below same fit.1,
)

-- what a store reads is alike in each run
pub alike-read : (held now : Held) (t : ℕ) (levels : List Level) → IsChain held t levels → SameReads held now → AreRunsAlike held.spots now.spots t 0 (all_marks_of levels)
alike-read held now t [] chain same = tt
alike-read held now t (top ∷ below) chain same = (
  λ k h. same.spots_stay 0 (visible_slot t 0) k (inl (visible_apart t 0 (held.shadows 0).slot chain.fit.0.slot_is)),
  λ k h. absurd (let e = (chain.marks.0.first refl).empty in omega (arith, e, h)),
  alike-behind held now t 0 top.visible below same chain.fit.1,
)
