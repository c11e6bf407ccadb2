-- The places of the runs of a file: by level, slot and index, and level by level.
use Rattle.std.proofs.Common.{◌≡◌, ℕ, suc, ◌-◌, ◌<◌, ◌==◌, Bool, cond, List, [], ◌∷◌, length, refl, sym, ap, subst, arith}
use Rattle.std.proofs.lemmas.Bool.{eqb-true, eqb-false, eq-eqb, ne_eqb}
use Rattle.cola_cell.specs.Held.{Spots}
use Rattle.cola_clock.specs.Clock.{visible_slot}
use Rattle.cola_clock.specs.Marks.{Marks, no_marks, marks_at}
use Rattle.cola_layout.specs.Cells.{slot_cells}
use Rattle.cola_image.specs.Standing.{AreRunsTold, AreRunsAlike}
use Rattle.cola_laws.specs.Slots.{levels_of, all_marks_of, AreHeld}
use Rattle.cola_laws.proofs.InSlots.{held-marks}
use Rattle.cola_pairs.proofs.Order.{by_bool}
use Rattle.cola_cell.specs.ToldCells.{IsTold}
use Rattle.cola_cell.proofs.CellLists.{length-cells}
use Rattle.cola_verdict.specs.Tests.{Tested, IsOfRun, AreCellsTold, run_len}
use Rattle.cola_verdict.proofs.ByPlace.{Each, each-of_places, places-of_each}

slot-small : (t j : ℕ) → visible_slot t j < 2
unfolding visible_slot
slot-small t j = omega arith

visible-len : (file : Tested) (j : ℕ) → run_len file j (visible_slot file.clock j) ≡ (marks_at file.marks j).visible
visible-len file j =
    ap (λ (b : Bool). cond b (marks_at file.marks j).visible (marks_at file.marks j).shadow) (eq-eqb (visible_slot file.clock j) (visible_slot file.clock j) refl)

shadow-len : (file : Tested) (j : ℕ) → run_len file j (1 - visible_slot file.clock j) ≡ (marks_at file.marks j).shadow
shadow-len file j =
    ap (λ (b : Bool). cond b (marks_at file.marks j).visible (marks_at file.marks j).shadow)
    (ne_eqb (1 - visible_slot file.clock j) (visible_slot file.clock j) (λ e. let s = slot-small file.clock j in omega (arith, e, s)))

module _ (t : ℕ) (Q : ℕ → ℕ → ℕ → Type 0) where
  -- something holds of each place of both runs of a level with these marks
  abbrev pub OfRuns : ℕ → ℕ → Marks → List Marks → Type 0
  OfRuns j above m below =
      ((i : ℕ) → i < m.visible → Q j (visible_slot t j) i) × ((i : ℕ) → i < m.shadow → Q j (1 - visible_slot t j) i)

  -- the same of each level
  abbrev pub OfAllRuns : ℕ → List Marks → Type 0
  OfAllRuns j = Each no_marks (λ (m : Marks). 0) OfRuns j 0

module _ (file : Tested) (Q : ℕ → ℕ → ℕ → Type 0) where
  -- what holds of each place of the runs
  pub by-level : ((l s i : ℕ) → IsOfRun file l s i → Q l s i) → OfAllRuns file.clock Q 0 file.marks
  by-level h =
      each-of_places no_marks (λ (m : Marks). 0) (OfRuns file.clock Q) 0 file.marks
      (λ j l. (
        λ i k. h j (visible_slot file.clock j) i (record { level_in = l; slot_in = slot-small file.clock j; within = subst (λ (n : ℕ). i < n) (sym (visible-len file j)) k }),
        λ i k. h j (1 - visible_slot file.clock j) i (record { level_in = l; slot_in = omega arith; within = subst (λ (n : ℕ). i < n) (sym (shadow-len file j)) k }),
      ))

  pub by-place : OfAllRuns file.clock Q 0 file.marks → (l s i : ℕ) → IsOfRun file l s i → Q l s i
  by-place h l s i place =
      let both = places-of_each no_marks (λ (m : Marks). 0) (OfRuns file.clock Q) 0 file.marks h l place.level_in in
      by_bool (λ b. (s == visible_slot file.clock l) ≡ b → i < cond b (marks_at file.marks l).visible (marks_at file.marks l).shadow → Q l s i)
      (λ e k. subst (λ (x : ℕ). Q l x i) (sym (eqb-true s (visible_slot file.clock l) e)) (both.0 i k))
      (λ e k.
      let apart = eqb-false s (visible_slot file.clock l) e in
      let here = place.slot_in in
      let there = slot-small file.clock l in
      let other : 1 - visible_slot file.clock l ≡ s = other-slot s (visible_slot file.clock l) here there apart in
      subst (λ (x : ℕ). Q l x i) other (both.1 i k))
      (s == visible_slot file.clock l) refl place.within
    where
      other-slot : (a b : ℕ) → a < 2 → b < 2 → (a ≡ b → ⊥) → 1 - b ≡ a
      other-slot a b h k apart = omega (arith, apart)

-- ---- told runs

told-runs : (spots : Spots) (t j : ℕ) (marks : List Marks) → OfAllRuns t (λ l s i. IsTold (spots l s i)) j marks → AreRunsTold spots t j marks
told-runs spots t j [] h = tt
told-runs spots t j (m ∷ marks) h = (h.0.0, h.0.1, told-runs spots t (suc j) marks h.1)

runs-told : (spots : Spots) (t j : ℕ) (marks : List Marks) → AreRunsTold spots t j marks → OfAllRuns t (λ l s i. IsTold (spots l s i)) j marks
runs-told spots t j [] h = tt
runs-told spots t j (m ∷ marks) h = ((h.0, h.1), runs-told spots t (suc j) marks h.2)

pub cells-told : (file : Tested) → AreCellsTold file → AreRunsTold file.spots file.clock 0 file.marks
cells-told file h = told-runs file.spots file.clock 0 file.marks (by-level file (λ l s i. IsTold (file.spots l s i)) h)

pub told-cells : (file : Tested) → AreRunsTold file.spots file.clock 0 file.marks → AreCellsTold file
told-cells file h = by-place file (λ l s i. IsTold (file.spots l s i)) (runs-told file.spots file.clock 0 file.marks h)

-- ---- runs that are told alike

alike-runs : (spots others : Spots) (t j : ℕ) (marks : List Marks) → OfAllRuns t (λ l s i. others l s i ≡ spots l s i) j marks → AreRunsAlike spots others t j marks
alike-runs spots others t j [] h = tt
alike-runs spots others t j (m ∷ marks) h = (h.0.0, h.0.1, alike-runs spots others t (suc j) marks h.1)

pub cells-alike : (file : Tested) (others : Spots) → ((l s i : ℕ) → IsOfRun file l s i → others l s i ≡ file.spots l s i) → AreRunsAlike file.spots others file.clock 0 file.marks
cells-alike file others h = alike-runs file.spots others file.clock 0 file.marks (by-level file (λ l s i. others l s i ≡ file.spots l s i) h)

-- ---- the levels that the marks make

held-cells : (spots : Spots) (t j : ℕ) (marks : List Marks) → AreHeld (slot_cells spots) t j marks
held-cells spots t j [] = tt
held-cells spots t j (m ∷ marks) = (
  length-cells (spots j (visible_slot t j)) 0 m.visible,
  length-cells (spots j (1 - visible_slot t j)) 0 m.shadow,
  held-cells spots t (suc j) marks,
)

pub levels-marks : (spots : Spots) (t : ℕ) (marks : List Marks) → all_marks_of (levels_of (slot_cells spots) t 0 marks) ≡ marks
levels-marks spots t marks = held-marks (slot_cells spots) t 0 marks (held-cells spots t 0 marks)

levels-number : (spots : Spots) (t j : ℕ) (marks : List Marks) → length (levels_of (slot_cells spots) t j marks) ≡ length marks
levels-number spots t j [] = refl
levels-number spots t j (m ∷ marks) = ap suc (levels-number spots t (suc j) marks)

pub levels-length : (spots : Spots) (t : ℕ) (marks : List Marks) → length (levels_of (slot_cells spots) t 0 marks) ≡ length marks
levels-length spots t marks = levels-number spots t 0 marks
