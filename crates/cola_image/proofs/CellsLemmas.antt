-- The lists of cells that the laws of levels take of a slot.
use Rattle.std.proofs.Common.{◌≡◌, ℕ, suc, ◌-◌, List, [], ◌∷◌, refl, sym, ap, ◌∙◌, subst, arith}
use Rattle.cola_cell.specs.Held.{LawCell, Spot, Spots}
use Rattle.cola_clock.specs.Clock.{visible_slot}
use Rattle.cola_clock.specs.Marks.{Marks}
use Rattle.cola_laws.specs.Chain.{Level}
use Rattle.cola_laws.specs.Slots.{levels_of}
use Rattle.cola_cell.specs.ToldCells.{IsTold, AreTold}
use Rattle.cola_cell.proofs.CellLists.{cells-same}
use Rattle.cola_layout.specs.Cells.{slot_cells}
use Rattle.cola_image.specs.Standing.{AreRunsTold, IsSlotAlike, AreRunsAlike}

-- cells that are told alike are listed alike
slot-alike : (spots others : Spots) (level slot count : ℕ) → IsSlotAlike spots others level slot count → slot_cells others level slot count ≡ slot_cells spots level slot count
slot-alike spots others level slot count same = cells-same (others level slot) (spots level slot) 0 count (λ k h. same k (omega (arith, h)))

-- and levels
pub levels-alike : (spots others : Spots) (t j : ℕ) (marks : List Marks) → AreRunsAlike spots others t j marks →
    levels_of (slot_cells others) t j marks ≡ levels_of (slot_cells spots) t j marks
levels-alike spots others t j [] same = refl
levels-alike spots others t j (m ∷ below) same =
    ap (λ (cells : List LawCell). record { visible = cells; shadow = slot_cells others j (1 - visible_slot t j) m.shadow; own = m.own; incoming = m.incoming; sampled = m.sampled } ∷ levels_of (slot_cells others) t (suc j) below)
    (slot-alike spots others j (visible_slot t j) m.visible same.0)
    ∙ ap (λ (cells : List LawCell). record { visible = slot_cells spots j (visible_slot t j) m.visible; shadow = cells; own = m.own; incoming = m.incoming; sampled = m.sampled } ∷ levels_of (slot_cells others) t (suc j) below)
    (slot-alike spots others j (1 - visible_slot t j) m.shadow same.1)
    ∙ ap (λ (ls : List (Level (List ℕ) _)). record { visible = slot_cells spots j (visible_slot t j) m.visible; shadow = slot_cells spots j (1 - visible_slot t j) m.shadow; own = m.own; incoming = m.incoming; sampled = m.sampled } ∷ ls)
    (levels-alike spots others t (suc j) below same.2)

-- what is told alike is told
slot-told : (spots others : Spots) (level slot count : ℕ) → IsSlotAlike spots others level slot count → AreTold (spots level slot) count → AreTold (others level slot) count
slot-told spots others level slot count same told index h = subst (λ (s : Spot). IsTold s) (sym (same index h)) (told index h)

pub runs-told : (spots others : Spots) (t j : ℕ) (marks : List Marks) → AreRunsAlike spots others t j marks → AreRunsTold spots t j marks → AreRunsTold others t j marks
runs-told spots others t j [] same told = tt
runs-told spots others t j (m ∷ below) same told = (
  slot-told spots others j (visible_slot t j) m.visible same.0 told.0,
  slot-told spots others j (1 - visible_slot t j) m.shadow same.1 told.1,
  runs-told spots others t (suc j) below same.2 told.2,
)
