-- Told runs and the lists that are taken of them.
use Rattle.std.proofs.Common.{◌≡◌, ℕ, zero, suc, ◌+◌, ◌<◌, List, [], ◌∷◌, length, refl, ap, sym, subst, ◌∙◌, arith}
use Rattle.cola_cell.specs.declared.cell.Run.{Run}
use Rattle.cola_cell.specs.Held.{Held, Spot, Told, LawCell}
use Rattle.cola_cell.specs.Listed.{Stands, IsRun}
use Rattle.cola_cell.specs.ToldCells.{cell_at, IsTold, cells, AreTold, run_cells}
use Rattle.cola_cell.proofs.CellLists.{length-cells, told-stand}

pub told_is : (held : Held) (run : Run) → AreTold (held.spots run.level run.slot) run.len → IsRun held run (run_cells held run)
told_is held run t = record {
  length_is = sym (length-cells (held.spots run.level run.slot) 0 run.len);
  stands = told-stand (held.spots run.level run.slot) 0 run.len (λ k h. t k (omega (arith, h)));
}

stand_told : (spots : ℕ → Spot) (i : ℕ) (cs : List LawCell) → Stands spots i cs → (k : ℕ) → k < length cs → IsTold (spots (i + k))
stand_told spots i [] h k l = absurd (omega (arith, l))
stand_told spots i (c ∷ cs) h zero l =
    let e : spots (i + 0) ≡ Told c = ap spots (let z : i + 0 ≡ i = omega arith in z) ∙ h.0 in subst (λ (x : Spot). x ≡ Told (cell_at x)) (sym e) refl
stand_told spots i (c ∷ cs) h (suc k) l =
    subst (λ (n : ℕ). IsTold (spots n)) (let z : suc i + k ≡ i + suc k = omega arith in z) (stand_told spots (suc i) cs h.1 k (omega (arith, l)))

pub run_told : (held : Held) (run : Run) (cs : List LawCell) → IsRun held run cs → AreTold (held.spots run.level run.slot) run.len
run_told held run cs h k l =
    subst (λ (n : ℕ). IsTold (held.spots run.level run.slot n)) (let z : 0 + k ≡ k = omega arith in z)
    (stand_told (held.spots run.level run.slot) 0 cs h.stands k (let e = h.length_is in omega (arith, e, l)))

stand_same : (spots : ℕ → Spot) (i : ℕ) (cs : List LawCell) → Stands spots i cs → cells spots i (length cs) ≡ cs
stand_same spots i [] h = refl
stand_same spots i (c ∷ cs) h =
    ap (λ (x : Spot). cell_at x ∷ cells spots (suc i) (length cs)) h.0 ∙ ap (λ (r : List LawCell). c ∷ r) (stand_same spots (suc i) cs h.1)

pub run_same : (held : Held) (run : Run) (cs : List LawCell) → IsRun held run cs → run_cells held run ≡ cs
run_same held run cs h = ap (λ (n : ℕ). cells (held.spots run.level run.slot) 0 n) h.length_is ∙ stand_same (held.spots run.level run.slot) 0 cs h.stands
