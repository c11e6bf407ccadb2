-- What a merge at the bottom has emitted.
use Rattle.std.proofs.Common.{◌≡◌, ℕ, ◌+◌, ◌-◌, ◌≤◌, List, [], ◌∷◌, ◌++◌, length, ap, sym, subst, ◌∙◌, arith}
use Rattle.std.specs.Cmp.Lexicographic.{nat_list_cmp_total}
use Rattle.std.specs.List.{AllByRecursion}
use Rattle.cola_runs.specs.Cells.{link_of, IsOldValue}
use Rattle.cola_runs.specs.Seen.{seen, holds, answer}
use Rattle.cola_runs.specs.Weave.{bottom_items, kept_or_none}
use Rattle.cola_runs.proofs.Builds.{front_of_weave, used_up, bottom_values, bottom_answers}
use Rattle.cola_cell.specs.declared.cell.Run.{Run}
use Rattle.cola_cell.specs.Held.{Held, LawCell}
use Rattle.cola_merge.specs.declared.merging.Merger.{Merger}
use Rattle.cola_cell.specs.ToldCells.{run_cells, shadow_cells}
use Rattle.cola_cell.specs.Order.{key_cmp}
use Rattle.cola_merge.specs.Heads.{IsUsedUp, build_of}
use Rattle.cola_merge.specs.Advance.{IsGoing}
use Rattle.cola_cell.proofs.CellLists.{length-cells}
use Rattle.cola_bottom.specs.Bottom.{bottom_of, bottom_run}

all_front : (P : LawCell → Type 0) (xs ys : List LawCell) → AllByRecursion P (xs ++ ys) → AllByRecursion P xs
all_front P [] ys h = tt
all_front P (x ∷ xs) ys h = (h.0, all_front P xs ys h.1)

module _ (held : Held) (own incoming : Run) (slot : ℕ) (m : Merger) (going : IsGoing held (bottom_of own incoming slot) m) where
  pub emitted_values : AllByRecursion (λ c. IsOldValue c × (link_of c ≡ 0)) (shadow_cells held own.level)
  emitted_values =
      let front = front_of_weave key_cmp bottom_items (run_cells held own) (run_cells held incoming) [] (build_of held (bottom_of own incoming slot) m) going.under_way in
      all_front (λ c. IsOldValue c × (link_of c ≡ 0)) (shadow_cells held own.level) front.0
      (subst (AllByRecursion (λ c. IsOldValue c × (link_of c ≡ 0))) (sym front.1) (bottom_values key_cmp (run_cells held own) (run_cells held incoming)))

  pub emitted_whole : IsUsedUp (bottom_of own incoming slot) m → shadow_cells held own.level ≡ bottom_run held own incoming
  emitted_whole u =
      let a : length (run_cells held own) ≡ own.len = length-cells (held.spots own.level own.slot) 0 own.len in
      let b : length (run_cells held incoming) ≡ incoming.len = length-cells (held.spots incoming.level incoming.slot) 0 incoming.len in
      used_up key_cmp bottom_items (run_cells held own) (run_cells held incoming) [] (build_of held (bottom_of own incoming slot) m) going.under_way
      (zeros (length (run_cells held own)) (length (run_cells held incoming)) own.len incoming.len m.own.at m.incoming.at m.sample.at a b u.own u.incoming)
    where
      zeros : (x y a b p q r : ℕ) → x ≡ a → y ≡ b → a ≤ p → b ≤ q → x - p + (y - q) + (0 - r) ≡ 0
      zeros x y a b p q r e f h k = omega (arith, e, f, h, k)

  pub emitted_answers : (key : List ℕ) → IsUsedUp (bottom_of own incoming slot) m →
      holds (seen key_cmp key (shadow_cells held own.level)) ≡ kept_or_none bottom_items (answer key_cmp key (run_cells held incoming ∷ run_cells held own ∷ []))
  emitted_answers key u =
      ap (λ (cells : List LawCell). holds (seen key_cmp key cells)) (emitted_whole u)
      ∙ bottom_answers nat_list_cmp_total (run_cells held own) (run_cells held incoming) [] going.own_rises key
