-- Feeds, runs and merges that begin.
use Rattle.std.proofs.Common.{◌≡◌, ◌≢◌, ◌⊎◌, inl, inr, ℕ, suc, ◌+◌, ◌*◌, ◌/◌, ◌≤◌, List, [], ◌∷◌, Some, refl, ap, sym, ◌∙◌, arith}
use Rattle.std.specs.Option.{option_map}
use Rattle.std.specs.List.{slice_get}
use Rattle.std.proofs.lemmas.Option.{slice_get-map, none-some, same_Some}
use Rattle.std.proofs.lemmas.Bool.Decides.{leb_tells}
use Rattle.cola_runs.specs.Cells as laws
use Rattle.cola_runs.specs.Cells.{sample}
use Rattle.cola_runs.specs.Steps.{begun}
use Rattle.cola_runs.proofs.Samples.{sample_at}
use Rattle.cola_cell.specs.declared.cell.Run.{Run}
use Rattle.cola_cell.specs.Held.{Held, Spot, LawCell}
use Rattle.cola_cell.specs.Listed.{IsRun}
use Rattle.cola_cell.proofs.RunLemmas.{run_stays}
use Rattle.cola_merge.specs.declared.aims.Feed.TheVariants as feed
use Rattle.cola_merge.specs.declared.aims.Aim.{Aim}
use Rattle.cola_cell.specs.ToldCells.{cell_at, cells, run_cells}
use Rattle.cola_merge.specs.Feeds.{feed_keys}
use Rattle.cola_merge.specs.Heads.{fresh, build_of}
use Rattle.cola_merge.specs.States.{Grows}
use Rattle.cola_cell.proofs.CellLists.{get-cells, past-cells}
use Rattle.cola_merge.proofs.Kept.{third}

-- ---- the sample

same_lists : {X : Type 0} (xs ys : List X) → ((i : ℕ) → slice_get xs i ≡ slice_get ys i) → xs ≡ ys
same_lists [] [] h = refl
same_lists [] (y ∷ ys) h = absurd (none-some y (h 0))
same_lists (x ∷ xs) [] h = absurd (none-some x (sym (h 0)))
same_lists {X} (x ∷ xs) (y ∷ ys) h = ap (λ (z : X). z ∷ xs) (same_Some x y (h 0)) ∙ ap (λ (zs : List X). y ∷ zs) (same_lists xs ys (λ i. h (suc i)))

-- a cell of the sample, by where it stands
sampled_cell : (spots : ℕ → Spot) (len i : ℕ) → slice_get (cells (λ k. spots (8 * k + 7)) 0 (len / 8)) i ≡ slice_get (cells spots 0 len) (8 * i + 7)
sampled_cell spots len i = elim (leb_tells (len / 8) i) [
  | inl e ↦ let h = e.1 in past-cells (λ k. spots (8 * k + 7)) 0 (len / 8) i h ∙ sym (past-cells spots 0 len (8 * i + 7) (omega (arith, h)))
  | inr e ↦
      let h = e.1 in
      get-cells (λ k. spots (8 * k + 7)) 0 (len / 8) i h
      ∙ ap (λ (n : ℕ). Some (cell_at (spots n))) (let e : 8 * (0 + i) + 7 ≡ 0 + (8 * i + 7) = omega arith in e)
      ∙ sym (get-cells spots 0 len (8 * i + 7) (omega (arith, h)))
]

pub sampled_feed : (held : Held) (run : Run) → feed_keys held (feed.Sampled run) ≡ sample (run_cells held run)
sampled_feed held run =
    let sampled : List LawCell = cells (λ k. held.spots run.level run.slot (8 * k + 7)) 0 (run.len / 8) in
    same_lists (feed_keys held (feed.Sampled run)) (sample (run_cells held run))
    (λ i. slice_get-map laws.key_of sampled i
    ∙ ap (option_map laws.key_of) (sampled_cell (held.spots run.level run.slot) run.len i)
    ∙ sym (sample_at i (run_cells held run)))

-- ---- a merge that begins

pub fresh_begun : (held : Held) (aim : Aim) → (held.shadows aim.level).len ≡ 0 → build_of held aim fresh ≡ begun
fresh_begun held aim e =
    ap (λ (n : ℕ). record { own = 0; incoming = 0; sampled = 0; done = cells (held.spots aim.level (held.shadows aim.level).slot) 0 n }) e

-- ---- a shadow that grows

pub grown_keeps : (old new : Held) (level : ℕ) (run : Run) (cs : List LawCell) → Grows old new level → (run.level ≢ level) ⊎ (run.slot ≢ (old.shadows level).slot) ⊎ (run.len ≤ (old.shadows level).len) →
    IsRun old run cs → IsRun new run cs
grown_keeps old new level run cs g d h = run_stays old new run cs (λ i l. g.others_stay run.level run.slot i (third (λ k. omega (arith, k, l)) d)) h
