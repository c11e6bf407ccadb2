-- The laws of merges at the bottom.
use Rattle.std.specs.Prelude.{◌≡◌, ℕ, List, [], ◌∷◌}
use Rattle.std.specs.List.{AllByRecursion}
use Rattle.cola_runs.specs.Cells.{link_of, IsOldValue}
use Rattle.cola_runs.specs.Seen.{seen, holds, answer}
use Rattle.cola_runs.specs.Weave.{bottom_items, kept_or_none}
use Rattle.cola_cell.specs.declared.cell.Run.{Run}
use Rattle.cola_cell.specs.Held.{Held}
use Rattle.cola_cell.specs.Order.{key_cmp}
use Rattle.cola_cell.specs.ToldCells.{run_cells, shadow_cells}
use Rattle.cola_merge.specs.declared.merging.Merger.{Merger}
use Rattle.cola_merge.specs.Heads.{IsUsedUp}
use Rattle.cola_merge.specs.Advance.{IsGoing, whole_run}
use Rattle.cola_bottom.specs.Bottom.{bottom_of, bottom_run}

-- what a merge on its way has emitted is old values with link 0
abbrev pub EmitsValues : Type 0
EmitsValues = (held : Held) (own incoming : Run) (slot : ℕ) (m : Merger) →
    IsGoing held (bottom_of own incoming slot) m →
    AllByRecursion (λ c. IsOldValue c × (link_of c ≡ 0)) (shadow_cells held own.level)

-- once it is done, each key has the item of the incoming run over the own run, and a tombstone leaves nothing
abbrev pub AnswersOfBothRuns : Type 0
AnswersOfBothRuns = (held : Held) (own incoming : Run) (slot : ℕ) (m : Merger) (key : List ℕ) →
    IsGoing held (bottom_of own incoming slot) m → IsUsedUp (bottom_of own incoming slot) m →
    holds (seen key_cmp key (shadow_cells held own.level))
    ≡ kept_or_none bottom_items (answer key_cmp key (run_cells held incoming ∷ run_cells held own ∷ []))

-- once it is done, its cells are those that the two runs weave
abbrev pub EmitsWholeRun : Type 0
EmitsWholeRun = (held : Held) (own incoming : Run) (slot : ℕ) (m : Merger) →
    IsGoing held (bottom_of own incoming slot) m → IsUsedUp (bottom_of own incoming slot) m →
    shadow_cells held own.level ≡ bottom_run held own incoming

-- the whole run of its aim is that which the two runs weave
abbrev pub WholeRunIsWoven : Type 0
WholeRunIsWoven = (held : Held) (own incoming : Run) (slot : ℕ) →
    whole_run held (bottom_of own incoming slot) ≡ bottom_run held own incoming
