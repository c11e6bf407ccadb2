-- The visible runs of a chain as a search takes them.
use Rattle.std.proofs.Common.{◌≡◌, ℕ, suc, ◌+◌, ◌<◌, ◌≤◌, ◌^◌, Bool, true, false, cond, List, [], ◌∷◌, length, All, Option, sym, subst, arith}
use Rattle.std.specs.List.{AllByRecursion}
use Rattle.std.specs.Ordering.{is_lt}
use Rattle.std.proofs.lemmas.List.Elements.{All-from_recursion}
use Rattle.std.proofs.Math.Pow.{pow_mono}
use Rattle.cola_clock.specs.Clock.{visible_slot}
use Rattle.cola_clock.specs.Marks.{AreAllMarks}
use Rattle.cola_runs.specs.Search as laws
use Rattle.cola_runs.specs.Cells.{key_of}
use Rattle.cola_laws.specs.Chain.{visibles}
use Rattle.cola_laws.proofs.Facts.{visible-sampled}
use Rattle.cola_cell.specs.declared.cell.Run.{Run}
use Rattle.cola_cell.specs.Held.{Held, LawCell, Stamped}
use Rattle.cola_cell.specs.Order.{key_cmp}
use Rattle.cola_cell.specs.ToldCells.{cells}
use Rattle.cola_cell.proofs.CellLists.{length-cells}
use Rattle.cola_cell.proofs.ToldRuns.{told_is}
use Rattle.cola_image.specs.Standing.{AreRunsTold}
use Rattle.cola_look.specs.Runs.{HasRun, AreRuns, BeginsNear}
use Rattle.cola_level.specs.declared.level.Level.{Level}
use Rattle.cola_level.specs.Aims.{visible_run}
use Rattle.cola_level.specs.Marks.{all_marks_of}
use Rattle.cola_level.specs.Standing.{all_stood}
use Rattle.cola_mutation.specs.Levels.{IsChain}
use Rattle.cola_mutation.specs.Standing.{StandsFor}
use Rattle.cola_chain.specs.Runs.{visible_runs, visible_lists, AreSearched}
use Rattle.cola_chain.proofs.Headers.{slot-in}

pub runs-have : (held : Held) (t j above : ℕ) (levels : List Level) → AreAllMarks 0 t j above (all_marks_of levels) → j + length levels ≤ held.fixed.levels → AllByRecursion (HasRun held) (visible_runs t j levels)
runs-have held t j above [] marks within = tt
runs-have held t j above (l ∷ ls) marks within = (
  record { level_in = omega (arith, within); slot_in = slot-in t j; within = marks.0.visible_fits },
  runs-have held t (suc j) l.visible ls marks.1 (omega (arith, within)),
)

runs-are : (held : Held) (t j : ℕ) (levels : List Level) → AreRunsTold held.spots t j (all_marks_of levels) → AreRuns held (visible_runs t j levels) (visibles (all_stood held t j (all_marks_of levels)))
runs-are held t j [] told = tt
runs-are held t j (l ∷ ls) told = (told_is held (visible_run t j l.visible) told.0, runs-are held t (suc j) ls told.2)

place-within : (key : List ℕ) (list : List LawCell) → laws.place key_cmp key list ≤ length list
place-within key [] = omega arith
place-within key (c ∷ list) = placed (is_lt (key_cmp (key_of c) key)) (laws.place key_cmp key list) (length list) (place-within key list)
  where
    placed : (b : Bool) (p n : ℕ) → p ≤ n → cond b (suc p) 0 ≤ suc n
    placed true p n h = omega (arith, h)
    placed false p n h = omega arith

begins-near : (held : Held) (t above : ℕ) (levels : List Level) → AreAllMarks 0 t 0 above (all_marks_of levels) → (key : List ℕ) → BeginsNear key (visible_lists held t levels)
begins-near held t above [] marks key = tt
begins-near held t above (l ∷ ls) marks key =
    let e = length-cells (held.spots 0 (visible_slot t 0)) 0 l.visible in
    let p = place-within key (cells (held.spots 0 (visible_slot t 0)) 0 l.visible) in
    let f : l.visible ≤ 4 = marks.0.visible_fits in
    omega (arith, e, p, f)

pub searched : (held : Held) (most t : ℕ) (levels : List Level) (m : List ℕ → Option Stamped) → IsChain held t levels → StandsFor held most t levels m →
    AreSearched held (visible_runs t 0 levels) (visible_lists held t levels) m
searched held most t [] m chain stands = absurd stands.sound
searched held most t (top ∷ below) m chain stands = record {
  told = runs-are held t 0 (top ∷ below) stands.told;
  sampled = visible-sampled key_cmp most t 0 (visible_lists held t (top ∷ below)) stands.sound.sound.visible;
  near = begins-near held t 0 (top ∷ below) chain.marks;
  values = stands.sound.sound.stands;
}

pub visible-has : (held : Held) (t : ℕ) (levels : List Level) (runs : List Run) → IsChain held t levels → runs ≡ visible_runs t 0 levels → All (HasRun held) runs
visible-has held t levels runs chain e =
    let n = chain.counted in
    subst (λ (rs : List Run). All (HasRun held) rs) (sym e) (All-from_recursion (HasRun held) (visible_runs t 0 levels) (runs-have held t 0 0 levels chain.marks (omega (arith, n))))

pub clock-few : (t n : ℕ) → t < 2 ^ n → n ≤ 23 → t < 8388608
clock-few t n h few = let p = pow_mono few in omega (arith, h, p)
