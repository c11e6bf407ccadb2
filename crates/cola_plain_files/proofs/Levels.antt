-- Levels of the plain program, and the runs that are seen from one of them down.
use Rattle.std.proofs.Common.{◌≡◌, ◌↔◌, ℕ, zero, suc, ◌+◌, ◌<◌, IsTrue, IfOk, Result, length, drop, get_or, subst, Bool, true, false, ◌&&◌, cond, Vec, List, [], ◌∷◌, ◌++◌, sym, ap, ◌∙◌, append_assoc, add-one, arith}
use Rattle.cola_cell.specs.Held.{LawCell, Stamped}
use Rattle.cola_plain_runs.specs.Runs.{as_run}
use Rattle.cola_plain_runs.specs.declared.cells.PlainCell.{PlainCell}
use Rattle.cola_clock.specs.Clock.{period, is_odd}
use Rattle.cola_laws.specs.Chain.{visibles, shadows}
use Rattle.std.proofs.lemmas.List.{drop-map}
use Rattle.cola_plain_runs.proofs.Setting.{mapped_from}
use Rattle.cola_plain_files.specs.declared.verdict.level.PlainLevel.{PlainLevel}
use Rattle.cola_plain_files.specs.declared.verdict.verdicts.LevelTest.TheVariants.{Shadow}
use Rattle.cola_plain_files.specs.Tests.{PassesAt}
use Rattle.cola_plain_files.specs.Levels.{as_level, as_levels, as_runs, shown_of, runs_from}
use Rattle.cola_verdict.specs.Tests.{FileLevel, level_at, below_at, HasShadow}

-- the first of the runs that are seen, and the rest
pub runs_from_next : (shadow next : Bool) (t j k : ℕ) (l : FileLevel) (ls : List FileLevel) → next ≡ (shadow && is_odd (period t j)) → k ≡ j + 1 →
    runs_from shadow t j (l ∷ ls) ≡ shown_of shadow l ∷ runs_from next t k ls
runs_from_next true next t j k l ls e f =
    ap (λ n. l.shadow ∷ cond (is_odd (period t j)) (shadows t n ls) (visibles ls)) (sym (f ∙ add-one j))
    ∙ ap (λ b. l.shadow ∷ cond b (shadows t k ls) (visibles ls)) (sym e)
runs_from_next false next t j k l ls e f = ap (λ b. l.visible ∷ cond b (shadows t k ls) (visibles ls)) (sym e)

-- the runs so far, and those of the rest, after one run more
pub runs_more : (made now whole rest rests : List (List LawCell)) (run : List LawCell) → rests ≡ run ∷ rest → now ≡ made ++ run ∷ [] → made ++ rests ≡ whole → now ++ rest ≡ whole
runs_more made now whole rest rests run e n h = ap (λ z. z ++ rest) n ∙ append_assoc made (run ∷ []) rest ∙ ap (λ z. made ++ z) (sym e) ∙ h

pub runs_append : {A : Type 0} (xs : List (Vec (PlainCell (List ℕ) Stamped) A)) (x : Vec (PlainCell (List ℕ) Stamped) A) (run : List LawCell) → as_run x.items ≡ run → as_runs (xs ++ x ∷ []) ≡ as_runs xs ++ run ∷ []
runs_append [] x run e = ap (λ z. z ∷ []) e
runs_append (y ∷ xs) x run e = ap (λ z. as_run y.items ∷ z) (runs_append xs x run e)

-- ---- a level among all

level_here : (levels : List PlainLevel) (j : ℕ) (l : PlainLevel) → j < length levels → l ≡ get_or levels j l → level_at (as_levels levels) j ≡ as_level l
level_here [] j l h e = absurd (omega arith)
level_here (x ∷ levels) zero l h e = ap as_level (sym e)
level_here (x ∷ levels) (suc j) l h e = level_here levels j l (omega arith) e

pub level_visible : (levels : List PlainLevel) (j : ℕ) (l : PlainLevel) (run : List LawCell) → j < length levels → l ≡ get_or levels j l → run ≡ as_run l.visible.items → run ≡ (level_at (as_levels levels) j).visible
level_visible levels j l run h e v = v ∙ ap (λ (x : FileLevel). x.visible) (sym (level_here levels j l h e))

module _ (levels : List PlainLevel) (j : ℕ) (l : PlainLevel) (within : j < length levels) (is : l ≡ get_or levels j l) where
  below_here : (below : List PlainLevel) → below ≡ drop (j + 1) levels → as_levels below ≡ below_at (as_levels levels) j
  below_here below rest = ap as_levels (rest ∙ ap (λ n. drop n levels) (add-one j)) ∙ sym (drop-map as_level (suc j) levels)

  -- what was found of a level and those below it
  pub at_level : (below : List PlainLevel) → below ≡ drop (j + 1) levels → (P : FileLevel → List FileLevel → Type 0) → P (as_level l) (as_levels below) → P (level_at (as_levels levels) j) (below_at (as_levels levels) j)
  at_level below rest P h = subst (P (level_at (as_levels levels) j)) (below_here below rest) (subst (λ (x : FileLevel). P x (as_levels below)) (sym (level_here levels j l within is)) h)

  -- what was found of the levels from one down
  pub from_level : (rest : List PlainLevel) → rest ≡ drop j levels → (P : List FileLevel → Type 0) → P (as_levels rest) → P (level_at (as_levels levels) j ∷ below_at (as_levels levels) j)
  from_level rest e P h =
      subst P (ap as_levels e ∙ sym (drop-map as_level j levels) ∙ mapped_from as_level levels j l within is ∙ ap (λ z. as_level l ∷ z) (ap (λ n. drop n (as_levels levels)) (add-one j))
      ∙ ap (λ z. z ∷ below_at (as_levels levels) j) (sym (level_here levels j l within is))) h

-- the test of a shadow below level 0
pub shadow_here : {E : Type 0} (r : Result Bool E) (most t j i : ℕ) (levels : List FileLevel) → j ≡ suc i →
    IfOk r (λ holds. IsTrue holds ↔ HasShadow most t j (level_at levels i).visible (level_at levels j) (below_at levels j)) → IfOk r (λ holds. IsTrue holds ↔ PassesAt Shadow most t levels j)
shadow_here r most t j i levels e =
    subst (λ (n : ℕ). IfOk r (λ holds. IsTrue holds ↔ HasShadow most t n (level_at levels i).visible (level_at levels n) (below_at levels n)) → IfOk r (λ holds. IsTrue holds ↔ PassesAt Shadow most t levels n))
    (sym e) (λ h. h)
